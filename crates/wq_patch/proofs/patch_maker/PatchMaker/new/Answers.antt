-- There is no patch, and no record is passed.
use Rattle.std.proofs.Common.{refl}
use Rattle.wq_patch.proofs.PatchRuns.{left_new, rows_new, within_new}
use Rattle.wq_patch.proofs.patch_maker.PatchMaker.new.Goals as goal

pub returns-clause-rows : goal.returns-clause-rows
returns-clause-rows c = rows_new _ c.new.ensures.items refl refl c.new-2.ensures.items refl

pub returns-clause-left : goal.returns-clause-left
returns-clause-left c = left_new _ c.new.ensures.items refl refl c.new-2.ensures.items refl

pub returns-clause-within : goal.returns-clause-within
returns-clause-within c = within_new _ c.new.ensures.items refl refl c.new-2.ensures.items refl
