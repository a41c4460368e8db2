-- So many records more are kept.
use Rattle.std.proofs.Common.{refl}
use Rattle.wq_patch.proofs.PatchRuns.{kept_left, kept_rows, kept_within}
use Rattle.wq_patch.proofs.patch_maker.PatchMaker.keep.Goals as goal

pub returns-clause-rows : goal.returns-clause-rows
returns-clause-rows c records = kept_rows records c.args.self.now _ c.args.count refl refl refl

pub returns-clause-left : goal.returns-clause-left
returns-clause-left c records = kept_left records c.args.self.now _ c.args.count refl refl refl

pub returns-clause-within : goal.returns-clause-within
returns-clause-within c records = kept_within records c.args.self.now _ c.args.count refl refl refl
