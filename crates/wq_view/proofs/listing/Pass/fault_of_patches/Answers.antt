-- A second in range, and one out of range.
use Rattle.std.proofs.Common.{◌≡◌, ℤ, Bool, sym, ap, ◌∙◌, w64}
use mir.Val.{to_z, of_z, SFits}
use Rattle.std.proofs.lemmas.Int.{to_z-of_z}
use Rattle.wq_record.specs.Seen.{is_count}
use Rattle.wq_view.proofs.PatchedViews.{fault_of_time, no_fault}
use Rattle.wq_view.proofs.listing.Pass.fault_of_patches.Goals as goal

-- the second that was passed
is_second : (second : ℤ) (r b : Bool) → SFits w64 second → r ≡ is_count (to_z w64 (of_z w64 second)) → r ≡ b → is_count second ≡ b
is_second second r b fits e is = ap is_count (sym (to_z-of_z w64 second fits)) ∙ sym e ∙ is

pub returns-then-is_count-clause-fault : goal.returns-then-is_count-clause-fault
returns-then-is_count-clause-fault c records patches rise fit lawful few = sym (no_fault records patches rise fit c.args.second (is_second c.args.second _ _ c.ranges.second c.is_count.ensures c.if-is_count.true) lawful few)

pub returns-else-is_count-clause-fault : goal.returns-else-is_count-clause-fault
returns-else-is_count-clause-fault c records patches rise fit lawful few = sym (fault_of_time records patches rise fit c.args.second (is_second c.args.second _ _ c.ranges.second c.is_count.ensures c.if-is_count.false) few)

pub returns-then-is_count-clause-second : goal.returns-then-is_count-clause-second
returns-then-is_count-clause-second c _ = is_second c.args.second _ _ c.ranges.second c.is_count.ensures c.if-is_count.true
