-- the patches of one piece more
use Rattle.std.proofs.Common.{◌≡◌, ◌∷◌, ◌++◌, List, ap, length, subst, arith}
use Rattle.std.specs.Vec.Iter.{into_iter_items}
use Rattle.wq_record.specs.RecordData.{RecordData}
use Rattle.wq_patch.specs.PatchMaker.{IsJoined}
use Rattle.wq_view.specs.Patch.{patched}
use Rattle.wq_walk.specs.Listed.{records_of_pieces, walked_rows}
use Rattle.wq_walk.proofs.Joined.{piece_more}
use Rattle.wq_walk.proofs.listing.patches_of.Goals as goal

pub loop-rows-preserved : goal.loop-rows-preserved
loop-rows-preserved c =
    let at = c.loop-rows in
    let left = into_iter_items c.next.new.self in
    let steps : into_iter_items at.rows-iterator ≡ c.in-Some.rows ∷ left = c.in-Some.ensures.steps.0 in
    let all = records_of_pieces (into_iter_items c.into_iter-rows-iterator.result) in
    let rows = walked_rows (into_iter_items c.into_iter-rows-iterator.result) in (
      piece_more all rows c.in-Some.rows left at.patches.items c.put.new.all.items at.kept c.in_ok-kept.kept c.in_ok-kept.ensures
          (subst (λ items. (first : List RecordData) × IsJoined first at.patches.items at.kept × (first ++ records_of_pieces items ≡ all) × (patched first at.patches.items ++ walked_rows items ≡ rows)) steps at.invariant.0),
      (let was = at.invariant.1 in let gone = c.in-Some.ensures.steps.1 in let short = ap length steps in omega arith),
    )
