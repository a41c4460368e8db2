-- the patches of the pieces so far, and the rows of the others
use Rattle.std.proofs.Common.{◌≡◌, ◌++◌, List, length}
use Rattle.std.specs.Vec.Iter.{into_iter_items, into_iter_len}
use Rattle.wq_record.specs.RecordData.{RecordData}
use Rattle.wq_patch.specs.PatchMaker.{IsJoined}
use Rattle.wq_view.specs.Patch.{patched}
use Rattle.wq_walk.specs.Listed.{records_of_pieces, walked_rows}
use Rattle.wq_walk.proofs.listing.patches_of.Given as goal

abbrev pub invariant-loop-rows : goal.invariant-loop-rows
invariant-loop-rows l =
    ((first : List RecordData) × IsJoined first l.patches.items l.kept
    × (first ++ records_of_pieces (into_iter_items l.rows-iterator)
    ≡ records_of_pieces (into_iter_items l.initial.rows-iterator))
    × (patched first l.patches.items ++ walked_rows (into_iter_items l.rows-iterator)
    ≡ walked_rows (into_iter_items l.initial.rows-iterator)))
    × (into_iter_len l.rows-iterator ≡ length (into_iter_items l.rows-iterator))
