-- the joined rows are those of the pieces that were added, and not too many
use Rattle.std.proofs.Common.{◌≡◌, ◌≤◌, ◌++◌, length, IsTrue}
use Rattle.std.specs.List.{list_all}
use Rattle.std.specs.Vec.Iter.{into_iter_items, into_iter_len}
use Rattle.wq_view.specs.Limit.{max_listing_rows}
use Rattle.wq_record.specs.Seen.{is_lawful_row}
use Rattle.wq_walk.specs.Listed.{walked_rows}
use Rattle.wq_walk.proofs.listing.joined.Given as goal

abbrev pub invariant-loop-piece : goal.invariant-loop-piece
invariant-loop-piece l =
    (l.rows.items ++ walked_rows (into_iter_items l.piece-iterator)
    ≡ walked_rows (into_iter_items l.initial.piece-iterator))
    × (into_iter_len l.piece-iterator ≡ length (into_iter_items l.piece-iterator))
    × IsTrue (list_all is_lawful_row l.rows.items)
    × (length l.rows.items ≤ max_listing_rows)
