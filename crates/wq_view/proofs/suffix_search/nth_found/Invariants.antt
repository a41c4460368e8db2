-- the one that is sought is among the positions that are left
use Rattle.std.proofs.Common.{◌≡◌, ◌+◌, length, drop, slice_get}
use Rattle.wq_view.specs.Chunk.{records_in}
use Rattle.wq_view.specs.Position.{places_from}
use Rattle.wq_view.specs.Sought.{sought_texts}
use Rattle.wq_view.specs.Suffix.{has_suffix_of}
use Rattle.wq_view.proofs.suffix_search.nth_found.Given as goal

abbrev pub invariant-loop-slot : goal.invariant-loop-slot
invariant-loop-slot l = record {
  fits : l.at + length (records_in (drop l.slot-index l.slots)) ≡ length (records_in l.slots);
  later : slice_get (places_from (has_suffix_of (sought_texts l.sought)) 0 (records_in l.slots)) l.k ≡ slice_get (places_from (has_suffix_of (sought_texts l.sought)) l.at (records_in (drop l.slot-index l.slots))) l.left;
}
