-- the one that is sought is among those that are left
use Rattle.std.proofs.Common.{◌≡◌, ◌++◌, ℕ, List, slice_get}
use Rattle.wq_view.specs.Position.{places_from}
use Rattle.wq_view.specs.Sought.{sought_texts}
use Rattle.wq_view.specs.Suffix.{has_suffix_of}
use Rattle.wq_view.proofs.SuffixPlaces.{places_after}
use Rattle.wq_view.proofs.suffix_search.nth_of_chunk.Given as goal

abbrev pub invariant-loop-i : goal.invariant-loop-i
invariant-loop-i l =
    (at : ℕ) (more : List ℕ) → slice_get (places_from (has_suffix_of (sought_texts l.sought)) at l.chunk.records.now ++ more) l.k ≡ slice_get (places_after (has_suffix_of (sought_texts l.sought)) at l.chunk.records.now l.i ++ more) l.left
