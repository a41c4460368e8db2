-- what was found and what is left are all, and each that was found is counted
use Rattle.std.proofs.Common.{◌≡◌, ◌≤◌, ◌+◌, ◌++◌, length}
use Rattle.wq_view.specs.Looks.{count_after}
use Rattle.wq_view.specs.Position.{places_from}
use Rattle.wq_view.specs.Sought.{sought_texts}
use Rattle.wq_view.specs.Suffix.{has_suffix_of}
use Rattle.wq_view.proofs.SuffixPlaces.{places_after}
use Rattle.wq_view.proofs.suffix_search.push_of_chunk.Given as goal

abbrev pub invariant-loop-i : goal.invariant-loop-i
invariant-loop-i l = record {
  all : l.found.items ++ places_after (has_suffix_of (sought_texts l.sought)) l.at l.chunk.records.now l.i ≡ l.initial.found.items ++ places_from (has_suffix_of (sought_texts l.sought)) l.at l.chunk.records.now;
  counted : count_after (length (places_after (has_suffix_of (sought_texts l.sought)) l.at l.chunk.records.now l.i)) l.looks ≡ count_after (length (places_from (has_suffix_of (sought_texts l.sought)) l.at l.chunk.records.now)) l.initial.looks;
  few : l.looks + length (places_after (has_suffix_of (sought_texts l.sought)) l.at l.chunk.records.now l.i) ≤ l.initial.looks + length (places_from (has_suffix_of (sought_texts l.sought)) l.at l.chunk.records.now);
}
