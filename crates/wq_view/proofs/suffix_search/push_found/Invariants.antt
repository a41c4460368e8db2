-- what was found and what is left are all, and each that was found is counted
use Rattle.std.proofs.Common.{◌≡◌, ◌≤◌, ◌+◌, ◌++◌, length, drop}
use Rattle.wq_view.specs.Chunk.{records_in}
use Rattle.wq_view.specs.Looks.{count_after}
use Rattle.wq_view.specs.Position.{places_from}
use Rattle.wq_view.specs.Sought.{sought_texts}
use Rattle.wq_view.specs.Suffix.{has_suffix_of}
use Rattle.wq_view.proofs.suffix_search.push_found.Given as goal

abbrev pub invariant-loop-slot : goal.invariant-loop-slot
invariant-loop-slot l = record {
  fits : l.at + length (records_in (drop l.slot-index l.slots)) ≡ length (records_in l.slots);
  all : l.found.items ++ places_from (has_suffix_of (sought_texts l.sought)) l.at (records_in (drop l.slot-index l.slots)) ≡ l.initial.found.items ++ places_from (has_suffix_of (sought_texts l.sought)) 0 (records_in l.slots);
  counted : count_after (length (places_from (has_suffix_of (sought_texts l.sought)) l.at (records_in (drop l.slot-index l.slots)))) l.looks ≡ count_after (length (places_from (has_suffix_of (sought_texts l.sought)) 0 (records_in l.slots))) l.initial.looks;
  few : l.looks + length (places_from (has_suffix_of (sought_texts l.sought)) l.at (records_in (drop l.slot-index l.slots))) ≤ l.initial.looks + length (places_from (has_suffix_of (sought_texts l.sought)) 0 (records_in l.slots));
}
