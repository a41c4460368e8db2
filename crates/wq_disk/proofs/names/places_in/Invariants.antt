-- the names that were found, and those after them
use Rattle.std.proofs.Common.{◌≡◌, ◌-◌, ◌++◌, drop, filter, length}
use Rattle.wq_disk.specs.Entries.{is_entry, names_of_text}
use Rattle.wq_disk.specs.Names.{HaveHeads, names_at}
use Rattle.wq_disk.proofs.names.places_in.Given as goal

abbrev pub invariant-loop-start : goal.invariant-loop-start
invariant-loop-start l =
    (names_at l.text l.places.items ++ filter is_entry (names_of_text (drop l.start l.text)) ≡ filter is_entry (names_of_text l.text))
    × HaveHeads l.text l.places.items

abbrev pub decreases-loop-start : goal.decreases-loop-start
decreases-loop-start l = length l.text - l.start
