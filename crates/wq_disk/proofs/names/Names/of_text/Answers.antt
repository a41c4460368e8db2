-- the names at the places are those of all entries in the text
use Rattle.std.proofs.Common.{rules, ◌≡◌, ℕ, List, All, IsTrue, filter, subst}
use Rattle.std.specs.List.{Contains}
use Rattle.wq_disk.specs.Entries.{AreDistinct, is_entry, names_of_text}
use Rattle.wq_disk.specs.Names.{name_at, names_at}
use Rattle.wq_disk.proofs.EachOnce.{unmapped}
use Rattle.wq_disk.proofs.Entries.{all_entries, entries_of}
use Rattle.wq_disk.proofs.names.Names.of_text.Goals as goal

-- each name stays, and is there once
abbrev EachOnce : List (List ℕ) → List (List ℕ) → Type 0
EachOnce names made = All (Contains made) names × All (Contains names) made × AreDistinct made

pub invariant_of-result : goal.invariant_of-result
invariant_of-result c =
    let text = c.args.text.items in
    let made = c.each_once-places.result.items in
    let names : names_at text c.in_ok-places.places.items ≡ filter is_entry (names_of_text text) = search rules in
    let each = c.each_once-places.ensures in
    let told = subst (λ t. EachOnce (names_at t c.in_ok-places.places.items) (names_at t made)) c.deref-2.ensures.value (each.kept, each.no_more, each.distinct) in
    let entries = entries_of (names_of_text text) (names_at text made) (all_entries text c.in_ok-places.places.items made names told.0 told.1 told.2) in
    record { entries = unmapped (name_at text) (λ name. IsTrue (is_entry name)) made entries.0; distinct = entries.1 }

pub returns-clause-entries : goal.returns-clause-entries
returns-clause-entries c =
    let text = c.args.text.items in
    let made = c.each_once-places.result.items in
    let names : names_at text c.in_ok-places.places.items ≡ filter is_entry (names_of_text text) = search rules in
    let each = c.each_once-places.ensures in
    let told = subst (λ t. EachOnce (names_at t c.in_ok-places.places.items) (names_at t made)) c.deref-2.ensures.value (each.kept, each.no_more, each.distinct) in
    all_entries text c.in_ok-places.places.items made names told.0 told.1 told.2
