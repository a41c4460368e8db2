-- The names at places of a text, and the places that remain if some are left out.
use Rattle.std.proofs.Common.{◌≡◌, ℕ, Bool, true, false, List, [], ◌∷◌, ◌++◌, All, IsTrue, Some, refl, cond, filter, ap, sym, subst, ◌∙◌, length}
use Rattle.std.specs.List.{Contains}
use Rattle.std.specs.List.Retain.{DedupsAll, DedupsFrom, IsDeduped}
use Rattle.std.proofs.lemmas.List.{length-map, map-append, nil_from_length}
use Rattle.std.proofs.lemmas.List.Elements.{All-cons, All-contains, All-head, All-nil, All-tail}
use Rattle.wq_disk.specs.declared.names.Names.{Names}
use Rattle.wq_disk.specs.declared.names.Place.{Place}
use Rattle.wq_disk.specs.HeldNames.{AllAreLeft, names_given, names_left}
use Rattle.wq_disk.specs.Entries.{AreDistinct, AreEntries, AreEntriesOf, is_entry, names_of_text}
use Rattle.wq_disk.specs.Names.{AreAllEntries, name_at, names_at}
use Rattle.wq_disk.specs.Told.{GivesEntries, Has}

-- the name at a last place is the last name
pub taken : (bytes : List ℕ) (old new : List Place) (place : Place) → old ≡ new ++ (place ∷ [])
    → names_at bytes old ≡ names_at bytes new ++ (name_at bytes place ∷ [])
taken bytes old new place is = ap (names_at bytes) is ∙ map-append (name_at bytes) new (place ∷ [])

-- there are as many names as places
pub count_at : (bytes : List ℕ) (places : List Place) → length places ≡ length (names_at bytes places)
count_at bytes places = sym (length-map places (name_at bytes))

-- there are no places of which there are no names
pub none_at : (bytes : List ℕ) (places : List Place) → names_at bytes places ≡ [] → places ≡ []
none_at bytes places is = nil_from_length places (count_at bytes places ∙ ap length is)

-- what passes a test is what was kept by it
passes : (names : List (List ℕ)) → All (λ name. IsTrue (is_entry name)) (filter is_entry names)
passes [] = All-nil (λ name. IsTrue (is_entry name))
passes (n ∷ ns) = at (is_entry n) refl (passes ns)
  where
    at : (b : Bool) → is_entry n ≡ b → All (λ name. IsTrue (is_entry name)) (filter is_entry ns) → All (λ name. IsTrue (is_entry name)) (cond b (n ∷ filter is_entry ns) (filter is_entry ns))
    at true e rest = All-cons (λ name. IsTrue (is_entry name)) n (filter is_entry ns) e rest
    at false e rest = rest

-- the entries among the names that a disk gave are entries, each once
pub entries_of : (given names : List (List ℕ)) → AreEntriesOf given names → AreEntries names
unfolding AreEntriesOf
entries_of given names (all, none, distinct) =
    (λ k d within. All-contains (λ name. IsTrue (is_entry name)) (filter is_entry given) _ (passes given) (none k d within), distinct)

-- the names that a disk gives for a directory are entries, each once
pub read_entries : (has : Has) (path : List ℕ) (names : List (List ℕ)) → GivesEntries has path names → AreEntries names
unfolding GivesEntries
read_entries has path names (given, told, are) = entries_of given names are

-- the names that are left of those of all entries in a text, if each stays once
pub all_entries : (text : List ℕ) (places made : List Place) → names_at text places ≡ filter is_entry (names_of_text text)
    → All (Contains (names_at text made)) (names_at text places) → All (Contains (names_at text places)) (names_at text made) → AreDistinct (names_at text made)
    → AreAllEntries text made
unfolding AreEntriesOf
all_entries text places made is kept no_more distinct = (
  subst (All (Contains (names_at text made))) is kept,
  subst (λ names. All (Contains names) (names_at text made)) is no_more,
  distinct,
)

-- a disk gives the entries of a directory of which no name was taken yet
pub gives_entries : (has : Has) (path : List ℕ) (names : Names) → has path (Some (names_given names)) → AllAreLeft names → GivesEntries has path (names_left names)
unfolding GivesEntries
gives_entries has path names told all = (names_given names, told, all)

-- if a test leaves some items out and changes none, the rest keep each fact that holds of all
pub all_deduped : {X S : Type 0} (P : X → Type 0) (R : S → X → X → Bool → S → X → X → Type 0)
    → ((s : S) (x k : X) (b : Bool) (t : S) (x' k' : X) → R s x k b t x' k' → (x' ≡ x) × (k' ≡ k))
    → (s : S) (xs ys : List X) → IsDeduped R s xs ys → All P xs → All P ys
all_deduped {X} {S} P R same s xs ys deduped all = whole xs deduped.told all
  where
    from : (s : S) (k : X) (xs ys : List X) → DedupsFrom R s k xs ys → P k → All P xs → All P ys
    from s k [] ys is p all = subst (All P) (sym is) (All-cons P k [] p (All-nil P))
    from s k (x ∷ xs) ys (true, t, x', k', called, rest) p all = from t k' xs ys rest (subst P (sym (same s x k true t x' k' called).1) p) (All-tail P x xs all)
    from s k (x ∷ xs) ys (false, t, x', k', called, (zs, rest, is)) p all =
        subst (All P) (sym is) (All-cons P k' zs (subst P (sym (same s x k false t x' k' called).1) p)
        (from t x' xs zs rest (subst P (sym (same s x k false t x' k' called).0) (All-head P x xs all)) (All-tail P x xs all)))

    whole : (xs : List X) → DedupsAll R s xs ys → All P xs → All P ys
    whole [] is all = subst (All P) (sym is) all
    whole (x ∷ xs) is all = from s x xs ys is (All-head P x xs all) (All-tail P x xs all)
