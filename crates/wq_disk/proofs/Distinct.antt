-- Names of which none is another one.
use Rattle.std.proofs.Common.{◌≡◌, ℕ, false, List, [], ◌∷◌, ◌++◌, bytes_eq, ap, sym, subst, ◌∙◌, map}
use Rattle.std.specs.List.{AllByRecursion, IsDistinct}
use Rattle.std.specs.Prelude.{Option, option_to_list}
use Rattle.wq_disk.specs.Entries.{AreDistinct}
use Rattle.wq_disk.specs.Names.{name_at, names_at}
use Rattle.std.proofs.lemmas.List.{map-append}
use Rattle.wq_disk.specs.declared.names.Place.{Place}

-- the names but the last one
pub distinct_front : (xs ys : List (List ℕ)) → AreDistinct (xs ++ ys) → AreDistinct xs
unfolding IsDistinct
distinct_front [] ys d = tt
distinct_front (x ∷ xs) ys (all, d) = (front xs all, distinct_front xs ys d)
  where
    front : (zs : List (List ℕ)) → AllByRecursion (λ y. bytes_eq x y ≡ false) (zs ++ ys)
        → AllByRecursion (λ y. bytes_eq x y ≡ false) zs
    front [] all = tt
    front (z ∷ zs) (one, all) = (one, front zs all)

-- none of the names at the places that are left after one is popped is another one
pub distinct_popped : (bytes : List ℕ) (old new : List Place) (popped : Option Place)
    → old ≡ new ++ option_to_list popped → AreDistinct (names_at bytes old) → AreDistinct (names_at bytes new)
distinct_popped bytes old new popped is distinct =
    distinct_front (names_at bytes new) (map (name_at bytes) (option_to_list popped))
    (subst AreDistinct (ap (names_at bytes) is ∙ map-append (name_at bytes) new (option_to_list popped)) distinct)

-- no names are distinct
pub distinct_none : (bytes : List ℕ) (places : List Place) → places ≡ [] → AreDistinct (names_at bytes places)
unfolding IsDistinct
distinct_none bytes places is = subst (λ p. AreDistinct (names_at bytes p)) (sym is) tt
