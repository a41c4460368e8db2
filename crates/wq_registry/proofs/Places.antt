-- The root of a number, by its place.
use Rattle.std.proofs.Common.{◌≡◌, ℕ, ◌+◌, Bool, true, false, not, cond, List, [], ◌∷◌, length, None, Some, Result, Ok, Err, OnOk, OnErr, refl, ap, nat_eq, nat_lt, slice_get, slice_set, position, ◌∙◌, sym, one-add}
use Rattle.std.specs.List.{position_or_len}
use Rattle.wq_base.proofs.Facts.{not_chosen}
use Rattle.wq_registry.specs.declared.fault.ShelfFault.{ShelfFault}
use Rattle.std.proofs.lemmas.List.Folds.{find_at}
use Rattle.std.proofs.lemmas.Option.{slice_get_past}
use Rattle.std.proofs.lemmas.Bool.{ltb-false}
use Rattle.wq_registry.specs.Root.{RootData, numbered, changed}
use Rattle.wq_registry.specs.Shelf.{ShelfData, root_changed}

-- a place that a test gives is that place
pub place_is : (b : Bool) (n i : ℕ) → cond b (Some n) None ≡ Some i → n ≡ i
place_is true n i h = cc
place_is false n i h = cc

module _ {T : Type 0} (number : ℕ) where
  -- if the root has a place, it is the one there
  pub at_place : (rs : List (RootData T)) (i : ℕ) → position (λ r. nat_eq number r.number) rs ≡ Some i → numbered number rs ≡ slice_get rs i
  at_place rs i h = find_at (λ r. nat_eq number r.number) rs ∙ ap (slice_get rs) (place_is (nat_lt (position_or_len (λ r. nat_eq number r.number) rs) (length rs)) (position_or_len (λ r. nat_eq number r.number) rs) i h)

  -- if it has none, there is no such root
  pub no_place : (rs : List (RootData T)) → position (λ r. nat_eq number r.number) rs ≡ None → numbered number rs ≡ None
  no_place rs h = find_at (λ r. nat_eq number r.number) rs ∙ slice_get_past rs _ (ltb-false _ _ (not_chosen (nat_lt (position_or_len (λ r. nat_eq number r.number) rs) (length rs)) (position_or_len (λ r. nat_eq number r.number) rs) h))

  -- a root that is written at the first place that passes is written over the root
  set_first : (rs : List (RootData T)) (w : RootData T) → slice_set rs (position_or_len (λ r. nat_eq number r.number) rs) w ≡ changed number (λ _. w) rs
  set_first [] w = refl
  set_first (r ∷ rs) w =
      elim (nat_eq number r.number) as (λ b. slice_set (r ∷ rs) (cond (not b) (1 + position_or_len (λ r. nat_eq number r.number) rs) 0) w ≡ cond b (w ∷ rs) (r ∷ changed number (λ _. w) rs)) [
        | true ↦ refl
        | false ↦ ap (λ i. slice_set (r ∷ rs) i w) (one-add (position_or_len (λ r. nat_eq number r.number) rs)) ∙ ap (λ rs. r ∷ rs) (set_first rs w)
      ]

  -- a root that is written at its place is written over the root
  pub set_place : (rs : List (RootData T)) (i : ℕ) (w : RootData T) → position (λ r. nat_eq number r.number) rs ≡ Some i → slice_set rs i w ≡ changed number (λ _. w) rs
  set_place rs i w h = ap (λ i. slice_set rs i w) (sym (place_is (nat_lt (position_or_len (λ r. nat_eq number r.number) rs) (length rs)) (position_or_len (λ r. nat_eq number r.number) rs) i h)) ∙ set_first rs w

  -- a change of the root that is there gives the result of the change
  pub change_of : (change : RootData T → RootData T) (rs : List (RootData T)) (r : RootData T) → numbered number rs ≡ Some r → changed number (λ _. change r) rs ≡ changed number change rs
  change_of change [] r h = refl
  change_of change (s ∷ rs) r h = by (nat_eq number s.number) h (change_of change rs r)
    where
      by : (b : Bool) → cond b (Some s) (numbered number rs) ≡ Some r → (numbered number rs ≡ Some r → changed number (λ _. change r) rs ≡ changed number change rs) → cond b (change r ∷ rs) (s ∷ changed number (λ _. change r) rs) ≡ cond b (change s ∷ rs) (s ∷ changed number change rs)
      by true h rest = let e : s ≡ r = cc in ap (λ s. change s ∷ rs) (sym e)
      by false h rest = ap (λ rs. s ∷ rs) (rest h)

  -- a root that is written over itself changes nothing
  pub same_root : (rs : List (RootData T)) (r : RootData T) → numbered number rs ≡ Some r → changed number (λ _. r) rs ≡ rs
  same_root [] r h = refl
  same_root (s ∷ rs) r h = by (nat_eq number s.number) h (same_root rs r)
    where
      by : (b : Bool) → cond b (Some s) (numbered number rs) ≡ Some r → (numbered number rs ≡ Some r → changed number (λ _. r) rs ≡ rs) → cond b (r ∷ rs) (s ∷ changed number (λ _. r) rs) ≡ s ∷ rs
      by true h rest = let e : s ≡ r = cc in ap (λ s. s ∷ rs) (sym e)
      by false h rest = ap (λ rs. s ∷ rs) (rest h)

  -- if there is no such root, nothing changes
  pub change_none : (change : RootData T → RootData T) (rs : List (RootData T)) → numbered number rs ≡ None → changed number change rs ≡ rs
  change_none change [] h = refl
  change_none change (s ∷ rs) h = by (nat_eq number s.number) h (change_none change rs)
    where
      by : (b : Bool) → cond b (Some s) (numbered number rs) ≡ None → (numbered number rs ≡ None → changed number change rs ≡ rs) → cond b (change s ∷ rs) (s ∷ changed number change rs) ≡ s ∷ rs
      by true h rest = cc
      by false h rest = ap (λ rs. s ∷ rs) (rest h)

module _ {T : Type 0} (number : ℕ) (change : RootData T → RootData T) (shelf : ShelfData T) where
  -- the same of the shelf: a root that is there and changed
  pub shelf_changed : (r : RootData T) → numbered number shelf.roots ≡ Some r → root_changed number (λ _. change r) shelf ≡ root_changed number change shelf
  shelf_changed r h = ap (λ rs. record { programs = shelf.programs; roots = rs; sockname = shelf.sockname }) (change_of number change shelf.roots r h)

  -- a root that is not there
  pub shelf_unchanged : numbered number shelf.roots ≡ None → root_changed number change shelf ≡ shelf
  shelf_unchanged h = ap (λ rs. record { programs = shelf.programs; roots = rs; sockname = shelf.sockname }) (change_none number change shelf.roots h)

-- a root that is written over itself
pub shelf_same : {T : Type 0} (number : ℕ) (shelf : ShelfData T) (r : RootData T) → numbered number shelf.roots ≡ Some r → root_changed number (λ _. r) shelf ≡ shelf
shelf_same number shelf r h = ap (λ rs. record { programs = shelf.programs; roots = rs; sockname = shelf.sockname }) (same_root number shelf.roots r h)

module _ {T A : Type 0} (number : ℕ) (change : RootData T → RootData T) (shelf : ShelfData T) (old new : RootData T) where
  -- a call that succeeds changes the shelf by its change of the root
  pub changed_well : (result : Result A ShelfFault) → Some old ≡ numbered number shelf.roots → OnOk result (new ≡ change old) → OnOk result (root_changed number (λ _. new) shelf ≡ root_changed number change shelf)
  changed_well (Ok a) h e = ap (λ r. root_changed number (λ _. r) shelf) e ∙ shelf_changed number change shelf old (sym h)
  changed_well (Err fault) h e = tt

  -- and if it refuses and leaves the root, it leaves the shelf
  pub left_well : (result : Result A ShelfFault) → Some old ≡ numbered number shelf.roots → OnErr result (new ≡ old) → OnErr result (root_changed number (λ _. new) shelf ≡ shelf)
  left_well (Ok a) h e = tt
  left_well (Err fault) h e = ap (λ r. root_changed number (λ _. r) shelf) e ∙ shelf_same number shelf old (sym h)
