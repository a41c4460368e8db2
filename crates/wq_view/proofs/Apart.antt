-- Lists of which the names of one are below those of the other.
use Rattle.std.proofs.Common.{◌≡◌, ◌+◌, ◌-◌, ◌<◌, ℕ, zero, suc, length, slice_get, Some, None, arith, subst, true, false, cond, List, [], ◌∷◌, ◌++◌, map, take, drop, refl, sym, ap, ◌∙◌}
use Rattle.std.specs.declared.cmp.Ordering.TheVariants.{Less}
use Rattle.std.specs.FinMap.{is_sorted}
use Rattle.std.specs.FinMap.Entries.{below_all}
use Rattle.std.specs.List.{AllByRecursion}
use Rattle.std.specs.Ordering.{is_lt}
use Rattle.std.proofs.lemmas.List.{take-append-drop, take_all}
use Rattle.std.proofs.lemmas.Option.{same_Some, slice_get-get_or}
use Rattle.std.proofs.lemmas.Bool.{and_parts}
use Rattle.wq_base.proofs.Facts.{less_from_lt, all_both, all_so, take_next}
use Rattle.wq_record.specs.Name.{name_cmp}
use Rattle.wq_record.specs.RecordData.{RecordData, by_name}
use Rattle.wq_record.specs.Seen.{SeenData}
use Rattle.wq_view.specs.SeenRows.{seen_row, seen_rows}
use Rattle.wq_view.specs.Patching.{AreBelow, record_name, row_name}
use Rattle.wq_view.proofs.NameOrder.{names_total}

module _ {A : Type 0} (P : A → Type 0) where
  -- a part of a list
  pub all_take : (k : ℕ) (xs : List A) → AllByRecursion P xs → AllByRecursion P (take k xs)
  all_take zero xs all = tt
  all_take (suc k) [] all = tt
  all_take (suc k) (x ∷ xs) all = (all.0, all_take k xs all.1)

  pub all_drop : (k : ℕ) (xs : List A) → AllByRecursion P xs → AllByRecursion P (drop k xs)
  all_drop zero xs all = all
  all_drop (suc k) [] all = tt
  all_drop (suc k) (x ∷ xs) all = all_drop k xs all.1

  pub all_first : (xs ys : List A) → AllByRecursion P (xs ++ ys) → AllByRecursion P xs
  all_first [] ys all = tt
  all_first (x ∷ xs) ys all = (all.0, all_first xs ys all.1)

  pub all_second : (xs ys : List A) → AllByRecursion P (xs ++ ys) → AllByRecursion P ys
  all_second [] ys all = all
  all_second (x ∷ xs) ys all = all_second xs ys all.1

-- a fact of each item
pub all_of : {A : Type 0} (Q : A → Type 0) → ((x : A) → Q x) → (xs : List A) → AllByRecursion Q xs
all_of Q each [] = tt
all_of Q each (x ∷ xs) = (each x, all_of Q each xs)

-- the names of the rows of files that exist are among those of the records
pub all_seen : (P : List ℕ → Type 0) (rs : List RecordData) → AllByRecursion (λ (r : RecordData). P r.name) rs → AllByRecursion (λ (row : SeenData). P row.name) (seen_rows rs)
all_seen P [] all = tt
all_seen P (r ∷ rs) all =
    let rest = all_seen P rs all.1 in
    elim r.exists as (λ b. AllByRecursion (λ (row : SeenData). P row.name) (map seen_row (cond b (r ∷ Rattle.std.specs.List.filter (λ (r : RecordData). r.exists) rs) (Rattle.std.specs.List.filter (λ (r : RecordData). r.exists) rs)))) [ true ↦ (all.0, rest) | false ↦ rest ]

module _ {A B : Type 0} (f : A → List ℕ) (g : B → List ℕ) where
  -- parts of the second list
  pub below_both : (xs : List A) (ys zs : List B) → AreBelow f g xs ys → AreBelow f g xs zs → AreBelow f g xs (ys ++ zs)
  below_both [] ys zs first second = tt
  below_both (x ∷ xs) ys zs first second = (all_both (λ y. name_cmp (f x) (g y) ≡ Less) ys zs first.0 second.0, below_both xs ys zs first.1 second.1)

  pub below_take : (k : ℕ) (xs : List A) (ys : List B) → AreBelow f g xs ys → AreBelow f g xs (take k ys)
  below_take k xs ys below = all_so (λ x. AllByRecursion (λ y. name_cmp (f x) (g y) ≡ Less) ys) (λ x. AllByRecursion (λ y. name_cmp (f x) (g y) ≡ Less) (take k ys)) (λ x all. all_take (λ y. name_cmp (f x) (g y) ≡ Less) k ys all) xs below

  pub below_drop : (k : ℕ) (xs : List A) (ys : List B) → AreBelow f g xs ys → AreBelow f g xs (drop k ys)
  below_drop k xs ys below = all_so (λ x. AllByRecursion (λ y. name_cmp (f x) (g y) ≡ Less) ys) (λ x. AllByRecursion (λ y. name_cmp (f x) (g y) ≡ Less) (drop k ys)) (λ x all. all_drop (λ y. name_cmp (f x) (g y) ≡ Less) k ys all) xs below

  pub below_none : (xs : List A) → AreBelow f g xs []
  below_none xs = all_of (λ x. AllByRecursion (λ y. name_cmp (f x) (g y) ≡ Less) []) (λ x. tt) xs

-- the names below those of records are below those of the rows of files that exist
pub below_seen : {A : Type 0} (f : A → List ℕ) (xs : List A) (rs : List RecordData) → AreBelow f record_name xs rs → AreBelow f row_name xs (seen_rows rs)
below_seen f xs rs below = all_so (λ x. AllByRecursion (λ (r : RecordData). name_cmp (f x) r.name ≡ Less) rs) (λ x. AllByRecursion (λ (row : SeenData). name_cmp (f x) row.name ≡ Less) (seen_rows rs)) (λ x all. all_seen (λ name. name_cmp (f x) name ≡ Less) rs all) xs below

-- the same of the names that are below
pub seen_below : {B : Type 0} (g : B → List ℕ) (rs : List RecordData) (ys : List B) → AreBelow record_name g rs ys → AreBelow row_name g (seen_rows rs) ys
seen_below g rs ys below = all_seen (λ name. AllByRecursion (λ y. name_cmp name (g y) ≡ Less) ys) rs below

-- names that are below another one are below all that it is below
pub through : {A B C : Type 0} (f : A → List ℕ) (g : B → List ℕ) (h : C → List ℕ) (xs : List A) (y : B) (zs : List C) → AreBelow f g xs (y ∷ []) → AllByRecursion (λ z. name_cmp (g y) (h z) ≡ Less) zs → AreBelow f h xs zs
through f g h xs y zs first second =
    all_so (λ x. AllByRecursion (λ y. name_cmp (f x) (g y) ≡ Less) (y ∷ [])) (λ x. AllByRecursion (λ z. name_cmp (f x) (h z) ≡ Less) zs)
    (λ x less. all_so (λ z. name_cmp (g y) (h z) ≡ Less) (λ z. name_cmp (f x) (h z) ≡ Less) (λ z more. names_total.trans (f x) (g y) (h z) less.0 more) zs second) xs first

module _ {A X : Type 0} (f : A → List ℕ × X) where
  -- a name that is tested to be below those of entries
  tested_below : (x : List ℕ) (xs : List A) → below_all name_cmp x (map f xs) ≡ true → AllByRecursion (λ a. name_cmp x (f a).0 ≡ Less) xs
  tested_below x [] e = tt
  tested_below x (a ∷ xs) e =
      let parts = and_parts (is_lt (name_cmp x (f a).0)) (below_all name_cmp x (map f xs)) e in
      (less_from_lt (name_cmp x (f a).0) parts.0, tested_below x xs parts.1)

  test_below : (x : List ℕ) (xs : List A) → AllByRecursion (λ a. name_cmp x (f a).0 ≡ Less) xs → below_all name_cmp x (map f xs) ≡ true
  test_below x [] all = refl
  test_below x (a ∷ xs) all = rw all.0 (test_below x xs all.1)

  -- the parts of a list that rises
  pub rising_parts : (xs ys : List A) → is_sorted name_cmp (map f (xs ++ ys)) ≡ true → (is_sorted name_cmp (map f xs) ≡ true) × (is_sorted name_cmp (map f ys) ≡ true) × AreBelow (λ a. (f a).0) (λ a. (f a).0) xs ys
  rising_parts [] ys e = (refl, e, tt)
  rising_parts (x ∷ xs) ys e =
      let parts = and_parts (below_all name_cmp (f x).0 (map f (xs ++ ys))) (is_sorted name_cmp (map f (xs ++ ys))) e in
      let rest = rising_parts xs ys parts.1 in
      let below = tested_below (f x).0 (xs ++ ys) parts.0 in
      let first = test_below (f x).0 xs (all_first (λ a. name_cmp (f x).0 (f a).0 ≡ Less) xs ys below) in
      (rw first rest.0, rest.1, (all_second (λ a. name_cmp (f x).0 (f a).0 ≡ Less) xs ys below, rest.2))

  -- two lists that rise, one below the other
  pub rising_both : (xs ys : List A) → is_sorted name_cmp (map f xs) ≡ true → is_sorted name_cmp (map f ys) ≡ true → AreBelow (λ a. (f a).0) (λ a. (f a).0) xs ys → is_sorted name_cmp (map f (xs ++ ys)) ≡ true
  rising_both [] ys first second below = second
  rising_both (x ∷ xs) ys first second below =
      let parts = and_parts (below_all name_cmp (f x).0 (map f xs)) (is_sorted name_cmp (map f xs)) first in
      let here = test_below (f x).0 (xs ++ ys) (all_both (λ a. name_cmp (f x).0 (f a).0 ≡ Less) xs ys (tested_below (f x).0 xs parts.0) below.0) in
      rw here (rising_both xs ys parts.1 second below.1)

  -- the first name of a list that rises is below those of the rest
  pub rising_head : (x : A) (xs : List A) → is_sorted name_cmp (map f (x ∷ xs)) ≡ true → AllByRecursion (λ a. name_cmp (f x).0 (f a).0 ≡ Less) xs
  rising_head x xs e = tested_below (f x).0 xs (and_parts (below_all name_cmp (f x).0 (map f xs)) (is_sorted name_cmp (map f xs)) e).0

-- a name below the first of a list that rises is below all of it
pub under : {B Y : Type 0} (g : B → List ℕ × Y) (name : List ℕ) (ys : List B) (y : B) → is_sorted name_cmp (map g ys) ≡ true → slice_get ys 0 ≡ Some y → name_cmp name (g y).0 ≡ Less → AllByRecursion (λ b. name_cmp name (g b).0 ≡ Less) ys
under g name [] y rise is less = tt
under g name (b ∷ ys) y rise is less =
    let here : name_cmp name (g b).0 ≡ Less = subst (λ z. name_cmp name (g z).0 ≡ Less) (sym (same_Some b y is)) less in
    (here, all_so (λ c. name_cmp (g b).0 (g c).0 ≡ Less) (λ c. name_cmp name (g c).0 ≡ Less) (λ c more. names_total.trans name (g b).0 (g c).0 here more) ys (rising_head g b ys rise))

-- a list that rises and ends below another one
pub ended_below : {A B X : Type 0} (f : A → List ℕ × X) (h : B → List ℕ) (front : List A) (x : A) (ys : List B) → is_sorted name_cmp (map f (front ++ (x ∷ []))) ≡ true → AllByRecursion (λ b. name_cmp (f x).0 (h b) ≡ Less) ys → AreBelow (λ a. (f a).0) h (front ++ (x ∷ [])) ys
ended_below f h front x ys rise all =
    all_both (λ a. AllByRecursion (λ b. name_cmp (f a).0 (h b) ≡ Less) ys) front (x ∷ [])
    (through (λ a. (f a).0) (λ a. (f a).0) h front x ys (rising_parts f front (x ∷ []) rise).2 all)
    (all, tt)

-- a list ends with its last item
pub ends_with : {A : Type 0} (xs : List A) (x : A) → slice_get xs (length xs - 1) ≡ Some x → xs ≡ take (length xs - 1) xs ++ (x ∷ [])
ends_with [] x is = absurd (cc)
ends_with (a ∷ xs) x is =
    let count : length (a ∷ xs) - 1 + 1 ≡ length (a ∷ xs) = omega arith in
    sym (take_all (length (a ∷ xs)) (a ∷ xs) (omega arith)) ∙ sym (ap (λ n. take n (a ∷ xs)) count) ∙ take_next (a ∷ xs) (length (a ∷ xs) - 1) x is

-- a list that ends below the first of another one
pub ends_below : {A B X Y : Type 0} (f : A → List ℕ × X) (g : B → List ℕ × Y) (xs : List A) (ys : List B) (x : A) (y : B) → is_sorted name_cmp (map f xs) ≡ true → is_sorted name_cmp (map g ys) ≡ true → slice_get xs (length xs - 1) ≡ Some x → slice_get ys 0 ≡ Some y → name_cmp (f x).0 (g y).0 ≡ Less → AreBelow (λ a. (f a).0) (λ b. (g b).0) xs ys
ends_below f g xs ys x y rise_xs rise_ys last first less =
    let is = ends_with xs x last in
    subst (λ l. AreBelow (λ a. (f a).0) (λ b. (g b).0) l ys) (sym is) (ended_below f (λ b. (g b).0) (take (length xs - 1) xs) x ys (sym (ap (λ l. is_sorted name_cmp (map f l)) is) ∙ rise_xs) (under g (f x).0 ys y rise_ys first less))

-- the first records of a list, which end below the first of another list
pub start_below : {B Y : Type 0} (g : B → List ℕ × Y) (all : List RecordData) (start : ℕ) (r : RecordData) (ys : List B) (y : B) → is_sorted name_cmp (by_name all) ≡ true → is_sorted name_cmp (map g ys) ≡ true → (start ≡ 0 → ⊥) → slice_get all (start - 1) ≡ Some r → slice_get ys 0 ≡ Some y → name_cmp r.name (g y).0 ≡ Less → AreBelow record_name (λ b. (g b).0) (take start all) ys
start_below g all start r ys y rise_all rise_ys some last first less =
    let count : start - 1 + 1 ≡ start = omega (arith, some) in
    let is : take start all ≡ take (start - 1) all ++ (r ∷ []) = sym (ap (λ n. take n all) count) ∙ take_next all (start - 1) r last in
    let rise = (rising_parts (λ (r : RecordData). (r.name, r)) (take start all) (drop start all) (ap (λ l. is_sorted name_cmp (by_name l)) (take-append-drop start all) ∙ rise_all)).0 in
    subst (λ l. AreBelow record_name (λ b. (g b).0) l ys) (sym is) (ended_below (λ (r : RecordData). (r.name, r)) (λ b. (g b).0) (take (start - 1) all) r ys (sym (ap (λ l. is_sorted name_cmp (by_name l)) is) ∙ rise) (under g r.name ys y rise_ys first less))

-- the first of the records from a place on
pub first_dropped : (all : List RecordData) (k : ℕ) (r : RecordData) → slice_get all k ≡ Some r → slice_get (drop k all) 0 ≡ Some r
first_dropped [] zero r is = is
first_dropped [] (suc k) r is = is
first_dropped (a ∷ all) zero r is = is
first_dropped (a ∷ all) (suc k) r is = first_dropped all k r is

-- a list that ends below the records from a place on
pub below_rest : {A X : Type 0} (f : A → List ℕ × X) (xs : List A) (all : List RecordData) (k : ℕ) (x : A) (r : RecordData) → is_sorted name_cmp (map f xs) ≡ true → is_sorted name_cmp (by_name all) ≡ true → slice_get xs (length xs - 1) ≡ Some x → slice_get all k ≡ Some r → name_cmp (f x).0 r.name ≡ Less → AreBelow (λ a. (f a).0) record_name xs (drop k all)
below_rest f xs all k x r rise_xs rise_all last first less =
    let rise = (rising_parts (λ (r : RecordData). (r.name, r)) (take k all) (drop k all) (ap (λ l. is_sorted name_cmp (by_name l)) (take-append-drop k all) ∙ rise_all)).1 in
    ends_below f (λ (r : RecordData). (r.name, r)) xs (drop k all) x r rise_xs rise last (first_dropped all k r first) less

-- no item
pub none_first : {A : Type 0} (xs : List A) → slice_get xs 0 ≡ None → xs ≡ []
none_first [] is = refl
none_first (x ∷ xs) is = absurd (cc)

pub none_last : {A : Type 0} (xs : List A) → slice_get xs (length xs - 1) ≡ None → xs ≡ []
none_last [] is = refl
none_last (x ∷ xs) is =
    let within : length (x ∷ xs) - 1 < length (x ∷ xs) = omega arith in
    absurd (none_some (sym is ∙ slice_get-get_or (x ∷ xs) (length (x ∷ xs) - 1) x within))
  where
    none_some : {A : Type 0} {a : A} → None ≡ Some a → ⊥
    none_some e = cc

-- nothing is below a list, and nothing of no list is
pub ended_so : {A B X : Type 0} (f : A → List ℕ × X) (h : B → List ℕ) (xs : List A) (x : A) (ys : List B) → is_sorted name_cmp (map f xs) ≡ true → slice_get xs (length xs - 1) ≡ Some x → AllByRecursion (λ b. name_cmp (f x).0 (h b) ≡ Less) ys → AreBelow (λ a. (f a).0) h xs ys
ended_so f h xs x ys rise last all =
    let is = ends_with xs x last in
    subst (λ l. AreBelow (λ a. (f a).0) h l ys) (sym is) (ended_below f h (take (length xs - 1) xs) x ys (sym (ap (λ l. is_sorted name_cmp (map f l)) is) ∙ rise) all)
