-- The first fault of rows: the lawful rows before it, and whether a name comes twice among them.
use Rattle.std.proofs.Common.{◌≡◌, ℕ, ℤ, nat_lt, suc, ◌<◌, ◌≤◌, Bool, true, false, cond, not, ◌||◌, ◌&&◌, List, [], ◌∷◌, ◌++◌, length, take, drop, get_or, bytes_eq, Option, Some, None, IfSome, IsTrue, ◌↔◌, slice_get, if◌then◌else◌, sym, refl, ap, ◌∙◌, arith}
use mathlib.Core.Bool.{false≢true}
use Rattle.std.specs.Cmp.{eq_by_cmp_equiv}
use Rattle.std.specs.Cmp.Lexicographic.{texts_ties}
use Rattle.std.specs.List.{list_any, list_all, IsDistinct, AllByRecursion}
use Rattle.std.proofs.Math.Seq.{drop-cons}
use Rattle.std.proofs.lemmas.Bool.Decides.{nat_tests}
use Rattle.std.proofs.lemmas.List.{take-append-drop, append-nil}
use Rattle.std.proofs.lemmas.Option.{slice_get_read}
use Rattle.std.proofs.lemmas.Bool.{or_parts, and_parts}
use Rattle.wq_view.specs.declared.listing.PassFault.{PassFault}
use Rattle.wq_view.specs.declared.listing.PassFault.TheVariants.{BadName, NameTwice, OutOfRange}
use Rattle.wq_record.specs.Name.{is_valid_name}
use Rattle.wq_record.specs.Seen.{SeenData, stat_of, is_in_range, is_lawful_row, is_count}
use Rattle.wq_view.specs.Listing.{names_of, row_fault, listing_fault}
use Rattle.wq_view.specs.Limit.{max_listing_rows}
use Rattle.wq_view.proofs.NameOrder.{names_total}

-- a name of the list is among the names before, or is twice in it
clash : List (List ℕ) → List (List ℕ) → Bool
clash before [] = false
clash before (x ∷ xs) = list_any (bytes_eq x) before || clash (x ∷ before) xs

-- whether two names are the same does not depend on their order
pub same_name_flips : (a b : List ℕ) → bytes_eq a b ≡ bytes_eq b a
same_name_flips a b = texts_ties a b ∙ (eq_by_cmp_equiv names_total).symm a b ∙ sym (texts_ties b a)

-- no name of the list is one of those before
IsNew : List (List ℕ) → List (List ℕ) → Type 0
IsNew before xs = AllByRecursion (λ x. list_any (bytes_eq x) before ≡ false) xs

new_with : (x : List ℕ) (before xs : List (List ℕ)) → AllByRecursion (λ y. bytes_eq x y ≡ false) xs → IsNew before xs → IsNew (x ∷ before) xs
unfolding IsNew
new_with x before [] apart new = tt
new_with x before (y ∷ ys) apart new = (rw (same_name_flips y x, apart.0) new.0, new_with x before ys apart.1 new.1)

new_without : (x : List ℕ) (before xs : List (List ℕ)) → IsNew (x ∷ before) xs → AllByRecursion (λ y. bytes_eq x y ≡ false) xs × IsNew before xs
unfolding IsNew
new_without x before [] new = (tt, tt)
new_without x before (y ∷ ys) new =
    let head = or_parts _ _ new.0 in
    let rest = new_without x before ys new.1 in
    ((same_name_flips x y ∙ head.0, rest.0), (head.1, rest.1))

no_clash : (before xs : List (List ℕ)) → IsDistinct bytes_eq xs → IsNew before xs → clash before xs ≡ false
unfolding clash IsNew IsDistinct
no_clash before [] distinct new = refl
no_clash before (x ∷ xs) distinct new = rw new.0 (no_clash (x ∷ before) xs distinct.1 (new_with x before xs distinct.0 new.1))

distinct_without_clash : (before xs : List (List ℕ)) → clash before xs ≡ false → IsDistinct bytes_eq xs × IsNew before xs
unfolding clash IsNew IsDistinct
distinct_without_clash before [] e = (tt, tt)
distinct_without_clash before (x ∷ xs) e =
    let parts = or_parts _ _ e in
    let rest = distinct_without_clash (x ∷ before) xs parts.1 in
    let apart = new_without x before xs rest.1 in
    ((apart.0, rest.0), (parts.0, apart.1))

all_new : (xs : List (List ℕ)) → IsNew [] xs
unfolding IsNew
all_new [] = tt
all_new (x ∷ xs) = (refl, all_new xs)

-- a test for distinct names is one for a clash
clash_is : (r : Bool) (xs : List (List ℕ)) → IsTrue r ↔ IsDistinct bytes_eq xs → clash [] xs ≡ not r
clash_is true xs tells = no_clash [] xs (tells.0 refl) (all_new xs)
clash_is false xs tells = elim (clash [] xs) as (λ b. clash [] xs ≡ b → b ≡ true) [
  | true ↦ λ e. refl
  | false ↦ λ e. absurd (false≢true (tells.1 (distinct_without_clash [] xs e).0))
] refl

-- after lawful rows, the first fault is a clash among them or the first fault of the rest
past_lawful : (before : List (List ℕ)) (front rest : List SeenData) (last : Option PassFault) → list_all is_lawful_row front ≡ true → ((b : List (List ℕ)) → row_fault b rest ≡ last) → row_fault before (front ++ rest) ≡ if clash before (names_of front) then Some NameTwice else last
unfolding clash
past_lawful before [] rest last lawful is = is before
past_lawful before (row ∷ rows) rest last lawful is =
    let parts = and_parts (is_lawful_row row) (list_all is_lawful_row rows) lawful in
    let own = and_parts (is_valid_name row.name) (is_in_range (stat_of row)) parts.0 in
    rw (own.0, own.1) (elim (list_any (bytes_eq row.name) before) as (λ b. cond b (Some NameTwice) (row_fault (row.name ∷ before) (rows ++ rest)) ≡ cond (b || clash (row.name ∷ before) (names_of rows)) (Some NameTwice) last) [
      | true ↦ refl
      | false ↦ past_lawful (row.name ∷ before) rows rest last parts.1 is
    ])

turned : {A : Type 0} (b : Bool) (x y : A) → cond (not b) y x ≡ cond b x y
turned true x y = refl
turned false x y = refl

chosen : (b : Bool) (fault : PassFault) → cond (not b) (Some NameTwice) (Some fault) ≡ Some (cond b fault NameTwice)
chosen true fault = refl
chosen false fault = refl

-- the fault of a row by itself
abbrev own_fault : SeenData → PassFault
own_fault row = if is_valid_name row.name then OutOfRange else BadName

own_fault_is : (before : List (List ℕ)) (row : SeenData) (rows : List SeenData) → is_lawful_row row ≡ false → row_fault before (row ∷ rows) ≡ Some (own_fault row)
own_fault_is before row rows unlawful = elim (is_valid_name row.name) as (λ b. (b && is_in_range (stat_of row)) ≡ false → (if not b then Some BadName else if not (is_in_range (stat_of row)) then Some OutOfRange else if list_any (bytes_eq row.name) before then Some NameTwice else row_fault (row.name ∷ before) rows) ≡ Some (if b then OutOfRange else BadName)) [
  | true ↦ λ e. rw e refl
  | false ↦ λ e. refl
] unlawful

-- the fault of lawful rows: a name that comes twice, or none
pub fault_of_lawful : (rows : List SeenData) (r : Bool) → list_all is_lawful_row rows ≡ true → IsTrue r ↔ IsDistinct bytes_eq (names_of rows) → row_fault [] rows ≡ if r then None else Some NameTwice
fault_of_lawful rows r lawful tells =
    ap (row_fault []) (sym (append-nil rows)) ∙ past_lawful [] rows [] None lawful (λ b. refl)
    ∙ rw (clash_is r (names_of rows) tells) (turned r None (Some NameTwice))

-- the fault of rows with an unlawful one after lawful ones: a name that comes twice before it, or its own fault
pub fault_at_unlawful : (rows : List SeenData) (at : ℕ) (row : SeenData) (r : Bool) → list_all is_lawful_row (take at rows) ≡ true → at < length rows → row ≡ get_or rows at row → IfSome (slice_get rows at) (λ row. is_lawful_row row ≡ false) → IsTrue r ↔ IsDistinct bytes_eq (names_of (take at rows)) → row_fault [] rows ≡ Some (if r then (if is_valid_name row.name then OutOfRange else BadName) else NameTwice)
fault_at_unlawful rows at row r lawful bound here unlawful tells =
    let there : slice_get rows at ≡ Some row = slice_get_read rows (length rows) at row refl bound here in
    let cut : drop at rows ≡ row ∷ drop (suc at) rows = drop-cons rows at row bound ∙ ap (λ r. r ∷ drop (suc at) rows) (sym here) in
    ap (row_fault []) (sym (take-append-drop at rows) ∙ ap (λ rest. take at rows ++ rest) cut)
    ∙ past_lawful [] (take at rows) (row ∷ drop (suc at) rows) (Some (own_fault row)) lawful (λ before. own_fault_is before row (drop (suc at) rows) (rw there at unlawful))
    ∙ rw (clash_is r (names_of (take at rows)) tells) (chosen r (own_fault row))

-- after the tests of the whole, a listing's fault is that of its rows
pub fault_of_rows : (rows : List SeenData) (second : ℤ) → nat_lt max_listing_rows (length rows) ≡ false → is_count second ≡ true → listing_fault rows second ≡ row_fault [] rows
fault_of_rows rows second short in_range = rw (short, in_range) refl

-- the fault of lawful rows, if r says whether their names are distinct
pub fault_when_lawful : (rows : List SeenData) (second : ℤ) (r : Bool) → length rows ≤ max_listing_rows → is_count second ≡ true → list_all is_lawful_row rows ≡ true → IsTrue r ↔ IsDistinct bytes_eq (names_of rows) → listing_fault rows second ≡ if r then None else Some NameTwice
fault_when_lawful rows second r short in_range lawful tells =
    let short_test : nat_lt max_listing_rows (length rows) ≡ false = grind (arith, nat_tests) in
    fault_of_rows rows second short_test in_range ∙ fault_of_lawful rows r lawful tells
