-- Rows with one more, or without.
use Rattle.std.proofs.Common.{◌≡◌, ◌≤◌, ◌<◌, ◌+◌, Bool, ℕ, true, false, List, [], ◌∷◌, ◌++◌, IsTrue, Result, Ok, Err, IfOk, OnErr, OnOk, length, length-append, refl, ap, subst, sym, arith}
use Rattle.std.specs.List.{list_all}
use Rattle.std.proofs.lemmas.Bool.{and_from}
use Rattle.wq_record.specs.Seen.{SeenData}
use Rattle.wq_disk.specs.declared.part.Part.{Part}
use Rattle.wq_walk.specs.Part.{is_row_in, whole_part}
use Rattle.wq_walk.proofs.Joins.{all_of_both}

-- a test that all rows pass, with more rows, without or where memory ran out
pub kept_all_or : {X E : Type 0} (p : X → Bool) (old new more : List X) (result : Result Bool E) → IsTrue (list_all p old) → IfOk result (λ kept. IsTrue kept → new ≡ old ++ more) → IfOk result (λ kept. IsTrue kept → IsTrue (list_all p more))
    → IfOk result (λ kept. kept ≡ false → new ≡ old) → OnErr result (new ≡ old) → IsTrue (list_all p new)
kept_all_or p old new more (Ok true) all with passes same failed = subst (λ rows. IsTrue (list_all p rows)) (sym (with refl)) (all_of_both p old more all (passes refl))
kept_all_or p old new more (Ok false) all with passes same failed = subst (λ rows. IsTrue (list_all p rows)) (sym (same refl)) all
kept_all_or p old new more (Err e) all with passes same failed = subst (λ rows. IsTrue (list_all p rows)) (sym failed) all

pub kept_few_or : {X E : Type 0} (old new : List X) (row : X) (result : Result Bool E) (most : ℕ) → length old < most → IfOk result (λ kept. IsTrue kept → new ≡ old ++ (row ∷ []))
    → IfOk result (λ kept. kept ≡ false → new ≡ old) → OnErr result (new ≡ old) → length new ≤ most
kept_few_or old new row (Ok true) most few with same failed = omega (arith, few, ap length (with refl), length-append old (row ∷ []))
kept_few_or old new row (Ok false) most few with same failed = omega (arith, few, ap length (same refl))
kept_few_or old new row (Err e) most few with same failed = omega (arith, few, ap length failed)

pub one_passes : {X E : Type 0} (p : X → Bool) (row : X) (result : Result Bool E) → IfOk result (λ kept. IsTrue kept → IsTrue (p row)) → IfOk result (λ kept. IsTrue kept → IsTrue (list_all p (row ∷ [])))
one_passes p row (Ok kept) passes = λ is. and_from _ _ (passes is) refl
one_passes p row (Err e) passes = tt

pub passes_anyway : {X E : Type 0} (p : X → Bool) (row : X) (result : Result Bool E) → IsTrue (p row) → IfOk result (λ kept. IsTrue kept → IsTrue (p row))
passes_anyway p row (Ok kept) passes = λ is. passes
passes_anyway p row (Err e) passes = tt

-- rows after rows, unless memory ran out for them
pub grown_all : {X A E : Type 0} (p : X → Bool) (old new more : List X) (result : Result A E) → OnOk result (new ≡ old ++ more) → OnErr result (new ≡ old) → IsTrue (list_all p old) → IsTrue (list_all p more) → IsTrue (list_all p new)
grown_all p old new more (Ok a) with failed all passes = subst (λ rows. IsTrue (list_all p rows)) (sym with) (all_of_both p old more all passes)
grown_all p old new more (Err e) with failed all passes = subst (λ rows. IsTrue (list_all p rows)) (sym failed) all

pub grown_few : {X A E : Type 0} (old new more : List X) (result : Result A E) (most : ℕ) → OnOk result (new ≡ old ++ more) → OnErr result (new ≡ old) → length old + length more ≤ most → length new ≤ most
grown_few old new more (Ok a) most with failed few = omega (arith, few, ap length with, length-append old more)
grown_few old new more (Err e) most with failed few = omega (arith, few, ap length failed)

-- rows after rows, or the same rows
pub kept_more : {X : Type 0} (p : X → Bool) (old new more : List X) (kept : Bool) → IsTrue (list_all p old) → (IsTrue kept → new ≡ old ++ more) → (IsTrue kept → IsTrue (list_all p more)) → (kept ≡ false → new ≡ old) → IsTrue (list_all p new)
kept_more p old new more true all with passes same = subst (λ rows. IsTrue (list_all p rows)) (sym (with refl)) (all_of_both p old more all (passes refl))
kept_more p old new more false all with passes same = subst (λ rows. IsTrue (list_all p rows)) (sym (same refl)) all

pub few_kept : {X : Type 0} (old new : List X) (kept : Bool) (most : ℕ) → length old ≤ most → (IsTrue kept → length new ≤ most) → (kept ≡ false → new ≡ old) → length new ≤ most
few_kept old new true most few with same = with refl
few_kept old new false most few with same = omega (arith, few, ap length (same refl))

-- rows that were made and more of them are too many for a pass
pub too_many : {X : Type 0} (made more rest all : List X) → made ++ (more ++ rest) ≡ all → {most : ℕ} → most < length made + length more → most < length all
too_many made more rest all is many = omega (arith, many, ap length is, length-append made (more ++ rest), length-append more rest)

-- all rows are in the whole of a tree
pub all_in_whole : (part : Part) → part ≡ whole_part → (rows : List SeenData) → IsTrue (list_all (is_row_in part) rows)
all_in_whole part is rows = subst (λ p. IsTrue (list_all (is_row_in p) rows)) (sym is) (at rows)
  where
    at : (rows : List SeenData) → IsTrue (list_all (is_row_in whole_part) rows)
    at [] = refl
    at (row ∷ rows) = at rows
