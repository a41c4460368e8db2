-- Idle moments that are due, and more of them.
use Rattle.std.proofs.Common.{◌≡◌, ◌<◌, ◌≤◌, ◌+◌, ◌==◌, ◌||◌, ℕ, Bool, true, false, List, [], ◌∷◌, ◌++◌, All, length, get_or, take, refl, sym, ap, subst, ◌∙◌, append_assoc, arith}
use mathlib.Core.Bool.{false≢true}
use Rattle.std.specs.List.{Contains, list_any}
use Rattle.std.proofs.lemmas.Bool.{eqb-true}
use Rattle.std.proofs.lemmas.List.{take_all}
use Rattle.std.proofs.lemmas.List.Elements.{All-more, Contains-append_left, Contains-append_right, Contains-get_or, Contains-push}

-- a number that is found in a list is one of it
found : (x : ℕ) (xs : List ℕ) → list_any (λ y. y == x) xs ≡ true → Contains xs x
found x [] is = absurd (false≢true is)
found x (y ∷ ys) is = at (y == x) refl is (found x ys)
  where
    at : (b : Bool) → (y == x) ≡ b → list_any (λ y. y == x) (y ∷ ys) ≡ true → (list_any (λ y. y == x) ys ≡ true → Contains ys x) → Contains (y ∷ ys) x
    at true e is later = subst (Contains (y ∷ ys)) (eqb-true y x e) (Contains-get_or (y ∷ ys) 0 y (omega arith))
    at false e is later = Contains-append_right (y ∷ []) ys x (later (sym (ap (λ b. b || list_any (λ y. y == x) ys) e) ∙ is))

-- the numbers so far are due, and what was due stays
abbrev pub SoFar : List ℕ → List ℕ → List ℕ → ℕ → Type 0
SoFar before due numbers i = ((more : List ℕ) × (due ≡ before ++ more)) × All (Contains due) (take i numbers)

-- a number that is due already
pub due_already : (before due numbers : List ℕ) (i : ℕ) → i < length numbers → SoFar before due numbers i
    → list_any (λ y. y == get_or numbers i 0) due ≡ true → SoFar before due numbers (i + 1)
due_already before due numbers i within (kept, all) is =
    (kept, All-more (Contains due) numbers i 0 within all (found (get_or numbers i 0) due is))

-- a number that becomes due
pub becomes_due : (before due numbers : List ℕ) (i : ℕ) → i < length numbers → SoFar before due numbers i
    → SoFar before (due ++ get_or numbers i 0 ∷ []) numbers (i + 1)
becomes_due before due numbers i within ((more, kept), all) = (
  (more ++ get_or numbers i 0 ∷ [], ap (λ l. l ++ get_or numbers i 0 ∷ []) kept ∙ append_assoc before more (get_or numbers i 0 ∷ [])),
  All-more (Contains (due ++ get_or numbers i 0 ∷ [])) numbers i 0 within
      (λ k d inside. Contains-append_left due (get_or numbers i 0 ∷ []) _ (all k d inside))
      (Contains-push due (get_or numbers i 0)),
)

-- all numbers are due in the end
pub all_due : (before due numbers : List ℕ) (i : ℕ) → length numbers ≤ i → SoFar before due numbers i → All (Contains due) numbers
all_due before due numbers i past (kept, all) = subst (All (Contains due)) (take_all i numbers past) all
