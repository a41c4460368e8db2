-- Lists of roots: the roots with a number, and the steps that keep their numbers.
use Rattle.std.proofs.Common.{◌≡◌, ◌==◌, ℕ, ◌<◌, ◌≤◌, Bool, true, false, cond, not, ◌&&◌, List, [], ◌∷◌, map, filter, Some, is_some, refl, ap, subst, arith, option_map, bytes_eq}
use Rattle.std.specs.List.{find, list_any, AllByRecursion}
use Rattle.std.proofs.lemmas.Bool.Decides.{nat_tests}
use Rattle.std.proofs.lemmas.Option.{same_Some}
use Rattle.std.proofs.lemmas.Bool.{eqb-true}
use Rattle.wq_view.specs.View.{ViewData}
use Rattle.wq_live.specs.Event.{Root}
use Rattle.wq_live.specs.Table.{RootView, root_of, has_number, has_text, with_view}

-- different numbers are told apart
pub less_differs : (m n : ℕ) → m < n → (m == n) ≡ false
less_differs m n lt = grind (arith, nat_tests)

pub number_itself : (n : ℕ) → (n == n) ≡ true
number_itself n = grind (arith, nat_tests)

-- the test of numbers is the same the other way round
pub turned : (m n : ℕ) (b : Bool) → (m == n) ≡ b → (n == m) ≡ b
turned m n true h = grind (arith, nat_tests)
turned m n false h = grind (arith, nat_tests)

-- a root is shown under a number exactly if one of these roots has it
pub any_of_number : (n : ℕ) (roots : List RootView) → list_any (λ (root : Root). root.number == n) (map root_of roots) ≡ is_some (find (has_number n) roots)
any_of_number n [] = refl
any_of_number n (r ∷ rs) = at (r.number == n) refl (any_of_number n rs)
  where
    at : (b : Bool) → (r.number == n) ≡ b → list_any (λ (root : Root). root.number == n) (map root_of rs) ≡ is_some (find (has_number n) rs)
        → list_any (λ (root : Root). root.number == n) (map root_of (r ∷ rs)) ≡ is_some (find (has_number n) (r ∷ rs))
    at true e ih = rw e refl
    at false e ih = rw e ih

-- a root is found by its text with and without views
pub root_of_text : (text : List ℕ) (roots : List RootView) → find (λ (root : Root). bytes_eq root.text text) (map root_of roots) ≡ option_map root_of (find (has_text text) roots)
root_of_text text [] = refl
root_of_text text (r ∷ rs) = at (bytes_eq r.text text) refl (root_of_text text rs)
  where
    at : (b : Bool) → bytes_eq r.text text ≡ b → find (λ (root : Root). bytes_eq root.text text) (map root_of rs) ≡ option_map root_of (find (has_text text) rs)
        → find (λ (root : Root). bytes_eq root.text text) (map root_of (r ∷ rs)) ≡ option_map root_of (find (has_text text) (r ∷ rs))
    at true e ih = rw e refl
    at false e ih = rw e ih

-- the root that is found passes the test, and has each fact that holds of the whole list
pub found_passes : {X : Type 0} (p : X → Bool) (P : X → Type 0) (xs : List X) (x : X) → find p xs ≡ Some x → AllByRecursion P xs → (p x ≡ true) × P x
found_passes p P [] x h all = absurd cc
found_passes p P (y ∷ ys) x h all = at (p y) refl (λ k. found_passes p P ys x k all.1)
  where
    at : (b : Bool) → p y ≡ b → (find p ys ≡ Some x → (p x ≡ true) × P x) → (p x ≡ true) × P x
    at true e later = let same : y ≡ x = same_Some _ _ (subst (λ c. cond c (Some y) (find p ys) ≡ Some x) e h) in (subst (λ z. p z ≡ true) same e, subst P same all.0)
    at false e later = later (subst (λ c. cond c (Some y) (find p ys) ≡ Some x) e h)

-- a root that is found by a number has it
pub found_number : (n : ℕ) (roots : List RootView) (r : RootView) → find (has_number n) roots ≡ Some r → r.number ≡ n
found_number n [] r h = absurd cc
found_number n (y ∷ ys) r h = at (y.number == n) refl (λ k. found_number n ys r k)
  where
    at : (b : Bool) → (y.number == n) ≡ b → (find (has_number n) ys ≡ Some r → r.number ≡ n) → r.number ≡ n
    at true e later =
        let same : y ≡ r = same_Some _ _ (subst (λ c. cond c (Some y) (find (has_number n) ys) ≡ Some r) e h) in
        subst (λ (z : RootView). z.number ≡ n) same (eqb-true y.number n e)
    at false e later = later (subst (λ c. cond c (Some y) (find (has_number n) ys) ≡ Some r) e h)

-- another view changes neither numbers nor texts
pub same_roots : (n : ℕ) (view : ViewData) (roots : List RootView) → map root_of (map (with_view n view) roots) ≡ map root_of roots
same_roots n view [] = refl
same_roots n view (r ∷ rs) = at (r.number == n) refl (same_roots n view rs)
  where
    at : (b : Bool) → (r.number == n) ≡ b → map root_of (map (with_view n view) rs) ≡ map root_of rs → map root_of (map (with_view n view) (r ∷ rs)) ≡ map root_of (r ∷ rs)
    at true e ih = rw e (ap (λ l. root_of r ∷ l) ih)
    at false e ih = rw e (ap (λ l. root_of r ∷ l) ih)

-- a root left out by its number is the same with and without views
pub without_number : (n : ℕ) (roots : List RootView) → map root_of (filter (λ r. not (has_number n r)) roots) ≡ filter (λ (root : Root). not (root.number == n)) (map root_of roots)
without_number n [] = refl
without_number n (r ∷ rs) = at (r.number == n) refl (without_number n rs)
  where
    at : (b : Bool) → (r.number == n) ≡ b → map root_of (filter (λ r. not (has_number n r)) rs) ≡ filter (λ (root : Root). not (root.number == n)) (map root_of rs)
        → map root_of (filter (λ r. not (has_number n r)) (r ∷ rs)) ≡ filter (λ (root : Root). not (root.number == n)) (map root_of (r ∷ rs))
    at true e ih = rw e ih
    at false e ih = rw e (ap (λ l. root_of r ∷ l) ih)

-- two filters in turn are one filter
pub filter_twice : {X : Type 0} (p q : X → Bool) (xs : List X) → filter q (filter p xs) ≡ filter (λ x. p x && q x) xs
filter_twice p q [] = refl
filter_twice p q (x ∷ xs) = at (p x) refl (filter_twice p q xs)
  where
    at : (b : Bool) → p x ≡ b → filter q (filter p xs) ≡ filter (λ x. p x && q x) xs → filter q (filter p (x ∷ xs)) ≡ filter (λ x. p x && q x) (x ∷ xs)
    at true e ih = second (q x) refl
      where
        second : (c : Bool) → q x ≡ c → filter q (filter p (x ∷ xs)) ≡ filter (λ x. p x && q x) (x ∷ xs)
        second true f = rw (e, f) (ap (λ l. x ∷ l) ih)
        second false f = rw (e, f) ih
    at false e ih = rw e ih

-- another view of a number that no root has changes nothing
pub no_such_root : (n k : ℕ) (view : ViewData) (roots : List RootView) → k < n → AllByRecursion (λ (root : RootView). root.number ≤ k) roots → map (with_view n view) roots ≡ roots
no_such_root n k view [] lt all = refl
no_such_root n k view (r ∷ rs) lt all = rw (less_differs r.number n (omega (arith, all.0))) (ap (λ l. r ∷ l) (no_such_root n k view rs lt all.1))
