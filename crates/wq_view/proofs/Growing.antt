-- The positions of a tick if records of tick 0 come between the others.
use Rattle.std.proofs.Common.{◌≡◌, ◌≢◌, ℕ, suc, ◌<◌, ◌≤◌, Bool, true, false, cond, not, ◌==◌, if◌then◌else◌, List, [], ◌∷◌, map, length, get_or, ◌⊎◌, inl, inr, refl, sym, ap, ◌∙◌, arith}
use Rattle.std.proofs.lemmas.Bool.{cases_eq}
use Rattle.std.proofs.lemmas.List.{length-map, get_or-map}
use Rattle.std.specs.List.{filter, AllByRecursion}
use Rattle.std.proofs.lemmas.List.Elements.{recursion_from_All}
use Rattle.wq_view.specs.Order.{positions}
use Rattle.wq_view.proofs.Newest.{eq_same, eq_apart, positions_within}

-- whether a pass has seen the record of this tick
abbrev pub is_known : ℕ → Bool
is_known n = not (n == 0)

pub length-kept : (test : ℕ → Bool) (xs : List ℕ) → length (positions test xs) ≡ length (filter test xs)
length-kept test [] = refl
length-kept test (x ∷ xs) = elim (test x) as (λ b. length (if b then 0 ∷ map suc (positions test xs) else map suc (positions test xs)) ≡ length (cond b (x ∷ filter test xs) (filter test xs))) [
  | true ↦ omega (arith, length-map (positions test xs) suc, length-kept test xs)
  | false ↦ omega (arith, length-map (positions test xs) suc, length-kept test xs)
]

-- looking up one place on
map_past : (x : ℕ) (ps qs : List ℕ) → map (λ q. get_or (x ∷ ps) q 0) (map suc qs) ≡ map (λ q. get_or ps q 0) qs
map_past x ps [] = refl
map_past x ps (q ∷ qs) = ap (λ l. get_or ps q 0 ∷ l) (map_past x ps qs)

map_suc : (ps qs : List ℕ) → AllByRecursion (λ q. q < length ps) qs → map (λ q. get_or (map suc ps) q 0) qs ≡ map suc (map (λ q. get_or ps q 0) qs)
map_suc ps [] all = refl
map_suc ps (q ∷ qs) all = ap (λ n. n ∷ map (λ p. get_or (map suc ps) p 0) qs) (get_or-map suc ps q 0 0 all.0) ∙ ap (λ l. suc (get_or ps q 0) ∷ l) (map_suc ps qs all.1)

module _ (n : ℕ) (h : 1 ≤ n) where
  abbrev is_n : ℕ → Bool
  is_n k = k == n

  abbrev found : List ℕ → List ℕ
  found xs = map (λ p. get_or (positions is_known xs) p 0) (positions is_n (filter is_known xs))

  -- the positions of one tick, through the places of the known
  pub grown_bucket : (xs : List ℕ) → positions is_n xs ≡ found xs
  grown_bucket [] = refl
  grown_bucket (x ∷ xs) = at (cases_eq x 0) (grown_bucket xs)
    where
      ps : List ℕ
      ps = positions is_known xs

      qs : List ℕ
      qs = positions is_n (filter is_known xs)

      within : AllByRecursion (λ q. q < length ps) qs
      within = recursion_from_All (λ q. q < length ps) qs (λ k d l. omega (arith, positions_within is_n (filter is_known xs) k d l, length-kept is_known xs))

      at : (x ≡ 0) ⊎ (x ≢ 0) → positions is_n xs ≡ found xs → positions is_n (x ∷ xs) ≡ found (x ∷ xs)
      at (inl e) later =
          let no : is_n x ≡ false = eq_apart x n (λ same. omega (arith, same, e, h)) in
          let unknown : is_known x ≡ false = ap (λ k. not (k == 0)) e ∙ ap not (eq_same 0) in
          rw (no, unknown) (ap (map suc) later ∙ sym (map_suc ps qs within))
      at (inr e) later =
          let known : is_known x ≡ true = ap not (eq_apart x 0 e) in
          let rest : map (λ q. get_or (0 ∷ map suc ps) q 0) (map suc qs) ≡ map suc (positions is_n xs) = map_past 0 (map suc ps) qs ∙ map_suc ps qs within ∙ ap (map suc) (sym later) in
          rw known (elim (is_n x) as (λ b. (if b then 0 ∷ map suc (positions is_n xs) else map suc (positions is_n xs)) ≡ map (λ q. get_or (0 ∷ map suc ps) q 0) (if b then 0 ∷ map suc qs else map suc qs)) [
            | true ↦ ap (λ l. 0 ∷ l) (sym rest)
            | false ↦ sym rest
          ])
