-- The order of last change is that of a sort.
use Rattle.std.proofs.Common.{◌≡◌, ℕ, zero, suc, ◌+◌, ◌<◌, ◌≤◌, ◌==◌, if◌then◌else◌, List, [], ◌∷◌, ◌++◌, map, get_or, ◌⊎◌, inl, inr, refl, sym, ap, subst, ◌∙◌, append_assoc, arith}
use Rattle.std.proofs.lemmas.Bool.{cases_eq}
use Rattle.std.specs.List.{AllByRecursion}
use Rattle.wq_base.proofs.Facts.{all_so, all_both}
use Rattle.wq_view.specs.Order.{positions, newest_first, newer, ComesBefore, Falls, NewestIsSorted, NewestIsSplit}
use Rattle.wq_view.proofs.Newest.{eq_same, eq_apart, newest_within, length-newest_first}

all_map_suc : (P Q : ℕ → Type 0) → ((p : ℕ) → P p → Q (suc p)) → (ps : List ℕ) → AllByRecursion P ps → AllByRecursion Q (map suc ps)
all_map_suc P Q step [] all = tt
all_map_suc P Q step (p ∷ ps) all = (step p all.0, all_map_suc P Q step ps all.1)

-- the positions of a tick have it
pub tick_of_bucket : (n : ℕ) (ticks : List ℕ) → AllByRecursion (λ p. get_or ticks p 0 ≡ n) (positions (λ k. k == n) ticks)
tick_of_bucket n [] = tt
tick_of_bucket n (x ∷ ticks) = at (cases_eq x n) (all_map_suc (λ p. get_or ticks p 0 ≡ n) (λ p. get_or (x ∷ ticks) p 0 ≡ n) (λ p e. e) (positions (λ k. k == n) ticks) (tick_of_bucket n ticks))
  where
    at : (x ≡ n) ⊎ (x ≡ n → ⊥) → AllByRecursion (λ p. get_or (x ∷ ticks) p 0 ≡ n) (map suc (positions (λ k. k == n) ticks)) → AllByRecursion (λ p. get_or (x ∷ ticks) p 0 ≡ n) (positions (λ k. k == n) (x ∷ ticks))
    at (inl e) later = subst (λ b. AllByRecursion (λ p. get_or (x ∷ ticks) p 0 ≡ n) (if b then 0 ∷ map suc (positions (λ k. k == n) ticks) else map suc (positions (λ k. k == n) ticks))) (sym (ap (λ k. k == n) e ∙ eq_same n)) (e, later)
    at (inr e) later = subst (λ b. AllByRecursion (λ p. get_or (x ∷ ticks) p 0 ≡ n) (if b then 0 ∷ map suc (positions (λ k. k == n) ticks) else map suc (positions (λ k. k == n) ticks))) (sym (eq_apart x n e)) later

falls_suc : (x : ℕ) (ticks ps : List ℕ) → Falls ticks ps → Falls (x ∷ ticks) (map suc ps)
falls_suc x ticks [] f = tt
falls_suc x ticks (p ∷ ps) f = (all_map_suc (ComesBefore ticks p) (ComesBefore (x ∷ ticks) (suc p)) step ps f.0, falls_suc x ticks ps f.1)
  where
    step : (q : ℕ) → ComesBefore ticks p q → ComesBefore (x ∷ ticks) (suc p) (suc q)
    step q (inl h) = inl h
    step q (inr h) = inr (h.0, omega (arith, h.1))

bucket_falls : (n : ℕ) (ticks : List ℕ) → Falls ticks (positions (λ k. k == n) ticks)
bucket_falls n [] = tt
bucket_falls n (x ∷ ticks) = at (cases_eq x n) (falls_suc x ticks (positions (λ k. k == n) ticks) (bucket_falls n ticks))
  where
    at : (x ≡ n) ⊎ (x ≡ n → ⊥) → Falls (x ∷ ticks) (map suc (positions (λ k. k == n) ticks)) → Falls (x ∷ ticks) (positions (λ k. k == n) (x ∷ ticks))
    at (inl e) later =
        let first : AllByRecursion (ComesBefore (x ∷ ticks) 0) (map suc (positions (λ k. k == n) ticks)) = all_map_suc (λ p. get_or ticks p 0 ≡ n) (ComesBefore (x ∷ ticks) 0) (λ p is. inr (e ∙ sym is, omega arith)) (positions (λ k. k == n) ticks) (tick_of_bucket n ticks) in
        subst (λ b. Falls (x ∷ ticks) (if b then 0 ∷ map suc (positions (λ k. k == n) ticks) else map suc (positions (λ k. k == n) ticks))) (sym (ap (λ k. k == n) e ∙ eq_same n)) (first, later)
    at (inr e) later = subst (λ b. Falls (x ∷ ticks) (if b then 0 ∷ map suc (positions (λ k. k == n) ticks) else map suc (positions (λ k. k == n) ticks))) (sym (eq_apart x n e)) later

-- what is in the order of a tick changed at it or before
pub newest_bound : (t : ℕ) (ticks : List ℕ) → AllByRecursion (λ p. get_or ticks p 0 ≤ t) (newest_first t ticks)
newest_bound zero ticks = all_so (λ p. get_or ticks p 0 ≡ 0) (λ p. get_or ticks p 0 ≤ 0) (λ p e. omega (arith, e)) (positions (λ k. k == 0) ticks) (tick_of_bucket 0 ticks)
newest_bound (suc t) ticks = all_both (λ p. get_or ticks p 0 ≤ suc t) (positions (λ k. k == suc t) ticks) (newest_first t ticks)
    (all_so (λ p. get_or ticks p 0 ≡ suc t) (λ p. get_or ticks p 0 ≤ suc t) (λ p e. omega (arith, e)) (positions (λ k. k == suc t) ticks) (tick_of_bucket (suc t) ticks))
    (all_so (λ p. get_or ticks p 0 ≤ t) (λ p. get_or ticks p 0 ≤ suc t) (λ p h. omega (arith, h)) (newest_first t ticks) (newest_bound t ticks))

falls_append : (t : ℕ) (ticks ps qs : List ℕ) → Falls ticks ps → Falls ticks qs → AllByRecursion (λ p. get_or ticks p 0 ≡ suc t) ps → AllByRecursion (λ q. get_or ticks q 0 ≤ t) qs → Falls ticks (ps ++ qs)
falls_append t ticks [] qs f g a b = g
falls_append t ticks (p ∷ ps) qs f g a b =
    (all_both (ComesBefore ticks p) ps qs f.0 (all_so (λ q. get_or ticks q 0 ≤ t) (ComesBefore ticks p) (λ q h. inl (omega (arith, h, a.0))) qs b), falls_append t ticks ps qs f.1 g a.1 b)

newest_falls : (t : ℕ) (ticks : List ℕ) → Falls ticks (newest_first t ticks)
newest_falls zero ticks = bucket_falls 0 ticks
newest_falls (suc t) ticks = falls_append t ticks (positions (λ k. k == suc t) ticks) (newest_first t ticks) (bucket_falls (suc t) ticks) (newest_falls t ticks) (tick_of_bucket (suc t) ticks) (newest_bound t ticks)

pub newest_is_sorted : NewestIsSorted
newest_is_sorted t ticks all = (newest_falls t ticks, length-newest_first t ticks all, newest_within t ticks)

module _ (since : ℕ) (ticks : List ℕ) where
  split : (more t : ℕ) → t ≡ more + since → newest_first t ticks ≡ newer more since ticks ++ newest_first since ticks
  split zero t e =
      let same : t ≡ since = omega (arith, e) in
      ap (λ n. newest_first n ticks) same
  split (suc more) t e =
      let next : t ≡ suc (more + since) = omega (arith, e) in
      ap (λ n. newest_first n ticks) next
      ∙ ap (λ l. positions (λ n. n == suc (more + since)) ticks ++ l) (split more (more + since) refl)
      ∙ sym (append_assoc (positions (λ n. n == suc (more + since)) ticks) (newer more since ticks) (newest_first since ticks))

  newer_above : (more : ℕ) → AllByRecursion (λ p. since < get_or ticks p 0) (newer more since ticks)
  newer_above zero = tt
  newer_above (suc more) = all_both (λ p. since < get_or ticks p 0) (positions (λ n. n == suc (more + since)) ticks) (newer more since ticks)
      (all_so (λ p. get_or ticks p 0 ≡ suc (more + since)) (λ p. since < get_or ticks p 0) (λ p e. omega (arith, e)) (positions (λ n. n == suc (more + since)) ticks) (tick_of_bucket (suc (more + since)) ticks))
      (newer_above more)

pub newest_is_split : NewestIsSplit
newest_is_split more since t ticks e = (split since ticks more t e, newer_above since ticks more, newest_bound since ticks)
