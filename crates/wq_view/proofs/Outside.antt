-- The numbers that are not in a rising list.
use Rattle.std.proofs.Common.{◌≡◌, ℕ, zero, suc, ◌+◌, ◌<◌, ◌≤◌, Bool, true, false, not, ◌||◌, ◌==◌, if◌then◌else◌, leb, get_or, List, [], ◌∷◌, map, length, Result, Ok, Err, MatchResult, refl, sym, ap, ◌∙◌, ◌⊎◌, inl, inr, arith}
use Rattle.std.specs.List.{AllByRecursion}
use Rattle.std.specs.Result.{is_ok}
use Rattle.std.proofs.lemmas.Bool.Decides.{leb_tells}
use Rattle.std.proofs.lemmas.List.{length-map, get_or-map}
use Rattle.wq_view.specs.Order.{Rises, nth_outside, positions}
use Rattle.wq_view.specs.Moves.{is_among}
use Rattle.wq_view.proofs.Newest.{eq_same, eq_apart}

first_above : (p : ℕ) (ps : List ℕ) → AllByRecursion (λ q. p < q) ps → 0 < length ps → p < get_or ps 0 0
first_above p [] all h = absurd (omega (arith, h))
first_above p (q ∷ ps) all h = all.0

-- a rising list rises by one at least from place to place
pub rises_far : (xs : List ℕ) → Rises xs → (i j : ℕ) → i ≤ j → j < length xs → get_or xs i 0 + j ≤ get_or xs j 0 + i
rises_far [] up i j le lt = absurd (omega (arith, lt))
rises_far (p ∷ ps) up zero zero le lt = omega arith
rises_far (p ∷ ps) up zero (suc j) le lt =
    omega (arith, first_above p ps up.0 (omega (arith, lt)), rises_far ps up.1 0 j (omega arith) (omega (arith, lt)))
rises_far (p ∷ ps) up (suc i) zero le lt = absurd (omega (arith, le))
rises_far (p ∷ ps) up (suc i) (suc j) le lt = omega (arith, rises_far ps up.1 i j (omega (arith, le)) (omega (arith, lt)))

-- so it does not fall
pub rises_on : (xs : List ℕ) → Rises xs → (i j : ℕ) → i ≤ j → j < length xs → get_or xs i 0 ≤ get_or xs j 0
rises_on xs up i j le lt = omega (arith, rises_far xs up i j le lt, le)

-- the number at a place, if a search has found how many of the list are passed
pub nth_found : (xs : List ℕ) (place k : ℕ) → k ≤ length xs → ((i : ℕ) → i < k → get_or xs i 0 ≤ place + i) → ((i : ℕ) → k ≤ i → i < length xs → place + i < get_or xs i 0) → place + k ≡ nth_outside xs place
nth_found [] place k bound below above = omega (arith, bound)
nth_found (p ∷ xs) place k bound below above = at (leb_tells p place) (λ k. nth_found xs (place + 1) k)
  where
    Rest : Type 0
    Rest = (k : ℕ) → k ≤ length xs → ((i : ℕ) → i < k → get_or xs i 0 ≤ (place + 1) + i) → ((i : ℕ) → k ≤ i → i < length xs → (place + 1) + i < get_or xs i 0) → (place + 1) + k ≡ nth_outside xs (place + 1)

    passed : (k : ℕ) → k ≤ suc (length xs) → ((i : ℕ) → i < k → get_or (p ∷ xs) i 0 ≤ place + i) → ((i : ℕ) → k ≤ i → i < suc (length xs) → place + i < get_or (p ∷ xs) i 0) → p ≤ place → Rest → place + k ≡ nth_outside xs (place + 1)
    passed zero bound below above h rest = absurd (omega (arith, h, above 0 (omega arith) (omega arith)))
    passed (suc k) bound below above h rest =
        let same : place + suc k ≡ (place + 1) + k = omega arith in
        same ∙ rest k (omega (arith, bound)) (λ i l. omega (arith, below (suc i) (omega (arith, l)))) (λ i le lt. omega (arith, above (suc i) (omega (arith, le)) (omega (arith, lt))))

    stopped : (k : ℕ) → ((i : ℕ) → i < k → get_or (p ∷ xs) i 0 ≤ place + i) → place < p → place + k ≡ place
    stopped zero below h = omega arith
    stopped (suc k) below h = absurd (omega (arith, h, below 0 (omega arith)))

    at : ((leb p place ≡ true) × (p ≤ place)) ⊎ ((leb p place ≡ false) × (place < p)) → Rest → place + k ≡ nth_outside (p ∷ xs) place
    at (inl h) rest = rw h.0 (passed k bound below above h.1 rest)
    at (inr h) rest = rw h.0 (stopped k below h.1)

-- one place on
pub nth_later : (xs : List ℕ) (place : ℕ) → nth_outside (map suc xs) (suc place) ≡ suc (nth_outside xs place)
nth_later [] place = refl
nth_later (p ∷ xs) place = at (leb_tells p place) (leb_tells (suc p) (suc place)) (nth_later xs (place + 1))
  where
    at : ((leb p place ≡ true) × (p ≤ place)) ⊎ ((leb p place ≡ false) × (place < p)) → ((leb (suc p) (suc place) ≡ true) × (suc p ≤ suc place)) ⊎ ((leb (suc p) (suc place) ≡ false) × (suc place < suc p)) → nth_outside (map suc xs) (suc (place + 1)) ≡ suc (nth_outside xs (place + 1)) → nth_outside (map suc (p ∷ xs)) (suc place) ≡ suc (nth_outside (p ∷ xs) place)
    at (inl h) (inl g) rest =
        let next : suc place + 1 ≡ suc (place + 1) = omega arith in
        rw (h.0, g.0) (ap (nth_outside (map suc xs)) next ∙ rest)
    at (inl h) (inr g) rest = absurd (omega (arith, h.1, g.1))
    at (inr h) (inl g) rest = absurd (omega (arith, h.1, g.1))
    at (inr h) (inr g) rest = rw (h.0, g.0) refl

-- no number of a list one place on is 0
nth_none : (xs : List ℕ) → nth_outside (map suc xs) 0 ≡ 0
nth_none [] = refl
nth_none (p ∷ xs) = at (leb_tells (suc p) 0)
  where
    at : ((leb (suc p) 0 ≡ true) × (suc p ≤ 0)) ⊎ ((leb (suc p) 0 ≡ false) × (0 < suc p)) → nth_outside (map suc (p ∷ xs)) 0 ≡ 0
    at (inl h) = absurd (omega (arith, h.1))
    at (inr h) = rw h.0 refl

module _ {X : Type 0} (test : X → Bool) where
  -- what is not among the positions of the items that pass a test are those of the others
  pub nth_other : (xs : List X) (j : ℕ) → j < length (positions (λ x. not (test x)) xs) → nth_outside (positions test xs) j ≡ get_or (positions (λ x. not (test x)) xs) j 0
  nth_other [] j h = absurd (omega (arith, h))
  nth_other (x ∷ xs) j h = at (test x) j h (λ j. nth_other xs j)
    where
      ps : List ℕ
      ps = positions test xs

      qs : List ℕ
      qs = positions (λ x. not (test x)) xs

      first : (j : ℕ) → ((leb 0 j ≡ true) × (0 ≤ j)) ⊎ ((leb 0 j ≡ false) × (j < 0)) → nth_outside (0 ∷ map suc ps) j ≡ nth_outside (map suc ps) (j + 1)
      first j (inl g) = rw g.0 refl
      first j (inr g) = absurd (omega (arith, g.1))

      at : (b : Bool) (j : ℕ) → j < length (if not b then 0 ∷ map suc qs else map suc qs) → ((j : ℕ) → j < length qs → nth_outside ps j ≡ get_or qs j 0) → nth_outside (if b then 0 ∷ map suc ps else map suc ps) j ≡ get_or (if not b then 0 ∷ map suc qs else map suc qs) j 0
      at true j h rest =
          let here : j < length qs = omega (arith, h, length-map qs suc) in
          let next : j + 1 ≡ suc j = omega arith in
          first j (leb_tells 0 j)
          ∙ ap (nth_outside (map suc ps)) next
          ∙ nth_later ps j
          ∙ ap suc (rest j here)
          ∙ sym (get_or-map suc qs j 0 0 here)
      at false zero h rest = nth_none ps
      at false (suc j) h rest =
          let here : j < length qs = omega (arith, h, length-map qs suc) in
          nth_later ps j ∙ ap suc (rest j here) ∙ sym (get_or-map suc qs j 0 0 here)

  above_zero : (ps : List ℕ) → AllByRecursion (λ q. 0 < q) (map suc ps)
  above_zero [] = tt
  above_zero (p ∷ ps) = (omega arith, above_zero ps)

  above_later : (p : ℕ) (ps : List ℕ) → AllByRecursion (λ q. p < q) ps → AllByRecursion (λ q. suc p < q) (map suc ps)
  above_later p [] all = tt
  above_later p (q ∷ ps) all = (omega (arith, all.0), above_later p ps all.1)

  rises_later : (ps : List ℕ) → Rises ps → Rises (map suc ps)
  rises_later [] up = tt
  rises_later (p ∷ ps) up = (above_later p ps up.0, rises_later ps up.1)

  -- positions rise
  pub positions_rise : (xs : List X) → Rises (positions test xs)
  positions_rise [] = tt
  positions_rise (x ∷ xs) = at (test x) (rises_later (positions test xs) (positions_rise xs))
    where
      at : (b : Bool) → Rises (map suc (positions test xs)) → Rises (if b then 0 ∷ map suc (positions test xs) else map suc (positions test xs))
      at true later = (above_zero (positions test xs), later)
      at false later = later

-- a number that stands in a list is among it
among_at : (xs : List ℕ) (n i : ℕ) → i < length xs → get_or xs i 0 ≡ n → is_among xs n ≡ true
among_at [] n i h e = absurd (omega (arith, h))
among_at (x ∷ xs) n zero h e =
    let same : (x == n) ≡ true = ap (λ k. k == n) e ∙ eq_same n in
    rw same refl
among_at (x ∷ xs) n (suc i) h e = at (x == n) (among_at xs n i (omega (arith, h)) e)
  where
    at : (b : Bool) → is_among xs n ≡ true → (b || is_among xs n) ≡ true
    at true rest = refl
    at false rest = rest

-- a number from which all differ is not
among_none : (xs : List ℕ) (n : ℕ) → ((i : ℕ) → i < length xs → get_or xs i 0 ≡ n → ⊥) → is_among xs n ≡ false
among_none [] n apart = refl
among_none (x ∷ xs) n apart =
    let other : (x == n) ≡ false = eq_apart x n (λ e. apart 0 (omega arith) e) in
    rw other (among_none xs n (λ i h e. apart (suc i) (omega (arith, h)) e))

-- what a search in a rising list tells
pub among_found : (xs : List ℕ) (n : ℕ) (r : Result ℕ ℕ) → MatchResult r (λ i. (i < length xs) × (get_or xs i 0 ≡ n)) (λ i. (i ≤ length xs) × ((k : ℕ) → k < i → get_or xs k 0 < n) × ((k : ℕ) → i ≤ k → k < length xs → n < get_or xs k 0)) → is_ok r ≡ is_among xs n
among_found xs n (Ok i) h = sym (among_at xs n i h.0 h.1)
among_found xs n (Err i) h = sym (among_none xs n (λ k lt e. apart k lt e (leb_tells i k)))
  where
    apart : (k : ℕ) → k < length xs → get_or xs k 0 ≡ n → ((leb i k ≡ true) × (i ≤ k)) ⊎ ((leb i k ≡ false) × (k < i)) → ⊥
    apart k lt e (inl g) = omega (arith, e, h.2 k g.1 lt)
    apart k lt e (inr g) = omega (arith, e, h.1 k g.1)

-- a position is among those of a tick if it has it, where the tick is not 0
pub among_bucket : (n : ℕ) (ticks : List ℕ) (p : ℕ) → 1 ≤ n → is_among (positions (λ k. k == n) ticks) p ≡ (get_or ticks p 0 == n)
among_bucket n [] p h = sym (eq_apart 0 n (λ e. omega (arith, e, h)))
among_bucket n (x ∷ ticks) p h = at (x == n) refl p (λ p. among_bucket n ticks p h)
  where
    none : (l : List ℕ) → is_among (map suc l) 0 ≡ false
    none [] = refl
    none (q ∷ l) =
        let other : (suc q == 0) ≡ false = eq_apart (suc q) 0 (λ e. omega (arith, e)) in
        rw other (none l)

    later : (l : List ℕ) (p : ℕ) → is_among (map suc l) (suc p) ≡ is_among l p
    later [] p = refl
    later (q ∷ l) p =
        let same : (suc q == suc p) ≡ (q == p) = grind arith in
        rw same (ap (λ b. (q == p) || b) (later l p))

    ps : List ℕ
    ps = positions (λ k. k == n) ticks

    at : (b : Bool) → (x == n) ≡ b → (p : ℕ) → ((p : ℕ) → is_among ps p ≡ (get_or ticks p 0 == n)) → is_among (if b then 0 ∷ map suc ps else map suc ps) p ≡ (get_or (x ∷ ticks) p 0 == n)
    at true e zero rest = sym e
    at false e zero rest = none ps ∙ sym e
    at true e (suc p) rest =
        let other : (0 == suc p) ≡ false = eq_apart 0 (suc p) (λ e. omega (arith, e)) in
        rw other (later ps p ∙ rest p)
    at false e (suc p) rest = later ps p ∙ rest p
