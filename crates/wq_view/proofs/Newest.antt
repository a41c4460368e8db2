-- The order of last change before and after a pass.
use Rattle.std.proofs.Common.{◌≡◌, ◌≢◌, ℕ, zero, suc, ◌+◌, ◌<◌, ◌≤◌, Bool, true, false, cond, not, ◌==◌, if◌then◌else◌, get_or, List, [], ◌∷◌, map, length, ◌⊎◌, inl, inr, refl, sym, ap, ◌∙◌, arith, length-append}
use Rattle.std.proofs.lemmas.Bool.{cases_eq}
use Rattle.std.specs.List.{filter, All, AllZip, AllByRecursion}
use Rattle.std.proofs.lemmas.List.{length-map}
use Rattle.std.proofs.lemmas.List.Elements.{All-cons, All-append, All-map}
use Rattle.wq_view.specs.Order.{positions, newest_first}

-- whether the record at a position, by its tick, did not change at this tick
abbrev pub is_left : ℕ → List ℕ → ℕ → Bool
is_left tick ticks p = not (get_or ticks p 0 == tick)

-- how many positions there are with one item more
pub length-positions : {X : Type 0} (test : X → Bool) (x : X) (xs : List X) → length (positions test (x ∷ xs)) ≡ cond (test x) 1 0 + length (positions test xs)
length-positions test x xs = elim (test x) as (λ b. length (if b then 0 ∷ map suc (positions test xs) else map suc (positions test xs)) ≡ cond b 1 0 + length (positions test xs)) [
  | true ↦ omega (arith, length-map (positions test xs) suc)
  | false ↦ omega (arith, length-map (positions test xs) suc)
]

pub eq_same : (n : ℕ) → (n == n) ≡ true
eq_same n = grind arith

pub eq_apart : (m n : ℕ) → m ≢ n → (m == n) ≡ false
eq_apart m n h = grind (arith, h)

-- a test of positions, and the same test one place on
pub filter_suc : (p q : ℕ → Bool) → ((n : ℕ) → p (suc n) ≡ q n) → (ps : List ℕ) → filter p (map suc ps) ≡ map suc (filter q ps)
filter_suc p q same [] = refl
filter_suc p q same (n ∷ ps) = rw (same n) (elim (q n) as (λ b. cond b (suc n ∷ filter p (map suc ps)) (filter p (map suc ps)) ≡ map suc (cond b (n ∷ filter q ps) (filter q ps))) [
  | true ↦ ap (λ l. suc n ∷ l) (filter_suc p q same ps)
  | false ↦ filter_suc p q same ps
])

-- a tick before a pass and after it: at most t, and then t + 1 or the same
abbrev pub Moves : ℕ → ℕ → ℕ → Type 0
Moves t before after = (before ≤ t) × ((after ≡ suc t) ⊎ (after ≡ before))

module _ (t : ℕ) where
  -- the positions of one tick after the pass are those of before that did not change
  pub same_bucket : (n : ℕ) → n ≤ t → (before after : List ℕ) → AllZip (Moves t) before after → positions (λ k. k == n) after ≡ filter (is_left (suc t) after) (positions (λ k. k == n) before)
  same_bucket n h [] [] all = refl
  same_bucket n h [] (a ∷ after) all = absurd all
  same_bucket n h (b ∷ before) [] all = absurd all
  same_bucket n h (b ∷ before) (a ∷ after) all =
      let later : map suc (positions (λ k. k == n) after) ≡ filter (is_left (suc t) (a ∷ after)) (map suc (positions (λ k. k == n) before)) =
      ap (map suc) (same_bucket n h before after all.1) ∙ sym (filter_suc (is_left (suc t) (a ∷ after)) (is_left (suc t) after) (λ _. refl) (positions (λ k. k == n) before)) in
      step later all.0.1
    where
      step : map suc (positions (λ k. k == n) after) ≡ filter (is_left (suc t) (a ∷ after)) (map suc (positions (λ k. k == n) before)) → (a ≡ suc t) ⊎ (a ≡ b) → positions (λ k. k == n) (a ∷ after) ≡ filter (is_left (suc t) (a ∷ after)) (positions (λ k. k == n) (b ∷ before))
      step later (inl moved) =
          let no : (a == n) ≡ false = eq_apart a n (λ e. omega (arith, h, moved, e)) in
          let after_deletion : is_left (suc t) (a ∷ after) 0 ≡ false = ap (λ k. not (k == suc t)) moved ∙ ap not (eq_same (suc t)) in
          rw no (later ∙ sym (elim (b == n) as (λ c. filter (is_left (suc t) (a ∷ after)) (if c then 0 ∷ map suc (positions (λ k. k == n) before) else map suc (positions (λ k. k == n) before)) ≡ filter (is_left (suc t) (a ∷ after)) (map suc (positions (λ k. k == n) before))) [
            | true ↦ ap (λ c. cond c (0 ∷ filter (is_left (suc t) (a ∷ after)) (map suc (positions (λ k. k == n) before))) (filter (is_left (suc t) (a ∷ after)) (map suc (positions (λ k. k == n) before)))) after_deletion
            | false ↦ refl
          ]))
      step later (inr same) =
          let stays : is_left (suc t) (a ∷ after) 0 ≡ true = ap not (eq_apart a (suc t) (λ e. omega (arith, all.0.0, same, e))) in
          ap (λ k. if (k == n) then 0 ∷ map suc (positions (λ j. j == n) after) else map suc (positions (λ j. j == n) after)) same
          ∙ elim (b == n) as (λ c. (if c then 0 ∷ map suc (positions (λ k. k == n) after) else map suc (positions (λ k. k == n) after)) ≡ filter (is_left (suc t) (a ∷ after)) (if c then 0 ∷ map suc (positions (λ k. k == n) before) else map suc (positions (λ k. k == n) before))) [
            | true ↦ ap (λ l. 0 ∷ l) later ∙ sym (ap (λ c. cond c (0 ∷ filter (is_left (suc t) (a ∷ after)) (map suc (positions (λ k. k == n) before))) (filter (is_left (suc t) (a ∷ after)) (map suc (positions (λ k. k == n) before)))) stays)
            | false ↦ later
          ]

-- each position comes once: the order is as long as the list, and within it
length_above : (t x : ℕ) (xs : List ℕ) → t < x → length (newest_first t (x ∷ xs)) ≡ length (newest_first t xs)
length_above zero x xs h =
    let first = length-positions (λ k. k == 0) x xs ∙ ap (λ b. cond b 1 0 + length (positions (λ k. k == 0) xs)) (eq_apart x 0 (λ e. omega (arith, e, h))) in
    omega (arith, first)
length_above (suc t) x xs h =
    let first = length-positions (λ k. k == suc t) x xs ∙ ap (λ b. cond b 1 0 + length (positions (λ k. k == suc t) xs)) (eq_apart x (suc t) (λ e. omega (arith, e, h))) in
    omega (arith, first, length_above t x xs (omega (arith, h)), length-append (positions (λ k. k == suc t) (x ∷ xs)) (newest_first t (x ∷ xs)), length-append (positions (λ k. k == suc t) xs) (newest_first t xs))

length_within : (t x : ℕ) (xs : List ℕ) → x ≤ t → length (newest_first t (x ∷ xs)) ≡ suc (length (newest_first t xs))
length_within zero x xs h =
    let none : x ≡ 0 = omega (arith, h) in
    let first = length-positions (λ k. k == 0) x xs ∙ ap (λ b. cond b 1 0 + length (positions (λ k. k == 0) xs)) (ap (λ n. n == 0) none ∙ eq_same 0) in
    omega (arith, first)
length_within (suc t) x xs h = at (cases_eq x (suc t)) (λ l. length_within t x xs l)
  where
    parts : length (newest_first (suc t) (x ∷ xs)) ≡ length (positions (λ k. k == suc t) (x ∷ xs)) + length (newest_first t (x ∷ xs))
    parts = length-append (positions (λ k. k == suc t) (x ∷ xs)) (newest_first t (x ∷ xs))

    at : (x ≡ suc t) ⊎ (x ≢ suc t) → (x ≤ t → length (newest_first t (x ∷ xs)) ≡ suc (length (newest_first t xs))) → length (newest_first (suc t) (x ∷ xs)) ≡ suc (length (newest_first (suc t) xs))
    at (inl e) earlier =
        let first = length-positions (λ k. k == suc t) x xs ∙ ap (λ b. cond b 1 0 + length (positions (λ k. k == suc t) xs)) (ap (λ n. n == suc t) e ∙ eq_same (suc t)) in
        omega (arith, parts, first, length_above t x xs (omega (arith, e)), length-append (positions (λ k. k == suc t) xs) (newest_first t xs))
    at (inr e) earlier =
        let first = length-positions (λ k. k == suc t) x xs ∙ ap (λ b. cond b 1 0 + length (positions (λ k. k == suc t) xs)) (eq_apart x (suc t) e) in
        let before : x ≤ t = omega (arith, h, e) in
        omega (arith, parts, first, earlier before, length-append (positions (λ k. k == suc t) xs) (newest_first t xs))

pub length-newest_first : (t : ℕ) (ticks : List ℕ) → AllByRecursion (λ n. n ≤ t) ticks → length (newest_first t ticks) ≡ length ticks
length-newest_first t [] all = empty t
  where
    empty : (t : ℕ) → length (newest_first t []) ≡ 0
    empty zero = refl
    empty (suc t) = empty t
length-newest_first t (x ∷ xs) all = length_within t x xs all.0 ∙ ap suc (length-newest_first t xs all.1)

pub positions_within : (test : ℕ → Bool) (xs : List ℕ) → All (λ p. p < length xs) (positions test xs)
positions_within test [] = λ k d h. absurd (omega (arith, h))
positions_within test (x ∷ xs) =
    let later : All (λ p. p < suc (length xs)) (map suc (positions test xs)) = All-map (λ p. p < suc (length xs)) suc (positions test xs) (λ k d h. omega (arith, positions_within test xs k d h)) in
    elim (test x) as (λ b. All (λ p. p < suc (length xs)) (if b then 0 ∷ map suc (positions test xs) else map suc (positions test xs))) [
      | true ↦ All-cons (λ p. p < suc (length xs)) 0 (map suc (positions test xs)) (omega arith) later
      | false ↦ later
    ]

pub newest_within : (t : ℕ) (ticks : List ℕ) → All (λ p. p < length ticks) (newest_first t ticks)
newest_within zero ticks = positions_within (λ k. k == 0) ticks
newest_within (suc t) ticks = All-append (λ p. p < length ticks) (positions (λ k. k == suc t) ticks) (newest_first t ticks) (positions_within (λ k. k == suc t) ticks) (newest_within t ticks)
