-- A set that is filled byte by byte, from one byte to another.
use Rattle.std.proofs.Common.{◌≡◌, ℕ, ◌+◌, ◌<◌, ◌≤◌, Bool, true, false, ◌&&◌, ◌||◌, ◌==◌, nat_lt, nat_le, List, refl, sym, ◌∙◌, ap, inl, inr, arith}
use Rattle.std.proofs.lemmas.Bool.{cases_order, cases_eq, lt-ltb, le-ltb, lt-leb, le-leb, eq-eqb, ne_eqb, cases_lt}
use Rattle.std.proofs.Math.Bool.{or-false, and-false}
use Rattle.wq_glob.specs.Byte.{is_between, is_upper, is_lower, lower_of, upper_of}
use Rattle.wq_glob.specs.Class.{in_items, in_either_case}
use Rattle.wq_glob.specs.declared.class.Item.{Item}

or_assoc : (a b c : Bool) → ((a || b) || c) ≡ (a || (b || c))
or_assoc true b c = refl
or_assoc false b c = refl

-- the bytes below n + 1 are those below n, and n
below_next : (b n : ℕ) → nat_lt b (n + 1) ≡ (nat_lt b n || b == n)
below_next b n =
    elim (cases_order b n) [
      | inl same ↦ rw (lt-ltb b (n + 1) (omega arith), le-ltb b n (omega arith), eq-eqb b n same) refl
      | inr (inl below) ↦ rw (lt-ltb b (n + 1) (omega arith), lt-ltb b n below) refl
      | inr (inr above) ↦
          let ne : b ≡ n → ⊥ = omega arith in
          rw (le-ltb b (n + 1) (omega arith), le-ltb b n (omega arith), ne_eqb b n ne) refl
    ]

at_here : (b n : ℕ) (test : ℕ → Bool) (v : Bool) → test n ≡ v → ((b == n) && test b) ≡ ((b == n) && v)
at_here b n test v is =
    elim (cases_eq b n) [
      | inl same ↦ rw same (ap (λ (t : Bool). (n == n) && t) is)
      | inr other ↦ rw (ne_eqb b n other) refl
    ]

spread : (x p q t u : Bool) → (q && t) ≡ (q && u) → (x || ((p || q) && t)) ≡ ((x || (p && t)) || (q && u))
spread true p q t u e = refl
spread false true true true u e = refl
spread false true true false u e = e
spread false true false t u e = sym (or-false t)
spread false false true t u e = e
spread false false false t u e = refl

-- a byte that passes is put into the set
pub put_more : (old held new : Bool) (test : ℕ → Bool) (b n : ℕ) → held ≡ (old || (nat_lt b n && test b)) → test n ≡ true → new ≡ (held || b == n) → new ≡ (old || (nat_lt b (n + 1) && test b))
put_more old held new test b n was passes is =
    is ∙ ap (λ (h : Bool). h || b == n) was
    ∙ ap (λ (q : Bool). (old || (nat_lt b n && test b)) || q) (sym (and_true (b == n)))
    ∙ sym (spread old (nat_lt b n) (b == n) (test b) true (at_here b n test true passes))
    ∙ ap (λ (p : Bool). old || (p && test b)) (sym (below_next b n))
  where
    and_true : (q : Bool) → (q && true) ≡ q
    and_true true = refl
    and_true false = refl

-- and one that does not is left out
pub skip_more : (old held : Bool) (test : ℕ → Bool) (b n : ℕ) → held ≡ (old || (nat_lt b n && test b)) → test n ≡ false → held ≡ (old || (nat_lt b (n + 1) && test b))
skip_more old held test b n was fails =
    was
    ∙ sym (or-false (old || (nat_lt b n && test b)))
    ∙ ap (λ (q : Bool). (old || (nat_lt b n && test b)) || q) (sym (and-false (b == n)))
    ∙ sym (spread old (nat_lt b n) (b == n) (test b) false (at_here b n test false fails))
    ∙ ap (λ (p : Bool). old || (p && test b)) (sym (below_next b n))

-- below a range no byte is in it
pub range_begin : (old held : Bool) (first last b n : ℕ) → n ≡ first → held ≡ old → held ≡ (old || (nat_lt b n && is_between first last b))
range_begin old held first last b n same is =
    elim (cases_lt b first) [
      | inr from ↦ is ∙ rw (same, le-ltb b first from) (sym (or-false old))
      | inl below ↦ is ∙ rw (same, lt-ltb b first below, lt-leb first b below) (sym (or-false old))
    ]

-- a byte of a range is put into the set
pub range_more : (old held new : Bool) (first last b n byte : ℕ) → held ≡ (old || (nat_lt b n && is_between first last b)) → first ≤ n → n ≤ last → byte ≡ n → new ≡ (held || b == byte) →
    new ≡ (old || (nat_lt b (n + 1) && is_between first last b))
range_more old held new first last b n byte was from to same is =
    let passes : is_between first last n ≡ true = rw (le-leb first n from, le-leb n last to) refl in
    put_more old held new (is_between first last) b n was passes (is ∙ ap (λ (m : ℕ). held || b == m) same)

-- after its last byte the whole range is in
pub range_end : (old held : Bool) (first last b n : ℕ) → last < n → held ≡ ((old || b == first) || (nat_lt b n && is_between first last b)) → held ≡ (old || (b == first || is_between first last b))
range_end old held first last b n past is = is ∙ ap (λ (r : Bool). (old || b == first) || r) inside ∙ or_assoc old (b == first) (is_between first last b)
  where
    inside : (nat_lt b n && is_between first last b) ≡ is_between first last b
    inside =
        elim (cases_lt b n) [
          | inr above ↦ rw (le-ltb b n above, lt-leb b last (omega arith)) (sym (and-false (nat_le first b)))
          | inl below ↦ rw (lt-ltb b n below) refl
        ]

-- a byte that is no letter has no other form
no_letter : (items : List Item) (b : ℕ) → is_upper b ≡ false → is_lower b ≡ false → in_either_case true items b ≡ in_items items b
unfolding lower_of upper_of
no_letter items b upper lower = rw (upper, lower) (three (in_items items b))
  where
    three : (x : Bool) → (x || (x || x)) ≡ x
    three true = refl
    three false = refl

below_letters : (items : List Item) (b : ℕ) → b < 65 → in_either_case true items b ≡ in_items items b
below_letters items b below = no_letter items b (rw (lt-leb 65 b below) refl) (rw (lt-leb 97 b (omega arith)) refl)

above_letters : (items : List Item) (b : ℕ) → 122 < b → in_either_case true items b ≡ in_items items b
above_letters items b above =
    no_letter items b (rw (lt-leb b 90 (omega arith)) (and-false (nat_le 65 b))) (rw (lt-leb b 122 above) (and-false (nat_le 97 b)))

-- below the letters nothing is added
pub cases_begin : (old : Bool) (items : List Item) (b : ℕ) → old ≡ in_items items b → old ≡ (old || (nat_lt b 65 && in_either_case true items b))
cases_begin old items b is =
    elim (cases_lt b 65) [
      | inr from ↦ rw (le-ltb b 65 from) (sym (or-false old))
      | inl below ↦ rw (lt-ltb b 65 below, below_letters items b below, ← is) (sym (twice old))
    ]
  where
    twice : (x : Bool) → (x || x) ≡ x
    twice true = refl
    twice false = refl

-- and after them all are in
pub cases_end : (old held : Bool) (items : List Item) (b n : ℕ) → n ≡ 123 → old ≡ in_items items b → held ≡ (old || (nat_lt b n && in_either_case true items b)) → held ≡ in_either_case true items b
cases_end old held items b n last is all =
    elim (cases_lt b 123) [
      | inr above ↦ all ∙ rw (last, le-ltb b 123 above) (or-false old ∙ is ∙ sym (above_letters items b above))
      | inl below ↦ all ∙ rw (last, lt-ltb b 123 below, is) (within (in_items items b) (in_items items (lower_of b) || in_items items (upper_of b)))
    ]
  where
    within : (x y : Bool) → (x || (x || y)) ≡ (x || y)
    within true y = refl
    within false y = refl
