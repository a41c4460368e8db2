-- Counts and searches over the numbers of a range.
use Rattle.std.proofs.Common.{◌≡◌, ℕ, zero, suc, ◌+◌, ◌-◌, ◌<◌, ◌≤◌, Bool, true, false, ◌&&◌, nat_le, nat_lt, cond, refl, sym, ◌∙◌, ap, inl, inr, arith}
use Rattle.std.specs.List.{count_by, list_any, range_with_len}
use Rattle.std.proofs.lemmas.Bool.{cases_lt, cases_eq, le-leb, lt-leb, lt-ltb, le-ltb, or_left, or_right, or_from, and_left, and_right}
use Rattle.std.proofs.lemmas.List.Sums.{sum_by-cons}

-- whether a number passes adds one to the count or nothing
count_yes : (test : ℕ → Bool) (a n : ℕ) → test a ≡ true → count_by test (range_with_len a (suc n)) ≡ 1 + count_by test (range_with_len (a + 1) n)
count_yes test a n is = sum_by-cons (λ k. cond (test k) 1 0) a (range_with_len (a + 1) n) ∙ ap (λ b. cond b 1 0 + count_by test (range_with_len (a + 1) n)) is

count_no : (test : ℕ → Bool) (a n : ℕ) → test a ≡ false → count_by test (range_with_len a (suc n)) ≡ 0 + count_by test (range_with_len (a + 1) n)
count_no test a n is = sum_by-cons (λ k. cond (test k) 1 0) a (range_with_len (a + 1) n) ∙ ap (λ b. cond b 1 0 + count_by test (range_with_len (a + 1) n)) is

-- a test that holds from `low` to before `end` counts as many numbers of a range from `a` on
count_between : (test : ℕ → Bool) (n a low end : ℕ) → end ≤ a + n →
    ((j : ℕ) → a ≤ j → j < a + n → test j ≡ (nat_le low j && nat_lt j end)) → count_by test (range_with_len a n) ≡ (end - a) - (low - a)
count_between test zero a low end within is = omega arith
count_between test (suc n) a low end within is =
    let later : count_by test (range_with_len (a + 1) n) ≡ (end - (a + 1)) - (low - (a + 1)) = count_between test n (a + 1) low end (omega arith) (λ j from before. is j (omega arith) (omega arith)) in
    elim (cases_lt a low) [
      | inl under ↦
          let no : test a ≡ false = is a (omega arith) (omega arith) ∙ and_left _ _ (lt-leb low a under) in
          let e = count_no test a n no in
          omega arith
      | inr from ↦
          elim (cases_lt a end) [
            | inl before ↦
                let yes : test a ≡ true = is a (omega arith) (omega arith) ∙ rw (le-leb low a from, lt-ltb a end before) refl in
                let e = count_yes test a n yes in
                omega arith
            | inr past ↦
                let no : test a ≡ false = is a (omega arith) (omega arith) ∙ and_right _ _ (le-ltb a end past) in
                let e = count_no test a n no in
                omega arith
          ]
    ]

-- so from 0 on, all the numbers that pass
pub count_within : (test : ℕ → Bool) (n low end : ℕ) → end ≤ n → ((j : ℕ) → j < n → test j ≡ (nat_le low j && nat_lt j end)) → count_by test (range_with_len 0 n) ≡ end - low
count_within test n low end within is =
    let e = count_between test n 0 low end (omega arith) (λ j from before. is j (omega arith)) in
    omega arith

-- tests that agree on a range count the same
pub count_same : (test other : ℕ → Bool) (n a : ℕ) → ((j : ℕ) → test j ≡ other j) → count_by test (range_with_len a n) ≡ count_by other (range_with_len a n)
count_same test other zero a same = refl
count_same test other (suc n) a same =
    sum_by-cons (λ k. cond (test k) 1 0) a (range_with_len (a + 1) n)
    ∙ ap (λ b. cond b 1 0 + count_by test (range_with_len (a + 1) n)) (same a)
    ∙ ap (λ (k : ℕ). cond (other a) 1 0 + k) (count_same test other n (a + 1) same)
    ∙ sym (sum_by-cons (λ k. cond (other k) 1 0) a (range_with_len (a + 1) n))

-- a number of the range that passes is found
pub any_here : (test : ℕ → Bool) (n a j : ℕ) → a ≤ j → j < a + n → test j ≡ true → list_any test (range_with_len a n) ≡ true
any_here test zero a j from before is = absurd (omega arith)
any_here test (suc n) a j from before is =
    elim (cases_eq a j) [
      | inl same ↦ or_left _ _ (ap test same ∙ is)
      | inr other ↦ or_right _ _ (any_here test n (a + 1) j (omega arith) (omega arith) is)
    ]

-- and if none passes, there is none
pub any_none : (test : ℕ → Bool) (n a : ℕ) → ((j : ℕ) → a ≤ j → j < a + n → test j ≡ false) → list_any test (range_with_len a n) ≡ false
any_none test zero a none = refl
any_none test (suc n) a none = or_from _ _ (none a (omega arith) (omega arith)) (any_none test n (a + 1) (λ j from before. none j (omega arith) (omega arith)))

-- tests that agree find the same
pub any_same : (test other : ℕ → Bool) (n a : ℕ) → ((j : ℕ) → test j ≡ other j) → list_any test (range_with_len a n) ≡ list_any other (range_with_len a n)
any_same test other zero a same = refl
any_same test other (suc n) a same = rw (same a, any_same test other n (a + 1) same) refl
