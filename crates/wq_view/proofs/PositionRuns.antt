-- The positions of records that pass a test, run by run.
use Rattle.std.proofs.Common.{◌≡◌, ℕ, zero, suc, ◌+◌, ◌<◌, ◌≤◌, Bool, true, false, cond, List, [], ◌∷◌, ◌++◌, length, map, filter, slice_get, refl, sym, ap, ◌∙◌, arith, length-append}
use Rattle.std.specs.List.{range_with_len}
use Rattle.std.specs.Option.{option_map_or}
use Rattle.std.proofs.lemmas.List.Elements.{filter-append}
use Rattle.wq_record.specs.RecordData.{RecordData}
use Rattle.wq_view.specs.Position.{passes_at, positions_from, positions_of}
use Rattle.wq_view.proofs.MoveSteps.{range_both}

got_first : (xs ys : List RecordData) (i : ℕ) → i < length xs → slice_get (xs ++ ys) i ≡ slice_get xs i
got_first [] ys i low = absurd (omega (arith, low))
got_first (x ∷ xs) ys zero low = refl
got_first (x ∷ xs) ys (suc i) low = got_first xs ys i (omega (arith, low))

got_second : (xs ys : List RecordData) (i : ℕ) → slice_get (xs ++ ys) (length xs + i) ≡ slice_get ys i
got_second [] ys i =
    let same : 0 + i ≡ i = omega arith in
    ap (slice_get ys) same
got_second (x ∷ xs) ys i =
    let next : suc (length xs) + i ≡ suc (length xs + i) = omega arith in
    ap (slice_get (x ∷ xs ++ ys)) next ∙ got_second xs ys i

-- the positions of two runs, one after the other
module _ (test : RecordData → Bool) (xs ys : List RecordData) where
  abbrev later : ℕ → ℕ
  later k = length xs + k

  in_first : (a n : ℕ) → a + n ≤ length xs → filter (passes_at test (xs ++ ys)) (range_with_len a n) ≡ filter (passes_at test xs) (range_with_len a n)
  in_first a zero fits = refl
  in_first a (suc n) fits =
      ap (λ o. cond (option_map_or test o false) (a ∷ filter (passes_at test (xs ++ ys)) (range_with_len (a + 1) n)) (filter (passes_at test (xs ++ ys)) (range_with_len (a + 1) n))) (got_first xs ys a (omega (arith, fits)))
      ∙ ap (λ l. cond (passes_at test xs a) (a ∷ l) l) (in_first (a + 1) n (omega (arith, fits)))

  in_second : (a n : ℕ) → filter (passes_at test (xs ++ ys)) (range_with_len (later a) n) ≡ map later (filter (passes_at test ys) (range_with_len a n))
  in_second a zero = refl
  in_second a (suc n) =
      let next : length xs + a + 1 ≡ length xs + (a + 1) = omega arith in
      ap (λ o. cond (option_map_or test o false) (later a ∷ filter (passes_at test (xs ++ ys)) (range_with_len (later a + 1) n)) (filter (passes_at test (xs ++ ys)) (range_with_len (later a + 1) n))) (got_second xs ys a)
      ∙ ap (λ l. cond (passes_at test ys a) (later a ∷ l) l) (ap (λ k. filter (passes_at test (xs ++ ys)) (range_with_len k n)) next ∙ in_second (a + 1) n)
      ∙ by (passes_at test ys a)
    where
      by : (b : Bool) → cond b (later a ∷ map later (filter (passes_at test ys) (range_with_len (a + 1) n))) (map later (filter (passes_at test ys) (range_with_len (a + 1) n))) ≡ map later (cond b (a ∷ filter (passes_at test ys) (range_with_len (a + 1) n)) (filter (passes_at test ys) (range_with_len (a + 1) n)))
      by true = refl
      by false = refl

  pub positions_in_two : positions_of test (xs ++ ys) ≡ positions_of test xs ++ positions_from (length xs) test ys
  positions_in_two =
      let start : length xs + 0 ≡ length xs = omega arith in
      ap (λ n. filter (passes_at test (xs ++ ys)) (range_with_len 0 n)) (length-append xs ys)
      ∙ ap (filter (passes_at test (xs ++ ys))) (sym (range_both 0 (length xs) (length ys) (length xs) (omega arith)))
      ∙ filter-append (passes_at test (xs ++ ys)) (range_with_len 0 (length xs)) (range_with_len (length xs) (length ys))
      ∙ ap (λ l. l ++ filter (passes_at test (xs ++ ys)) (range_with_len (length xs) (length ys))) (in_first 0 (length xs) (omega arith))
      ∙ ap (λ l. positions_of test xs ++ l) (ap (λ k. filter (passes_at test (xs ++ ys)) (range_with_len k (length ys))) (sym start) ∙ in_second 0 (length ys))
