-- The positions of records that pass a test, record by record.
use Rattle.std.proofs.Common.{◌≡◌, ◌≢◌, ℕ, zero, suc, ◌+◌, ◌-◌, ◌<◌, Bool, true, false, cond, ◌||◌, List, [], ◌∷◌, ◌++◌, length, map, drop, get_or, slice_get, sym, refl, ap, ◌∙◌, arith}
use Rattle.std.proofs.lemmas.List.{drop_more}
use Rattle.wq_record.specs.RecordData.{RecordData}
use Rattle.wq_view.specs.Position.{places_from, positions_from, positions_of}
use Rattle.wq_view.specs.Suffix.{has_suffix, has_suffix_of}
use Rattle.wq_view.proofs.PositionRuns.{positions_in_two}

module _ (test : RecordData → Bool) where
  -- the positions of two runs, one after the other
  pub places_both : (at : ℕ) (xs ys : List RecordData) → places_from test at (xs ++ ys) ≡ places_from test at xs ++ places_from test (at + length xs) ys
  places_both at [] ys =
      let same : at ≡ at + 0 = omega arith in
      ap (λ n. places_from test n ys) same
  places_both at (x ∷ xs) ys =
      let next : at + 1 + length xs ≡ at + length (x ∷ xs) = omega arith in
      by (test x) (places_both (at + 1) xs ys ∙ ap (λ n. places_from test (at + 1) xs ++ places_from test n ys) next)
    where
      by : (b : Bool) → places_from test (at + 1) (xs ++ ys) ≡ places_from test (at + 1) xs ++ places_from test (at + length (x ∷ xs)) ys → cond b (at ∷ places_from test (at + 1) (xs ++ ys)) (places_from test (at + 1) (xs ++ ys)) ≡ cond b (at ∷ places_from test (at + 1) xs) (places_from test (at + 1) xs) ++ places_from test (at + length (x ∷ xs)) ys
      by true h = ap (λ l. at ∷ l) h
      by false h = h

  twice : (at : ℕ) (ps : List ℕ) → map (λ i. at + i) (map (λ i. 1 + i) ps) ≡ map (λ i. at + 1 + i) ps
  twice at [] = refl
  twice at (p ∷ ps) =
      let first : at + (1 + p) ≡ at + 1 + p = omega arith in
      ap (λ i. i ∷ map (λ i. at + i) (map (λ i. 1 + i) ps)) first ∙ ap (λ l. (at + 1 + p) ∷ l) (twice at ps)

  -- they are the positions as they are defined
  pub places_are_positions : (at : ℕ) (rs : List RecordData) → places_from test at rs ≡ positions_from at test rs
  places_are_positions at [] = refl
  places_are_positions at (r ∷ rs) =
      by (test r) (places_are_positions (at + 1) rs ∙ sym (twice at (positions_of test rs))) ∙ ap (map (λ i. at + i)) (sym (positions_in_two test (r ∷ []) rs))
    where
      by : (b : Bool) → places_from test (at + 1) rs ≡ map (λ i. at + i) (positions_from 1 test rs) → cond b (at ∷ places_from test (at + 1) rs) (places_from test (at + 1) rs) ≡ map (λ i. at + i) (cond b (0 ∷ []) [] ++ positions_from 1 test rs)
      by true h =
          let first : at ≡ at + 0 = omega arith in
          ap (λ i. i ∷ places_from test (at + 1) rs) first ∙ ap (λ l. (at + 0) ∷ l) h
      by false h = h

  same_twice : (ps : List ℕ) → map (λ i. 0 + i) ps ≡ ps
  same_twice [] = refl
  same_twice (p ∷ ps) =
      let first : 0 + p ≡ p = omega arith in
      ap (λ i. i ∷ map (λ i. 0 + i) ps) first ∙ ap (λ l. p ∷ l) (same_twice ps)

  pub all_places : (rs : List RecordData) → places_from test 0 rs ≡ positions_of test rs
  all_places rs = places_are_positions 0 rs ∙ same_twice (positions_of test rs)

  -- the positions that are left after so many records
  abbrev pub places_after : ℕ → List RecordData → ℕ → List ℕ
  places_after at rs i = places_from test (at + i) (drop i rs)

  here : (rs : List RecordData) (i at : ℕ) (r : RecordData) (b : Bool) → i < length rs → r ≡ get_or rs i r → test r ≡ b → places_from test (at + i) (drop i rs) ≡ cond b ((at + i) ∷ places_from test (at + i + 1) (drop (i + 1) rs)) (places_from test (at + i + 1) (drop (i + 1) rs))
  here rs i at r b low is e =
      ap (places_from test (at + i)) (drop_more rs i r low ∙ ap (λ x. x ∷ drop (i + 1) rs) (sym is)) ∙ ap (λ t. cond t ((at + i) ∷ places_from test (at + i + 1) (drop (i + 1) rs)) (places_from test (at + i + 1) (drop (i + 1) rs))) e

  pub found_after : (at : ℕ) (rs : List RecordData) (i : ℕ) (r : RecordData) → i < length rs → r ≡ get_or rs i r → test r ≡ true → places_after at rs i ≡ (at + i) ∷ places_after at rs (i + 1)
  found_after at rs i r low is passes =
      let next : at + i + 1 ≡ at + (i + 1) = omega arith in
      here rs i at r true low is passes ∙ ap (λ n. (at + i) ∷ places_from test n (drop (i + 1) rs)) next

  pub same_after : (at : ℕ) (rs : List RecordData) (i : ℕ) (r : RecordData) → i < length rs → r ≡ get_or rs i r → test r ≡ false → places_after at rs i ≡ places_after at rs (i + 1)
  same_after at rs i r low is fails =
      let next : at + i + 1 ≡ at + (i + 1) = omega arith in
      here rs i at r false low is fails ∙ ap (λ n. places_from test n (drop (i + 1) rs)) next

-- tests that agree pass at the same positions
places_alike : (f g : RecordData → Bool) → ((r : RecordData) → f r ≡ g r) → (at : ℕ) (rs : List RecordData) → places_from f at rs ≡ places_from g at rs
places_alike f g same at [] = refl
places_alike f g same at (r ∷ rs) =
    ap (λ b. cond b (at ∷ places_from f (at + 1) rs) (places_from f (at + 1) rs)) (same r) ∙ ap (λ l. cond (g r) (at ∷ l) l) (places_alike f g same (at + 1) rs)

one_text : (text : List ℕ) (r : RecordData) → has_suffix_of (text ∷ []) r ≡ has_suffix text r
one_text text r = by (has_suffix text r)
  where
    by : (b : Bool) → (b || false) ≡ b
    by true = refl
    by false = refl

-- one text alone
pub positions_of_one : (text : List ℕ) (rs : List RecordData) → positions_of (has_suffix_of (text ∷ [])) rs ≡ positions_of (has_suffix text) rs
positions_of_one text rs =
    sym (all_places (has_suffix_of (text ∷ [])) rs) ∙ places_alike (has_suffix_of (text ∷ [])) (has_suffix text) (one_text text) 0 rs ∙ all_places (has_suffix text) rs

-- the first one is passed
pub nth_later : (x : ℕ) (xs : List ℕ) (k left : ℕ) → k ≢ 0 → left ≡ k - 1 → slice_get (x ∷ xs) k ≡ slice_get xs left
nth_later x xs zero left some is = absurd (some refl)
nth_later x xs (suc k) left some is =
    let same : k ≡ left = omega (arith, is) in
    ap (slice_get xs) same
