-- The first positions that a test keeps.
use Rattle.std.proofs.Common.{◌≡◌, ◌≢◌, ℕ, zero, suc, ◌+◌, ◌<◌, ◌≤◌, Bool, true, false, cond, List, [], ◌∷◌, ◌++◌, length, filter, slice_get, Option, Some, None, ◌⊎◌, inl, inr, refl, ap, sym, ◌∙◌, arith, add-one, append-nil, get_or}
use Rattle.std.specs.List.{range_with_len}
use Rattle.std.specs.Option.{option_map_or}
use Rattle.std.proofs.lemmas.Bool.{cases_lt}
use Rattle.std.proofs.lemmas.Option.{slice_get-get_or}
use Rattle.std.proofs.lemmas.List.Elements.{filter_agree}
use Rattle.wq_record.specs.RecordData.{RecordData, blank_record}
use Rattle.wq_view.specs.Position.{passes_at, all_positions, positions_of}

-- tests that agree on records agree at positions
pub passes_alike : (p q : RecordData → Bool) → ((r : RecordData) → p r ≡ q r) → (rs : List RecordData) (i : ℕ) → passes_at p rs i ≡ passes_at q rs i
passes_alike p q alike rs i = at (slice_get rs i)
  where
    at : (found : Option RecordData) → option_map_or p found false ≡ option_map_or q found false
    at None = refl
    at (Some r) = alike r

pub positions_alike : (p q : RecordData → Bool) → ((r : RecordData) → p r ≡ q r) → (rs : List RecordData) → positions_of p rs ≡ positions_of q rs
positions_alike p q alike rs = filter_agree (passes_at p rs) (passes_at q rs) (passes_alike p q alike rs) (all_positions rs)

-- one more position
pub more : (f : ℕ → Bool) (a n j : ℕ) → a + n ≡ j → filter f (range_with_len a (suc n)) ≡ filter f (range_with_len a n) ++ cond (f j) (j ∷ []) []
more f a zero j is = let same : a ≡ j = omega (arith, is) in ap (λ k. cond (f k) (k ∷ []) []) same
more f a (suc n) j is = at (f a) (more f (a + 1) n j (omega (arith, is)))
  where
    at : (b : Bool) → filter f (range_with_len (a + 1) (suc n)) ≡ filter f (range_with_len (a + 1) n) ++ cond (f j) (j ∷ []) [] → cond b (a ∷ filter f (range_with_len (a + 1) (suc n))) (filter f (range_with_len (a + 1) (suc n))) ≡ cond b (a ∷ filter f (range_with_len (a + 1) n)) (filter f (range_with_len (a + 1) n)) ++ cond (f j) (j ∷ []) []
    at true h = ap (λ kept. a ∷ kept) h
    at false h = h

-- if the test holds at none of the first positions, it keeps none of them
pub none_before : (f : ℕ → Bool) (n : ℕ) → ((k : ℕ) → k < n → f k ≡ false) → filter f (range_with_len 0 n) ≡ []
none_before f zero none = refl
none_before f (suc n) none =
    more f 0 n n (omega arith) ∙ ap (λ b. filter f (range_with_len 0 n) ++ cond b (n ∷ []) []) (none n (omega arith)) ∙ append-nil (filter f (range_with_len 0 n)) ∙ none_before f n (λ k low. none k (omega arith))

-- if the test holds at no later position, it keeps no more
pub none_behind : (f : ℕ → Bool) (n m : ℕ) → n ≤ m → ((k : ℕ) → n ≤ k → f k ≡ false) → filter f (range_with_len 0 m) ≡ filter f (range_with_len 0 n)
none_behind f n zero low none = let same : 0 ≡ n = omega (arith, low) in ap (λ k. filter f (range_with_len 0 k)) same
none_behind f n (suc m) low none = at (cases_lt m n) (λ fits. none_behind f n m fits none)
  where
    at : (m < n) ⊎ (n ≤ m) → (n ≤ m → filter f (range_with_len 0 m) ≡ filter f (range_with_len 0 n)) → filter f (range_with_len 0 (suc m)) ≡ filter f (range_with_len 0 n)
    at (inl less) rest = let same : suc m ≡ n = omega (arith, low, less) in ap (λ k. filter f (range_with_len 0 k)) same
    at (inr fits) rest = more f 0 m m (omega arith) ∙ ap (λ b. filter f (range_with_len 0 m) ++ cond b (m ∷ []) []) (none m fits) ∙ append-nil (filter f (range_with_len 0 m)) ∙ rest fits

-- if the test holds at no other position, it keeps at most one
pub one_alone : (f : ℕ → Bool) (n i : ℕ) → i < n → ((k : ℕ) → k ≢ i → f k ≡ false) → filter f (range_with_len 0 n) ≡ cond (f i) (i ∷ []) []
one_alone f n i low none =
    none_behind f (suc i) n (omega arith) (λ k behind. none k (λ same. omega (arith, same, behind))) ∙ more f 0 i i (omega arith) ∙ ap (λ kept. kept ++ cond (f i) (i ∷ []) []) (none_before f i (λ k before. none k (λ same. omega (arith, same, before))))

-- one more record was tried
pub goes_on : (test : RecordData → Bool) (rs : List RecordData) (i : ℕ) (r : RecordData) (is_kept : Bool) (found more_found : List ℕ) → found ≡ filter (passes_at test rs) (range_with_len 0 i) → slice_get rs i ≡ Some r → is_kept ≡ test r → more_found ≡ found ++ cond is_kept (i ∷ []) [] → more_found ≡ filter (passes_at test rs) (range_with_len 0 (i + 1))
goes_on test rs i r is_kept found more_found so_far here kept is =
    let at_i : passes_at test rs i ≡ test r = ap (λ o. option_map_or test o false) here in
    is ∙ ap (λ xs. xs ++ cond is_kept (i ∷ []) []) so_far ∙ ap (λ b. filter (passes_at test rs) (range_with_len 0 i) ++ cond b (i ∷ []) []) (kept ∙ sym at_i) ∙ sym (more (passes_at test rs) 0 i i (omega arith)) ∙ ap (λ n. filter (passes_at test rs) (range_with_len 0 n)) (sym (add-one i))

-- the positions from 0 on, with one more
pub range_more : (n : ℕ) (found more_found : List ℕ) → found ≡ range_with_len 0 n → more_found ≡ found ++ n ∷ [] → more_found ≡ range_with_len 0 (n + 1)
range_more n found more_found so_far is = is ∙ ap (λ xs. xs ++ n ∷ []) so_far ∙ sym (at 0 n n (omega arith)) ∙ ap (range_with_len 0) (sym (add-one n))
  where
    at : (a n j : ℕ) → a + n ≡ j → range_with_len a (suc n) ≡ range_with_len a n ++ j ∷ []
    at a zero j same = let one : a ≡ j = omega (arith, same) in ap (λ k. k ∷ []) one
    at a (suc n) j same = ap (λ rest. a ∷ rest) (at (a + 1) n j (omega (arith, same)))

-- a test that no record passes has no positions
pub none_passes : (test : RecordData → Bool) (rs : List RecordData) → ((i : ℕ) → passes_at test rs i ≡ false) → [] ≡ positions_of test rs
none_passes test rs none = sym (none_before (passes_at test rs) (length rs) (λ k low. none k))

-- a test that every record passes has all positions
pub all_pass : (test : RecordData → Bool) (rs : List RecordData) → ((r : RecordData) → test r ≡ true) → positions_of test rs ≡ all_positions rs
all_pass test rs passes = at 0 (length rs) (λ i low. passes_there i (omega (arith, low)))
  where
    passes_there : (i : ℕ) → i < length rs → passes_at test rs i ≡ true
    passes_there i low = ap (λ o. option_map_or test o false) (slice_get-get_or rs i (blank_record []) low) ∙ passes (get_or rs i (blank_record []))

    at : (a n : ℕ) → ((i : ℕ) → i < a + n → passes_at test rs i ≡ true) → filter (passes_at test rs) (range_with_len a n) ≡ range_with_len a n
    at a zero every = refl
    at a (suc n) every = rw (every a (omega arith)) (ap (λ rest. a ∷ rest) (at (a + 1) n (λ i low. every i (omega (arith, low)))))

-- no record passes a test that fails for each
pub none_given : (test : RecordData → Bool) (rs : List RecordData) → ((r : RecordData) → test r ≡ false) → [] ≡ positions_of test rs
none_given test rs fails = none_passes test rs (λ i. at (slice_get rs i))
  where
    at : (found : Option RecordData) → option_map_or test found false ≡ false
    at None = refl
    at (Some r) = fails r
