-- The files under a path in a range of positions.
use Rattle.std.proofs.Common.{◌≡◌, ℕ, zero, suc, ◌+◌, ◌-◌, ◌<◌, ◌≤◌, Bool, true, false, cond, ◌&&◌, nat_le, nat_lt, List, [], ◌∷◌, ◌++◌, slice_get, Option, Some, None, filter, refl, sym, ap, ◌∙◌, append_assoc, append-nil, arith}
use mathlib.Core.Bool.{false≢true}
use Rattle.std.specs.List.{range_with_len}
use Rattle.std.specs.Option.{option_map_or}
use Rattle.std.proofs.lemmas.Bool.{and_from, le-leb, lt-ltb, leb-true, ltb-true}
use Rattle.wq_view.specs.Below.{is_below}
use Rattle.wq_view.specs.Position.{passes_at}
use Rattle.wq_record.specs.RecordData.{RecordData}
use Rattle.wq_term.specs.declared.generators.PathGen.{PathGen}
use Rattle.wq_gen.specs.Candidate.{is_under}
use Rattle.wq_gen.specs.Depth.{under_between}
use Rattle.wq_gen.proofs.Positions.{more}

-- two ranges, one after the other
pub joined : (f : ℕ → Bool) (a n k b : ℕ) → a + n ≡ b → filter f (range_with_len a n) ++ filter f (range_with_len b k) ≡ filter f (range_with_len a (n + k))
joined f a n zero b is =
    let same : n ≡ n + 0 = omega arith in
    append-nil (filter f (range_with_len a n)) ∙ ap (λ m. filter f (range_with_len a m)) same
joined f a n (suc k) b is =
    let last : a + (n + k) ≡ b + k = omega (arith, is) in
    let next : suc (n + k) ≡ n + suc k = omega arith in
    ap (λ l. filter f (range_with_len a n) ++ l) (more f b k (b + k) refl)
    ∙ sym (append_assoc (filter f (range_with_len a n)) (filter f (range_with_len b k)) (cond (f (b + k)) ((b + k) ∷ []) []))
    ∙ ap (λ l. l ++ cond (f (b + k)) ((b + k) ∷ []) []) (joined f a n k b is)
    ∙ sym (more f a (n + k) (b + k) last)
    ∙ ap (λ m. filter f (range_with_len a m)) next

module _ (path : PathGen) (rs : List RecordData) where
  abbrev f : ℕ → Bool
  f = passes_at (is_under path) rs

  -- the positions so far, and those up to a later one
  pub so_far : (at next : ℕ) (found now : List ℕ) → at ≤ next → found ≡ filter f (range_with_len 0 at) → now ≡ found ++ under_between path rs at next → now ≡ filter f (range_with_len 0 next)
  so_far at next found now h is now_is =
      let count : at + (next - at) ≡ next = omega (arith, h) in
      now_is ∙ ap (λ l. l ++ under_between path rs at next) is ∙ joined f 0 at (next - at) at (omega arith) ∙ ap (λ n. filter f (range_with_len 0 n)) count

  -- one position more was tried
  pub one_on : (from at : ℕ) (r : RecordData) (kept : Bool) (old found now : List ℕ) → from ≤ at → slice_get rs at ≡ Some r → kept ≡ is_under path r → found ≡ old ++ under_between path rs from at → now ≡ found ++ cond kept (at ∷ []) [] → now ≡ old ++ under_between path rs from (at + 1)
  one_on from at r kept old found now h here kept_is found_is now_is =
      let count : suc (at - from) ≡ (at + 1) - from = omega (arith, h) in
      let place : from + (at - from) ≡ at = omega (arith, h) in
      let passes : f at ≡ kept = ap (λ o. option_map_or (is_under path) o false) here ∙ sym kept_is in
      now_is
      ∙ ap (λ l. l ++ cond kept (at ∷ []) []) found_is
      ∙ append_assoc old (under_between path rs from at) (cond kept (at ∷ []) [])
      ∙ ap (λ b. old ++ (under_between path rs from at ++ cond b (at ∷ []) [])) (sym passes)
      ∙ ap (λ l. old ++ l) (sym (more f from (at - from) at place))
      ∙ ap (λ n. old ++ filter f (range_with_len from n)) count

  nothing : (from k : ℕ) → ((i : ℕ) → from ≤ i → i < from + k → f i ≡ false) → filter f (range_with_len from k) ≡ []
  nothing from zero none = refl
  nothing from (suc k) none =
      more f from k (from + k) refl ∙ ap (λ b. filter f (range_with_len from k) ++ cond b ((from + k) ∷ []) []) (none (from + k) (omega arith) (omega arith)) ∙ append-nil (filter f (range_with_len from k)) ∙ nothing from k (λ i low high. none i low (omega (arith, high)))

  -- no file below a directory that is too deep is under the path
  pub passed_over : (dir : List ℕ) (start end at far next : ℕ) (old : List ℕ) → ((r : RecordData) → is_below dir r ≡ true → is_under path r ≡ false) → ((i : ℕ) → passes_at (is_below dir) rs i ≡ (nat_le start i && nat_lt i end)) → passes_at (is_below dir) rs at ≡ true → at ≤ next → next ≤ end → old ≡ old ++ under_between path rs at next
  passed_over dir start end at far next old deep exact here low high = sym (ap (λ l. old ++ l) (nothing at (next - at) (λ i from to. none i (sees i from to))) ∙ append-nil old)
    where
      both : (a b : Bool) → (a && b) ≡ true → (a ≡ true) × (b ≡ true)
      both true b e = (refl, e)
      both false b e = absurd (false≢true e)

      first : start ≤ at
      first = leb-true start at (both (nat_le start at) (nat_lt at end) (sym (exact at) ∙ here)).0

      sees : (i : ℕ) → at ≤ i → i < at + (next - at) → passes_at (is_below dir) rs i ≡ true
      sees i from to = exact i ∙ and_from (nat_le start i) (nat_lt i end) (le-leb start i (omega (arith, first, from))) (lt-ltb i end (omega (arith, to, low, high)))

      none : (i : ℕ) → passes_at (is_below dir) rs i ≡ true → f i ≡ false
      none i e = by (slice_get rs i) e
        where
          by : (o : Option RecordData) → option_map_or (is_below dir) o false ≡ true → option_map_or (is_under path) o false ≡ false
          by None e = refl
          by (Some r) e = deep r e

-- where a record below a directory is, its range ends later
pub ends_after : (dir : List ℕ) (rs : List RecordData) (start end i : ℕ) → ((j : ℕ) → passes_at (is_below dir) rs j ≡ (nat_le start j && nat_lt j end)) → passes_at (is_below dir) rs i ≡ true → i < end
ends_after dir rs start end i exact here = ltb-true i end (both (nat_le start i) (nat_lt i end) (sym (exact i) ∙ here))
  where
    both : (a b : Bool) → (a && b) ≡ true → b ≡ true
    both true b e = e
    both false b e = absurd (false≢true e)

-- a record at a position is below a directory
pub below_there : (dir : List ℕ) (rs : List RecordData) (i : ℕ) (r : RecordData) → slice_get rs i ≡ Some r → is_below dir r ≡ true → passes_at (is_below dir) rs i ≡ true
below_there dir rs i r here e = ap (λ o. option_map_or (is_below dir) o false) here ∙ e
