-- The names strictly below a directory are neighbours in the byte order of names.
use Rattle.std.proofs.Common.{◌≡◌, ℕ, ◌<◌, ◌≤◌, true, false, cond, ◌&&◌, nat_lt, nat_le, nat_eq, ◌==◌, is_some, List, [], ◌∷◌, length, take, drop, get_or, bytes_eq, Some, None, ◌⊎◌, inl, inr, refl, ap, sym, subst, ◌∙◌, arith}
use Rattle.std.specs.List.Sorted.{IsPartitionedBy, IsPartitionPoint}
use Rattle.std.specs.Str.{byte}
use Rattle.std.specs.Ordering.{MatchOrdering, nat_cmp, ordering_then, ordering_index, is_lt, is_le, is_eq}
use Rattle.std.proofs.lemmas.Cmp.{ranked}
use Rattle.std.proofs.lemmas.Option.{slice_get-get_or, slice_get_past}
use Rattle.std.proofs.lemmas.Bool.{ne_eqb, eq-eqb, cases_order, lt-leb, le-leb, lt-ltb, le-ltb, cases_lt, both_ways, and_right}
use mathlib.Core.Bool.{false≢true, true≢false}
use Rattle.std.specs.declared.cmp.Ordering.{Ordering}
use Rattle.std.specs.declared.cmp.Ordering.TheVariants.{Less, Equal, Greater}
use Rattle.std.specs.FinMap.{is_sorted}
use Rattle.wq_base.specs.Byte.{is_slash}
use Rattle.wq_base.specs.Directory.{after_slash, rest_below}
use Rattle.wq_base.specs.declared.compare.Case.TheVariants.{Exact}
use Rattle.wq_record.specs.Name.{name_cmp}
use Rattle.wq_record.specs.RecordData.{RecordData, by_name}
use Rattle.wq_view.specs.Below.{is_below, order_below}
use Rattle.wq_view.specs.Position.{passes_at}
use Rattle.wq_view.proofs.Lookups.{nobody, rise_at}

-- a name that ends within the directory comes before the names below it
pub ended : (dir left : List ℕ) → length left ≡ 0 → order_below dir left ≡ Less
ended [] [] h = refl
ended (d ∷ dir) [] h = refl
ended dir (b ∷ left) h = absurd (omega (arith, h))

-- the order of two numbers
data Compared (x y : ℕ) : Type 0 where
  lower : x < y → nat_cmp x y ≡ Less → Compared x y
  same : x ≡ y → nat_cmp x y ≡ Equal → Compared x y
  higher : y < x → nat_cmp x y ≡ Greater → Compared x y

compared : (x y : ℕ) → Compared x y
compared x y = at (nat_cmp x y) refl (ranked x y (nat_cmp x y) refl)
  where
    at : (o : Ordering) → nat_cmp x y ≡ o → MatchOrdering o (x < y) (x ≡ y) (y < x) → Compared x y
    at Less e h = lower h e
    at Equal e h = same h e
    at Greater e h = higher h e

most : (o : Ordering) → ordering_index o ≤ 2
most Less = omega arith
most Equal = omega arith
most Greater = omega arith

then_equal : (o : Ordering) → ordering_then o Equal ≡ o
then_equal Less = refl
then_equal Equal = refl
then_equal Greater = refl

-- a lower number, or the same number before a later rest, does not come later
then_rises : (x y d : ℕ) (p q : Ordering) → (x < y) ⊎ ((x ≡ y) × (ordering_index p ≤ ordering_index q)) → ordering_index (ordering_then (nat_cmp x d) p) ≤ ordering_index (ordering_then (nat_cmp y d) q)
then_rises x y d p q (inl less) = at (compared x d) (compared y d)
  where
    at : Compared x d → Compared y d → ordering_index (ordering_then (nat_cmp x d) p) ≤ ordering_index (ordering_then (nat_cmp y d) q)
    at (lower _ e) _ = rw e (omega arith)
    at (same _ e) (higher _ f) = rw f (most (ordering_then (nat_cmp x d) p))
    at (higher _ e) (higher _ f) = rw f (most (ordering_then (nat_cmp x d) p))
    at (same h e) (lower k f) = absurd (omega (arith, less, h, k))
    at (same h e) (same k f) = absurd (omega (arith, less, h, k))
    at (higher h e) (lower k f) = absurd (omega (arith, less, h, k))
    at (higher h e) (same k f) = absurd (omega (arith, less, h, k))
then_rises x y d p q (inr (is, rises)) = subst (λ n. ordering_index (ordering_then (nat_cmp x d) p) ≤ ordering_index (ordering_then (nat_cmp n d) q)) is (at (compared x d))
  where
    at : Compared x d → ordering_index (ordering_then (nat_cmp x d) p) ≤ ordering_index (ordering_then (nat_cmp x d) q)
    at (lower _ e) = rw e (omega arith)
    at (same _ e) = rw e rises
    at (higher _ e) = rw e (omega arith)

-- for two names in order: the first bytes rise, or they are equal and the rests are in order
heads : (x y : ℕ) (xs ys : List ℕ) → name_cmp (x ∷ xs) (y ∷ ys) ≡ Less → (x < y) ⊎ ((x ≡ y) × (name_cmp xs ys ≡ Less))
heads x y xs ys less = at (compared x y)
  where
    at : Compared x y → (x < y) ⊎ ((x ≡ y) × (name_cmp xs ys ≡ Less))
    at (lower h e) = inl h
    at (same h e) = inr (h, rw e at less)
    at (higher h e) = absurd (false≢true (ap is_lt (rw e at less)))

-- for two names in order: the later one does not come before the earlier one
rises : (dir a b : List ℕ) → name_cmp a b ≡ Less → ordering_index (order_below dir a) ≤ ordering_index (order_below dir b)
rises [] [] b less = omega arith
rises [] (x ∷ xs) [] less = absurd (false≢true (ap is_lt less))
rises [] (x ∷ xs) (y ∷ ys) less = at (heads x y xs ys less)
  where
    at : (x < y) ⊎ ((x ≡ y) × (name_cmp xs ys ≡ Less)) → ordering_index (nat_cmp x (byte "/")) ≤ ordering_index (nat_cmp y (byte "/"))
    at (inl h) = simp then_equal at (then_rises x y (byte "/") Equal Equal (inl h))
    at (inr (h, later)) = simp then_equal at (then_rises x y (byte "/") Equal Equal (inr (h, omega arith)))
rises (d ∷ dir) [] b less = omega arith
rises (d ∷ dir) (x ∷ xs) [] less = absurd (false≢true (ap is_lt less))
rises (d ∷ dir) (x ∷ xs) (y ∷ ys) less = at (heads x y xs ys less) (λ later. rises dir xs ys later)
  where
    at : (x < y) ⊎ ((x ≡ y) × (name_cmp xs ys ≡ Less)) → (name_cmp xs ys ≡ Less → ordering_index (order_below dir xs) ≤ ordering_index (order_below dir ys)) → ordering_index (order_below (d ∷ dir) (x ∷ xs)) ≤ ordering_index (order_below (d ∷ dir) (y ∷ ys))
    at (inl h) _ = then_rises x y d (order_below dir xs) (order_below dir ys) (inl h)
    at (inr (h, later)) rest = then_rises x y d (order_below dir xs) (order_below dir ys) (inr (h, rest later))

-- a name is below a directory if it has something after the directory and a slash
begins : (dir name : List ℕ) → is_some (cond (bytes_eq (take (length dir) name) dir) (after_slash (drop (length dir) name)) None) ≡ is_eq (order_below dir name)
begins [] [] = refl
begins [] (b ∷ rest) = at (compared b (byte "/"))
  where
    at : Compared b (byte "/") → is_some (cond (is_slash b) (Some rest) None) ≡ is_eq (nat_cmp b (byte "/"))
    at (lower h e) = rw (e, ne_eqb b (byte "/") (λ s. omega (arith, h, s))) refl
    at (same h e) = rw (e, eq-eqb b (byte "/") h) refl
    at (higher h e) = rw (e, ne_eqb b (byte "/") (λ s. omega (arith, h, s))) refl
begins (d ∷ dir) [] = refl
begins (d ∷ dir) (b ∷ name) = at (compared b d) (begins dir name)
  where
    at : Compared b d → is_some (cond (bytes_eq (take (length dir) name) dir) (after_slash (drop (length dir) name)) None) ≡ is_eq (order_below dir name) → is_some (cond (nat_eq b d && bytes_eq (take (length dir) name) dir) (after_slash (drop (length dir) name)) None) ≡ is_eq (ordering_then (nat_cmp b d) (order_below dir name))
    at (lower h e) rest = rw (e, ne_eqb b d (λ s. omega (arith, h, s))) refl
    at (same h e) rest = rw (e, eq-eqb b d h) rest
    at (higher h e) rest = rw (e, ne_eqb b d (λ s. omega (arith, h, s))) refl

pub among : (dir name : List ℕ) → (length dir == 0) ≡ false → is_some (rest_below Exact dir name) ≡ is_eq (order_below dir name)
among dir name filled = rw filled (begins dir name)

rises_at : (dir : List ℕ) (rs : List RecordData) (i j : ℕ) (d : RecordData) → is_sorted name_cmp (by_name rs) ≡ true → i ≤ j → j < length rs → ordering_index (order_below dir (get_or rs i d).name) ≤ ordering_index (order_below dir (get_or rs j d).name)
rises_at dir rs i j d e low h = at (cases_order i j)
  where
    at : (i ≡ j) ⊎ ((i < j) ⊎ (j < i)) → ordering_index (order_below dir (get_or rs i d).name) ≤ ordering_index (order_below dir (get_or rs j d).name)
    at (inl alike) = rw alike (omega arith)
    at (inr (inl less)) = rises dir (get_or rs i d).name (get_or rs j d).name (rise_at rs i j d e less h)
    at (inr (inr more)) = absurd (omega arith)

lt_stays : (o p : Ordering) → ordering_index o ≤ ordering_index p → is_lt p ≡ true → is_lt o ≡ true
lt_stays Less p h t = refl
lt_stays Equal Less h t = absurd (omega (arith, h))
lt_stays Equal Equal h t = absurd (false≢true t)
lt_stays Equal Greater h t = absurd (false≢true t)
lt_stays Greater Less h t = absurd (omega (arith, h))
lt_stays Greater Equal h t = absurd (false≢true t)
lt_stays Greater Greater h t = absurd (false≢true t)

le_stays : (o p : Ordering) → ordering_index o ≤ ordering_index p → is_le p ≡ true → is_le o ≡ true
le_stays Less p h t = refl
le_stays Equal p h t = refl
le_stays Greater Less h t = absurd (omega (arith, h))
le_stays Greater Equal h t = absurd (omega (arith, h))
le_stays Greater Greater h t = absurd (false≢true t)

-- the records before those below a directory come first
pub before_parts : (dir : List ℕ) (rs : List RecordData) → is_sorted name_cmp (by_name rs) ≡ true → IsPartitionedBy (λ r. is_lt (order_below dir r.name)) rs
before_parts dir rs e i j d low h = lt_stays _ _ (rises_at dir rs i j d e low h)

-- the records after those below a directory come last
pub not_behind_parts : (dir : List ℕ) (rs : List RecordData) → is_sorted name_cmp (by_name rs) ≡ true → IsPartitionedBy (λ r. is_le (order_below dir r.name)) rs
not_behind_parts dir rs e i j d low h = le_stays _ _ (rises_at dir rs i j d e low h)

lt_not_eq : (o : Ordering) → is_lt o ≡ true → is_eq o ≡ false
lt_not_eq Less t = refl
lt_not_eq Equal t = absurd (false≢true t)
lt_not_eq Greater t = refl

lt_and_le : (o : Ordering) → is_lt o ≡ true → is_le o ≡ true
lt_and_le Less t = refl
lt_and_le Equal t = absurd (false≢true t)
lt_and_le Greater t = absurd (false≢true t)

only_eq : (o : Ordering) → is_lt o ≡ false → is_le o ≡ true → is_eq o ≡ true
only_eq Less t u = absurd (true≢false t)
only_eq Equal t u = refl
only_eq Greater t u = absurd (false≢true u)

behind_not_eq : (o : Ordering) → is_le o ≡ false → is_eq o ≡ false
behind_not_eq Less t = absurd (true≢false t)
behind_not_eq Equal t = absurd (true≢false t)
behind_not_eq Greater t = refl

-- the end of the records before a directory, and the beginning of the records after it
module _ (dir : List ℕ) (rs : List RecordData) (start end : ℕ) (from : IsPartitionPoint (λ r. is_lt (order_below dir r.name) ≡ true) (λ r. is_lt (order_below dir r.name) ≡ false) rs start) (to : IsPartitionPoint (λ r. is_le (order_below dir r.name) ≡ true) (λ r. is_le (order_below dir r.name) ≡ false) rs end) (low : start ≤ length rs) (high : end ≤ length rs) where
  -- the end of the range is not before its beginning
  pub range_rises : start ≤ end
  range_rises = at (cases_lt end start)
    where
      at : (end < start) ⊎ (start ≤ end) → start ≤ end
      at (inl less) = absurd (both_ways _ (to.1 end nobody (omega arith) (omega arith)) (lt_and_le _ (from.0 end nobody (omega arith) less)))
      at (inr fine) = fine

  inside : (i : ℕ) → i < length rs → is_eq (order_below dir (get_or rs i nobody).name) ≡ (nat_le start i && nat_lt i end)
  inside i h = at (cases_lt i start) (cases_lt i end)
    where
      at : (i < start) ⊎ (start ≤ i) → (i < end) ⊎ (end ≤ i) → is_eq (order_below dir (get_or rs i nobody).name) ≡ (nat_le start i && nat_lt i end)
      at (inl before) _ = rw (lt-leb start i before) (lt_not_eq _ (from.0 i nobody (omega arith) before))
      at (inr since) (inl before) = rw (le-leb start i since, lt-ltb i end before) (only_eq _ (from.1 i nobody since h) (to.0 i nobody (omega arith) before))
      at (inr since) (inr behind) = rw (le-leb start i since, le-ltb i end behind) (behind_not_eq _ (to.1 i nobody behind h))

  -- the range holds the positions of the records below the directory
  pub range_holds : (length dir == 0) ≡ false → (i : ℕ) → passes_at (is_below dir) rs i ≡ (nat_le start i && nat_lt i end)
  range_holds filled i = at (cases_lt i (length rs))
    where
      at : (i < length rs) ⊎ (length rs ≤ i) → passes_at (is_below dir) rs i ≡ (nat_le start i && nat_lt i end)
      at (inl h) = rw (slice_get-get_or rs i nobody h) (among dir (get_or rs i nobody).name filled ∙ inside i h)
      at (inr h) = rw (slice_get_past rs i h, le-ltb i end (omega arith)) (sym (and_right (nat_le start i) false refl))
