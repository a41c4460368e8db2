-- The order of paths in which those below a path come directly after it.
use Rattle.std.proofs.Common.{◌≡◌, ◌≤◌, ◌<◌, ◌+◌, ◌⊎◌, inl, inr, ℕ, ℤ, pos, negsuc, Bool, true, false, not, cond, ◌&&◌, ◌||◌, ◌==◌, nat_le, nat_lt, is_some, List, [], ◌∷◌, map, Some, None, refl, sym, ap, subst, ◌∙◌, arith}
use mathlib.Core.Bool.{false≢true, true≢false}
use Rattle.std.specs.Prelude.{int_le, int_lt, if◌then◌else◌}
use Rattle.std.specs.Cmp.{IsTotalOrder, bool_cmp_total, ranks}
use Rattle.std.specs.declared.cmp.Ordering.{Ordering}
use Rattle.std.specs.declared.cmp.Ordering.TheVariants.{Less, Equal, Greater}
use Rattle.std.specs.Ordering.{MatchOrdering, bool_cmp, int_cmp, is_eq, is_gt, is_lt, nat_cmp, ordering_reverse, ordering_then}
use Rattle.std.proofs.lemmas.Bool.{cases_lt, eq-eqb, eqb-true, le-leb, le-ltb, lt-leb, lt-ltb, not-false}
use Rattle.std.proofs.lemmas.Bool.Decides.{Decides-int_eq}
use Rattle.std.proofs.lemmas.Cmp.{back_total, int_cmp_total, nat_cmp_total, nat_list_cmp_total, on_total, then_total, tied_itself}
use Rattle.wq_base.specs.Byte.{is_slash}
use Rattle.wq_base.specs.Directory.{rest_below}
use Rattle.wq_base.specs.declared.compare.Case.TheVariants.{Exact}
use Rattle.wq_term.specs.declared.generators.PathGen.{PathGen}
use Rattle.wq_gen.specs.Outer.{depth_order, holds, is_unlimited, path_order, rank, reaches, text_order}
use Rattle.wq_gen.proofs.Deep.{after, below_is}
use Rattle.wq_gen.proofs.Holding.{Held, held_from, held_is, unlimited_is, unlimited_reaches}

depth_total : IsTotalOrder depth_order
depth_total = then_total (on_total (λ d. not (is_unlimited d)) bool_cmp_total) (back_total int_cmp_total)

pub path_total : IsTotalOrder path_order
path_total = then_total (on_total (λ (p : PathGen). map rank p.path) nat_list_cmp_total) (on_total (λ (p : PathGen). p.depth) depth_total)

-- bytes of the same rank are the same
rank_same : (a b : ℕ) → rank a ≡ rank b → a ≡ b
rank_same a b = at (is_slash a) (is_slash b) refl refl
  where
    at : (s t : Bool) → is_slash a ≡ s → is_slash b ≡ t → cond s 0 (a + 1) ≡ cond t 0 (b + 1) → a ≡ b
    at true true e f h = eqb-true a 47 e ∙ sym (eqb-true b 47 f)
    at true false e f h = absurd (omega (arith, h))
    at false true e f h = absurd (omega (arith, h))
    at false false e f h = omega (arith, h)

nat_equal : (a b : ℕ) → nat_cmp a b ≡ Equal → a ≡ b
nat_equal a b e = subst (λ o. MatchOrdering o (a < b) (a ≡ b) (b < a)) e (ranks a b)

-- texts that the order does not tell apart are the same
text_same : (a b : List ℕ) → text_order a b ≡ Equal → a ≡ b
text_same [] [] e = refl
text_same [] (y ∷ b) e = absurd (true≢false (ap is_lt e))
text_same (x ∷ a) [] e = absurd (true≢false (ap is_gt e))
text_same (x ∷ a) (y ∷ b) e = at (nat_cmp (rank x) (rank y)) refl (text_same a b) e
  where
    at : (o : Ordering) → nat_cmp (rank x) (rank y) ≡ o → (text_order a b ≡ Equal → a ≡ b) → ordering_then o (text_order a b) ≡ Equal → x ∷ a ≡ y ∷ b
    at Less f rest e = absurd (true≢false (ap is_lt e))
    at Equal f rest e = (λ i. rank_same x y (nat_equal (rank x) (rank y) f) i ∷ rest e i)
    at Greater f rest e = absurd (true≢false (ap is_gt e))

-- the first number is no greater if it does not come after the second one
not_greater : (a b : ℕ) (o : Ordering) → is_gt (ordering_then (nat_cmp a b) o) ≡ false → a ≤ b
not_greater a b o = at (nat_cmp a b) (ranks a b)
  where
    at : (r : Ordering) → MatchOrdering r (a < b) (a ≡ b) (b < a) → is_gt (ordering_then r o) ≡ false → a ≤ b
    at Less h e = omega (arith, h)
    at Equal h e = omega (arith, h)
    at Greater h e = absurd (true≢false e)

-- what follows bytes of the same rank decides
same_first : (n : ℕ) (o : Ordering) → ordering_then (nat_cmp n n) o ≡ o
same_first n o = ap (λ r. ordering_then r o) (tied_itself nat_cmp_total n)

first_part : (r o : Ordering) → is_gt (ordering_then r o) ≡ false → is_gt r ≡ false
first_part Less o e = refl
first_part Equal o e = refl
first_part Greater o e = e

some_slash : (z : ℕ) (c : List ℕ) → is_some (after [] (z ∷ c)) ≡ true → is_slash z ≡ true
some_slash z c = at (is_slash z)
  where
    at : (b : Bool) → is_some (if b then Some c else None) ≡ true → b ≡ true
    at true e = refl
    at false e = absurd (false≢true e)

slash_some : (y : ℕ) (b : List ℕ) → is_slash y ≡ true → is_some (after [] (y ∷ b)) ≡ true
slash_some y b e = ap (λ s. is_some (if s then Some b else None)) e

some_next : (x z : ℕ) (a c : List ℕ) → is_some (after (x ∷ a) (z ∷ c)) ≡ true → (x ≡ z) × (is_some (after a c) ≡ true)
some_next x z a c = at (z == x) refl
  where
    at : (b : Bool) → (z == x) ≡ b → is_some (if b then after a c else None) ≡ true → (x ≡ z) × (is_some (after a c) ≡ true)
    at true f e = (sym (eqb-true z x f), e)
    at false f e = absurd (false≢true e)

next_some : (x : ℕ) (a b : List ℕ) → is_some (after a b) ≡ true → is_some (after (x ∷ a) (x ∷ b)) ≡ true
next_some x a b e = ap (λ s. is_some (if s then after a b else None)) (eq-eqb x x refl) ∙ e

-- a path comes before what is below it
below_less : (a c : List ℕ) → is_some (after a c) ≡ true → text_order a c ≡ Less
below_less [] [] e = absurd (false≢true e)
below_less [] (z ∷ c) e = refl
below_less (x ∷ a) [] e = absurd (false≢true e)
below_less (x ∷ a) (z ∷ c) e =
    let parts = some_next x z a c e in
    ap (λ n. ordering_then (nat_cmp (rank x) (rank n)) (text_order a c)) (sym parts.0) ∙ same_first (rank x) (text_order a c) ∙ below_less a c parts.1

-- what comes between a path and a path below it is the path, or is below it
between : (a b c : List ℕ) → is_gt (text_order a b) ≡ false → is_gt (text_order b c) ≡ false → is_some (after a c) ≡ true → (a ≡ b) ⊎ (is_some (after a b) ≡ true)
between [] [] c low high e = inl refl
between [] (y ∷ b) [] low high e = absurd (false≢true e)
between [] (y ∷ b) (z ∷ c) low high e = inr (slash_some y b (at (is_slash y) refl))
  where
    none : rank z ≡ 0
    none = ap (λ s. cond s 0 (z + 1)) (some_slash z c e)

    at : (s : Bool) → is_slash y ≡ s → s ≡ true
    at true f = refl
    at false f =
        let some : rank y ≡ y + 1 = ap (λ s. cond s 0 (y + 1)) f in
        absurd (omega (arith, none, some, not_greater (rank y) (rank z) (text_order b c) high))
between (x ∷ a) b [] low high e = absurd (false≢true e)
between (x ∷ a) [] (z ∷ c) low high e = absurd (true≢false low)
between (x ∷ a) (y ∷ b) (z ∷ c) low high e = by (between a b c (later x y a b same low) (later y z b c same' high) parts.1)
  where
    parts : (x ≡ z) × (is_some (after a c) ≡ true)
    parts = some_next x z a c e

    one : rank x ≡ rank z
    one = ap rank parts.0

    same : x ≡ y
    same = rank_same x y (omega (arith, one, not_greater (rank x) (rank y) (text_order a b) low, not_greater (rank y) (rank z) (text_order b c) high))

    same' : y ≡ z
    same' = sym same ∙ parts.0

    later : (u v : ℕ) (us vs : List ℕ) → u ≡ v → is_gt (text_order (u ∷ us) (v ∷ vs)) ≡ false → is_gt (text_order us vs) ≡ false
    later u v us vs is h = ap is_gt (sym (same_first (rank u) (text_order us vs)) ∙ ap (λ n. ordering_then (nat_cmp (rank u) (rank n)) (text_order us vs)) is) ∙ h

    by : (a ≡ b) ⊎ (is_some (after a b) ≡ true) → (x ∷ a ≡ y ∷ b) ⊎ (is_some (after (x ∷ a) (y ∷ b)) ≡ true)
    by (inl is) = inl (λ i. same i ∷ is i)
    by (inr below) = inr (subst (λ n. is_some (after (x ∷ a) (n ∷ b)) ≡ true) same (next_some x a b below))

le_not_lt : (a b : ℕ) → nat_le a b ≡ not (nat_lt b a)
le_not_lt a b = at (cases_lt b a)
  where
    at : (b < a) ⊎ (a ≤ b) → nat_le a b ≡ not (nat_lt b a)
    at (inl h) = lt-leb a b h ∙ sym (ap not (lt-ltb b a h))
    at (inr h) = le-leb a b h ∙ sym (ap not (le-ltb b a h))

less : (d e : ℤ) → int_lt d e ≡ true → int_cmp d e ≡ Less
less d e h = ap (λ b. cond b Less (cond (int_lt e d) Greater Equal)) h

-- a whole number is no greater exactly if it does not come after
int_le_not_lt : (d e : ℤ) → int_le e d ≡ not (int_lt d e)
int_le_not_lt (pos a) (pos b) = le_not_lt b a
int_le_not_lt (pos a) (negsuc b) = refl
int_le_not_lt (negsuc a) (pos b) = refl
int_le_not_lt (negsuc a) (negsuc b) = le_not_lt a b

-- a depth that reaches as far as another one does not come after it, and the other way round
reach_first : (d e : ℤ) → reaches d e ≡ true → is_gt (depth_order d e) ≡ false
reach_first d e = at (is_unlimited d) (is_unlimited e) refl refl
  where
    last : int_le e d ≡ true → is_gt (int_cmp e d) ≡ false
    last h = by (int_lt e d) (int_lt d e) (sym (int_le_not_lt d e) ∙ h)
      where
        by : (s t : Bool) → not t ≡ true → is_gt (cond s Less (cond t Greater Equal)) ≡ false
        by true t k = refl
        by false true k = absurd (false≢true k)
        by false false k = refl

    at : (s t : Bool) → is_unlimited d ≡ s → is_unlimited e ≡ t → (s || (not t && int_le e d)) ≡ true → is_gt (ordering_then (bool_cmp (not s) (not t)) (int_cmp e d)) ≡ false
    at true true f g h = ap is_gt (ap (λ x. int_cmp x d) (unlimited_is e g) ∙ ap (λ x. int_cmp (negsuc 0) x) (unlimited_is d f) ∙ tied_itself int_cmp_total (negsuc 0))
    at true false f g h = refl
    at false true f g h = absurd (false≢true h)
    at false false f g h = last h

first_reach : (d e : ℤ) → is_gt (depth_order d e) ≡ false → reaches d e ≡ true
first_reach d e = at (is_unlimited d) (is_unlimited e)
  where
    last : is_gt (int_cmp e d) ≡ false → int_le e d ≡ true
    last h = by (int_le e d) refl
      where
        by : (b : Bool) → int_le e d ≡ b → b ≡ true
        by true f = refl
        by false f = absurd (true≢false (sym (ap is_gt greater) ∙ h))
          where
            later : int_cmp d e ≡ Less
            later = less d e (not-false (int_lt d e) (sym (int_le_not_lt d e) ∙ f))

            greater : int_cmp e d ≡ Greater
            greater = int_cmp_total.antisymm e d ∙ ap ordering_reverse later

    at : (s t : Bool) → (is_gt (ordering_then (bool_cmp (not s) (not t)) (int_cmp e d)) ≡ false) → (s || (not t && int_le e d)) ≡ true
    at true t h = refl
    at false true h = absurd (true≢false h)
    at false false h = last h

-- a path comes before those that it holds
first_of : (a c : List ℕ) (d e : ℤ) → reaches d e ≡ true → (a ≡ c) ⊎ (is_some (rest_below Exact a c) ≡ true) → is_gt (ordering_then (text_order a c) (depth_order d e)) ≡ false
first_of a c d e reach (inl same) =
    let equal : text_order a c ≡ Equal = ap (λ t. text_order a t) (sym same) ∙ tied_itself nat_list_cmp_total (map rank a) in
    ap (λ o. is_gt (ordering_then o (depth_order d e))) equal ∙ reach_first d e reach
first_of [] [] d e reach (inr below) = reach_first d e reach
first_of [] (z ∷ c) d e reach (inr below) = refl
first_of (x ∷ a) c d e reach (inr below) =
    ap (λ o. is_gt (ordering_then o (depth_order d e))) (below_less (x ∷ a) c (ap is_some (sym (below_is x a c)) ∙ below))

pub holds_first : (p q : PathGen) → holds p q ≡ true → is_gt (path_order p q) ≡ false
holds_first p q h = at (held_from p q h)
  where
    at : Held p q → is_gt (path_order p q) ≡ false
    at (inl (same, reach)) = first_of p.path q.path p.depth q.depth reach (inl same)
    at (inr (wide, below)) = first_of p.path q.path p.depth q.depth (unlimited_reaches p.depth q.depth wide) (inr below)

-- texts of which neither comes after the other are the same
text_tied : (a b : List ℕ) → is_gt (text_order a b) ≡ false → is_gt (text_order b a) ≡ false → a ≡ b
text_tied a b low high = text_same a b (at (text_order a b) refl low)
  where
    at : (o : Ordering) → text_order a b ≡ o → is_gt o ≡ false → o ≡ Equal
    at Less f e = absurd (true≢false (sym (ap is_gt (nat_list_cmp_total.antisymm (map rank b) (map rank a) ∙ ap ordering_reverse f)) ∙ high))
    at Equal f e = refl
    at Greater f e = absurd (true≢false e)

-- what comes between a path and one that it holds, it holds too
pub holds_between : (p q r : PathGen) → is_gt (path_order p q) ≡ false → is_gt (path_order q r) ≡ false → holds p r ≡ true → holds p q ≡ true
holds_between p q r low high h = held_is p q (at (held_from p r h))
  where
    low_text : is_gt (text_order p.path q.path) ≡ false
    low_text = first_part (text_order p.path q.path) (depth_order p.depth q.depth) low

    high_text : is_gt (text_order q.path r.path) ≡ false
    high_text = first_part (text_order q.path r.path) (depth_order q.depth r.depth) high

    -- the same path reaches as far
    same_path : p.path ≡ q.path → Held p q
    same_path same =
        let equal : text_order p.path q.path ≡ Equal = ap (λ t. text_order p.path t) (sym same) ∙ tied_itself nat_list_cmp_total (map rank p.path) in
        inl (same, first_reach p.depth q.depth (ap (λ o. is_gt (ordering_then o (depth_order p.depth q.depth))) (sym equal) ∙ low))

    below_it : (a : List ℕ) → p.path ≡ a → is_unlimited p.depth ≡ true → is_some (rest_below Exact a r.path) ≡ true → Held p q
    below_it [] is wide below = inr (wide, ap (λ a. is_some (rest_below Exact a q.path)) is)
    below_it (x ∷ a) is wide below = by (between (x ∷ a) q.path r.path (subst (λ t. is_gt (text_order t q.path) ≡ false) is low_text) high_text (ap is_some (sym (below_is x a r.path)) ∙ below))
      where
        by : (x ∷ a ≡ q.path) ⊎ (is_some (after (x ∷ a) q.path) ≡ true) → Held p q
        by (inl same) = same_path (is ∙ same)
        by (inr there) = inr (wide, ap (λ t. is_some (rest_below Exact t q.path)) is ∙ ap is_some (below_is x a q.path) ∙ there)

    at : Held p r → Held p q
    at (inl (same, reach)) = same_path (text_tied p.path q.path low_text (subst (λ t. is_gt (text_order q.path t) ≡ false) (sym same) high_text))
    at (inr (wide, below)) = below_it p.path refl wide below

equal_parts : (r o : Ordering) → ordering_then r o ≡ Equal → (r ≡ Equal) × (o ≡ Equal)
equal_parts Less o e = absurd (true≢false (ap is_lt e))
equal_parts Equal o e = (refl, e)
equal_parts Greater o e = absurd (true≢false (ap is_gt e))

-- paths that the order does not tell apart are the same
pub path_same : (p q : PathGen) → path_order p q ≡ Equal → p ≡ q
path_same p q e =
    let parts = equal_parts (text_order p.path q.path) (depth_order p.depth q.depth) e in
    let text = text_same p.path q.path parts.0 in
    let depths = equal_parts (bool_cmp (not (is_unlimited p.depth)) (not (is_unlimited q.depth))) (int_cmp q.depth p.depth) parts.1 in
    let depth : p.depth ≡ q.depth = sym ((Decides-int_eq q.depth p.depth).0 (ap is_eq depths.1)) in
    λ i. record { path = text i; depth = depth i }

-- and so are paths of which neither comes after the other
pub path_tied : (p q : PathGen) → is_gt (path_order p q) ≡ false → is_gt (path_order q p) ≡ false → p ≡ q
path_tied p q low high = path_same p q (at (path_order p q) refl low)
  where
    at : (o : Ordering) → path_order p q ≡ o → is_gt o ≡ false → o ≡ Equal
    at Less f e = absurd (true≢false (sym (ap is_gt (path_total.antisymm q p ∙ ap ordering_reverse f)) ∙ high))
    at Equal f e = refl
    at Greater f e = absurd (true≢false e)
