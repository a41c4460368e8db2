-- The positions of what changed after a tick come first in the order of last change.
use Rattle.std.proofs.Common.{◌≡◌, ℕ, zero, suc, ◌+◌, ◌-◌, ◌<◌, ◌≤◌, ◌⊎◌, inl, inr, Bool, true, false, cond, ◌&&◌, ◌||◌, ◌==◌, nat_lt, nat_le, if◌then◌else◌, List, [], ◌∷◌, ◌++◌, map, length, take, get_or, slice_get, count_by, filter, Some, refl, sym, ap, subst, ◌∙◌, add-one, arith}
use mathlib.Core.Bool.{true≢false}
use Rattle.std.specs.List.{AllByRecursion, range_with_len}
use Rattle.std.specs.List.Sorted.{IsPermutation}
use Rattle.std.proofs.lemmas.Bool.{and_from, cases_eq, cases_lt, eq-eqb, eqb-true, le-ltb, le-leb, leb-true, lt-ltb, ltb-true, or_right, or_left, or_cases, and_parts}
use Rattle.std.proofs.lemmas.List.{length-map, map-append}
use Rattle.std.proofs.lemmas.Option.{same_Some}
use Rattle.std.proofs.lemmas.List.Sorted.{IsPermutation-refl, IsPermutation-cons, IsPermutation-map, IsPermutation-trans, IsPermutation-append, IsPermutation-middle, length_permutation}
use Rattle.std.proofs.lemmas.List.Sums.{sum_by-cons}
use Rattle.std.specs.Cmp.{both_ways}
use Rattle.wq_base.proofs.Facts.{all_so}
use Rattle.wq_clock.specs.declared.bound.Bound.TheVariants.{Tick}
use Rattle.wq_record.specs.RecordData.{RecordData}
use Rattle.wq_view.specs.Position.{passes_at, positions_of}
use Rattle.wq_view.specs.Order.{positions, newest_first, newer, ticks_of, Known, NewestIsSplit}
use Rattle.wq_view.proofs.LaterOrder.{positions_alike}
use Rattle.wq_gen.specs.Candidate.{changed_since}
use Rattle.wq_gen.proofs.Rising.{Rises}

pub all_push : (P : ℕ → Type 0) (ps : List ℕ) (p : ℕ) → AllByRecursion P ps → P p → AllByRecursion P (ps ++ (p ∷ []))
all_push P [] p all here = (here, tt)
all_push P (q ∷ ps) p all here = (all.0, all_push P ps p all.1 here)

and_true : (b : Bool) → (b && true) ≡ b
and_true true = refl
and_true false = refl

-- the positions of either of two tests, which no item passes both
cases : (a b c : Bool) (ps qs rs : List ℕ) → c ≡ (a || b) → (a ≡ true → b ≡ false) → IsPermutation (map suc ps ++ map suc qs) (map suc rs) → IsPermutation ((if a then 0 ∷ map suc ps else map suc ps) ++ (if b then 0 ∷ map suc qs else map suc qs)) (if c then 0 ∷ map suc rs else map suc rs)
cases true true c ps qs rs is apart rest = absurd (true≢false (apart refl))
cases true false c ps qs rs is apart rest = rw is (IsPermutation-cons 0 (map suc ps ++ map suc qs) (map suc rs) rest)
cases false true c ps qs rs is apart rest = rw is (IsPermutation-trans (map suc ps ++ (0 ∷ map suc qs)) (0 ∷ (map suc ps ++ map suc qs)) (0 ∷ map suc rs) (IsPermutation-middle (map suc ps) 0 (map suc qs)) (IsPermutation-cons 0 (map suc ps ++ map suc qs) (map suc rs) rest))
cases false false c ps qs rs is apart rest = rw is rest

split : (p q r : ℕ → Bool) → ((n : ℕ) → r n ≡ (p n || q n)) → ((n : ℕ) → p n ≡ true → q n ≡ false) → (ns : List ℕ) → IsPermutation (positions p ns ++ positions q ns) (positions r ns)
split p q r either apart [] = IsPermutation-refl []
split p q r either apart (n ∷ ns) =
    let rest = IsPermutation-map suc (positions p ns ++ positions q ns) (positions r ns) (split p q r either apart ns) in
    cases (p n) (q n) (r n) (positions p ns) (positions q ns) (positions r ns) (either n) (apart n) (subst (λ l. IsPermutation l (map suc (positions r ns))) (map-append suc (positions p ns) (positions q ns)) rest)

none_pass : (p : ℕ → Bool) (ns : List ℕ) → AllByRecursion (λ n. p n ≡ false) ns → positions p ns ≡ []
none_pass p [] all = refl
none_pass p (n ∷ ns) all = rw all.0 (ap (map suc) (none_pass p ns all.1))

-- the ticks after one, as many as these
abbrev in_span : ℕ → ℕ → ℕ → Bool
in_span tick more n = nat_lt tick n && nat_le n (more + tick)

one_span : (tick more n : ℕ) → in_span tick (suc more) n ≡ ((n == suc (more + tick)) || in_span tick more n)
one_span tick more n = both_ways _ _ there back
  where
    there : in_span tick (suc more) n ≡ true → ((n == suc (more + tick)) || in_span tick more n) ≡ true
    there e = at (cases_eq n (suc (more + tick)))
      where
        parts : (nat_lt tick n ≡ true) × (nat_le n (suc more + tick) ≡ true)
        parts = and_parts (nat_lt tick n) (nat_le n (suc more + tick)) e

        at : (n ≡ suc (more + tick)) ⊎ (n ≡ suc (more + tick) → ⊥) → ((n == suc (more + tick)) || in_span tick more n) ≡ true
        at (inl same) = or_left (n == suc (more + tick)) (in_span tick more n) (eq-eqb n (suc (more + tick)) same)
        at (inr other) = or_right (n == suc (more + tick)) (in_span tick more n) (and_from (nat_lt tick n) (nat_le n (more + tick)) parts.0 (le-leb n (more + tick) (omega (arith, leb-true n (suc more + tick) parts.1, other))))

    back : ((n == suc (more + tick)) || in_span tick more n) ≡ true → in_span tick (suc more) n ≡ true
    back e = at (or_cases (n == suc (more + tick)) (in_span tick more n) e)
      where
        at : ((n == suc (more + tick)) ≡ true) ⊎ (in_span tick more n ≡ true) → in_span tick (suc more) n ≡ true
        at (inl same) =
            let is = eqb-true n (suc (more + tick)) same in
            and_from (nat_lt tick n) (nat_le n (suc more + tick)) (lt-ltb tick n (omega (arith, is))) (le-leb n (suc more + tick) (omega (arith, is)))
        at (inr in_it) =
            let parts = and_parts (nat_lt tick n) (nat_le n (more + tick)) in_it in
            and_from (nat_lt tick n) (nat_le n (suc more + tick)) parts.0 (le-leb n (suc more + tick) (omega (arith, leb-true n (more + tick) parts.1)))

span_apart : (tick more n : ℕ) → (n == suc (more + tick)) ≡ true → in_span tick more n ≡ false
span_apart tick more n e = at (in_span tick more n) refl
  where
    at : (b : Bool) → in_span tick more n ≡ b → in_span tick more n ≡ false
    at false is = is
    at true is = absurd (omega (arith, eqb-true n (suc (more + tick)) e, leb-true n (more + tick) (and_parts (nat_lt tick n) (nat_le n (more + tick)) is).1))

no_span : (tick n : ℕ) → in_span tick 0 n ≡ false
no_span tick n = at (in_span tick 0 n) refl
  where
    at : (b : Bool) → in_span tick 0 n ≡ b → in_span tick 0 n ≡ false
    at false is = is
    at true is =
        let parts = and_parts (nat_lt tick n) (nat_le n (0 + tick)) is in
        absurd (omega (arith, ltb-true tick n parts.0, leb-true n (0 + tick) parts.1))

all_true : (P : ℕ → Type 0) → ((n : ℕ) → P n) → (ns : List ℕ) → AllByRecursion P ns
all_true P every [] = tt
all_true P every (n ∷ ns) = (every n, all_true P every ns)

-- the positions of the latest ticks are those of all ticks among them
newer_are : (tick more : ℕ) (ns : List ℕ) → IsPermutation (newer more tick ns) (positions (in_span tick more) ns)
newer_are tick zero ns = subst (IsPermutation []) (sym (none_pass (in_span tick 0) ns (all_true (λ n. in_span tick 0 n ≡ false) (no_span tick) ns))) (IsPermutation-refl [])
newer_are tick (suc more) ns =
    let first = positions (λ n. n == suc (more + tick)) ns in
    IsPermutation-trans (first ++ newer more tick ns) (first ++ positions (in_span tick more) ns) (positions (in_span tick (suc more)) ns)
    (IsPermutation-append first first (newer more tick ns) (positions (in_span tick more) ns) (IsPermutation-refl first) (newer_are tick more ns))
    (split (λ n. n == suc (more + tick)) (in_span tick more) (in_span tick (suc more)) (one_span tick more) (span_apart tick more) ns)

-- positions among records after a first one
shift_at : (test : RecordData → Bool) (r : RecordData) (rs : List RecordData) (a n : ℕ) → filter (passes_at test (r ∷ rs)) (range_with_len (a + 1) n) ≡ map suc (filter (passes_at test rs) (range_with_len a n))
shift_at test r rs a zero = refl
shift_at test r rs a (suc n) =
    let here : passes_at test (r ∷ rs) (a + 1) ≡ passes_at test rs a = ap (passes_at test (r ∷ rs)) (add-one a) in
    rw here (at (passes_at test rs a) (shift_at test r rs (a + 1) n))
  where
    at : (b : Bool) → filter (passes_at test (r ∷ rs)) (range_with_len ((a + 1) + 1) n) ≡ map suc (filter (passes_at test rs) (range_with_len (a + 1) n)) → cond b ((a + 1) ∷ filter (passes_at test (r ∷ rs)) (range_with_len ((a + 1) + 1) n)) (filter (passes_at test (r ∷ rs)) (range_with_len ((a + 1) + 1) n)) ≡ map suc (cond b (a ∷ filter (passes_at test rs) (range_with_len (a + 1) n)) (filter (passes_at test rs) (range_with_len (a + 1) n)))
    at true rest = ap (λ k. k ∷ filter (passes_at test (r ∷ rs)) (range_with_len ((a + 1) + 1) n)) (add-one a) ∙ ap (λ l. suc a ∷ l) rest
    at false rest = rest

pub positions_cons : (test : RecordData → Bool) (r : RecordData) (rs : List RecordData) → positions_of test (r ∷ rs) ≡ cond (test r) (0 ∷ map suc (positions_of test rs)) (map suc (positions_of test rs))
positions_cons test r rs = ap (λ l. cond (test r) (0 ∷ l) l) (shift_at test r rs 0 (length rs))

-- there are as many positions as records that pass
pub count_positions : (test : RecordData → Bool) (rs : List RecordData) → length (positions_of test rs) ≡ count_by test rs
count_positions test [] = refl
count_positions test (r ∷ rs) =
    let rest = length-map (positions_of test rs) suc ∙ count_positions test rs in
    ap length (positions_cons test r rs) ∙ at (test r) rest ∙ sym (sum_by-cons (λ x. cond (test x) 1 0) r rs)
  where
    at : (b : Bool) → length (map suc (positions_of test rs)) ≡ count_by test rs → length (cond b (0 ∷ map suc (positions_of test rs)) (map suc (positions_of test rs))) ≡ cond b 1 0 + count_by test rs
    at true rest = omega (arith, rest)
    at false rest = omega (arith, rest)

-- the positions of records that pass a test of their ticks
pub positions_match : (test : ℕ → Bool) (rs : List RecordData) → positions test (ticks_of rs) ≡ positions_of (λ r. test r.otick) rs
positions_match test [] = refl
positions_match test (r ∷ rs) = at (test r.otick) (positions_match test rs) ∙ sym (positions_cons (λ x. test x.otick) r rs)
  where
    at : (b : Bool) → positions test (ticks_of rs) ≡ positions_of (λ x. test x.otick) rs → (if b then 0 ∷ map suc (positions test (ticks_of rs)) else map suc (positions test (ticks_of rs))) ≡ cond b (0 ∷ map suc (positions_of (λ x. test x.otick) rs)) (map suc (positions_of (λ x. test x.otick) rs))
    at true rest = ap (λ l. 0 ∷ map suc l) rest
    at false rest = ap (map suc) rest

-- the positions that a test keeps rise
kept_from : (f : ℕ → Bool) (a from n : ℕ) → a ≤ from → AllByRecursion (λ x. a ≤ x) (filter f (range_with_len from n))
kept_from f a from zero low = tt
kept_from f a from (suc n) low = at (f from) (kept_from f a (from + 1) n (omega (arith, low)))
  where
    at : (b : Bool) → AllByRecursion (λ x. a ≤ x) (filter f (range_with_len (from + 1) n)) → AllByRecursion (λ x. a ≤ x) (cond b (from ∷ filter f (range_with_len (from + 1) n)) (filter f (range_with_len (from + 1) n)))
    at true rest = (low, rest)
    at false rest = rest

pub kept_rises : (f : ℕ → Bool) (from n : ℕ) → Rises (filter f (range_with_len from n))
kept_rises f from zero = tt
kept_rises f from (suc n) = at (f from) (kept_rises f (from + 1) n) (kept_from f from (from + 1) n (omega arith))
  where
    at : (b : Bool) → Rises (filter f (range_with_len (from + 1) n)) → AllByRecursion (λ x. from ≤ x) (filter f (range_with_len (from + 1) n)) → Rises (cond b (from ∷ filter f (range_with_len (from + 1) n)) (filter f (range_with_len (from + 1) n)))
    at true rest above = (above, rest)
    at false rest above = rest

-- whether a record changed after a tick, by its place among the ticks
passes_tick : (tick : ℕ) (rs : List RecordData) (i : ℕ) → passes_at (changed_since (Tick tick)) rs i ≡ nat_lt tick (get_or (ticks_of rs) i 0)
passes_tick tick [] i = sym (le-ltb tick 0 (omega arith))
passes_tick tick (r ∷ rs) zero = refl
passes_tick tick (r ∷ rs) (suc i) = passes_tick tick rs i

-- the order of last change, parted into what changed after a tick and the rest
pub record IsParted (tick : ℕ) (rs : List RecordData) (order : List ℕ) : Type 0 where
  pub front : List ℕ
  pub back : List ℕ
  pub is : order ≡ front ++ back
  pub passes : AllByRecursion (λ i. passes_at (changed_since (Tick tick)) rs i ≡ true) front
  pub fails : AllByRecursion (λ i. passes_at (changed_since (Tick tick)) rs i ≡ false) back
  pub all : IsPermutation front (positions_of (changed_since (Tick tick)) rs)

known_bound : (t : ℕ) (P : ℕ → Type 0) → ((n : ℕ) → n ≤ t → P n) → (rs : List RecordData) → Known t rs → AllByRecursion P (ticks_of rs)
known_bound t P from [] known = tt
known_bound t P from (r ∷ rs) known = (from r.otick known.0.1, known_bound t P from rs known.1)

pub parted : NewestIsSplit → (tick t : ℕ) (rs : List RecordData) → Known t rs → IsParted tick rs (newest_first t (ticks_of rs))
parted law tick t rs known = at (cases_lt t tick)
  where
    fail : (bound : ℕ) → bound ≤ tick → (ps : List ℕ) → AllByRecursion (λ p. get_or (ticks_of rs) p 0 ≤ bound) ps → AllByRecursion (λ i. passes_at (changed_since (Tick tick)) rs i ≡ false) ps
    fail bound h ps all = all_so (λ p. get_or (ticks_of rs) p 0 ≤ bound) (λ i. passes_at (changed_since (Tick tick)) rs i ≡ false) (λ p low. passes_tick tick rs p ∙ le-ltb tick (get_or (ticks_of rs) p 0) (omega (arith, low, h))) ps all

    pass : (ps : List ℕ) → AllByRecursion (λ p. tick < get_or (ticks_of rs) p 0) ps → AllByRecursion (λ i. passes_at (changed_since (Tick tick)) rs i ≡ true) ps
    pass ps all = all_so (λ p. tick < get_or (ticks_of rs) p 0) (λ i. passes_at (changed_since (Tick tick)) rs i ≡ true) (λ p high. passes_tick tick rs p ∙ lt-ltb tick (get_or (ticks_of rs) p 0) high) ps all

    at : (t < tick) ⊎ (tick ≤ t) → IsParted tick rs (newest_first t (ticks_of rs))
    at (inl past) =
        let split_is = law 0 t t (ticks_of rs) (omega arith) in
        let none : positions (nat_lt tick) (ticks_of rs) ≡ [] = none_pass (nat_lt tick) (ticks_of rs) (known_bound t (λ n. nat_lt tick n ≡ false) (λ n low. le-ltb tick n (omega (arith, low, past))) rs known) in
        record {
          front = [];
          back = newest_first t (ticks_of rs);
          is = refl;
          passes = tt;
          fails = fail t (omega (arith, past)) (newest_first t (ticks_of rs)) split_is.2;
          all = subst (IsPermutation []) (sym (sym (positions_match (nat_lt tick) rs) ∙ none)) (IsPermutation-refl []);
        }
    at (inr low) =
        let more = t - tick in
        let e : t ≡ more + tick = omega (arith, low) in
        let split_is = law more tick t (ticks_of rs) e in
        let same : positions (in_span tick more) (ticks_of rs) ≡ positions_of (changed_since (Tick tick)) rs =
        positions_alike (in_span tick more) (nat_lt tick) (ticks_of rs) (known_bound t (λ n. in_span tick more n ≡ nat_lt tick n) (λ n bound. ap (λ b. nat_lt tick n && b) (le-leb n (more + tick) (omega (arith, bound, e))) ∙ and_true (nat_lt tick n)) rs known) ∙ positions_match (nat_lt tick) rs in
        record {
          front = newer more tick (ticks_of rs);
          back = newest_first tick (ticks_of rs);
          is = split_is.0;
          passes = pass (newer more tick (ticks_of rs)) split_is.1;
          fails = fail tick (omega arith) (newest_first tick (ticks_of rs)) split_is.2;
          all = subst (IsPermutation (newer more tick (ticks_of rs))) same (newer_are tick more (ticks_of rs));
        }

-- a first part of a list that is in two parts
module _ (pass : ℕ → Bool) where
  abbrev Pass : List ℕ → Type 0
  Pass = AllByRecursion (λ i. pass i ≡ true)

  abbrev Fail : List ℕ → Type 0
  Fail = AllByRecursion (λ i. pass i ≡ false)

  -- what passes is no longer than the part that passes
  prefix_short : (front back xs : List ℕ) → xs ≡ take (length xs) (front ++ back) → Pass xs → Fail back → length xs ≤ length front
  prefix_short front back [] is all none = omega arith
  prefix_short [] [] (x ∷ xs) is all none = absurd (omega (arith, ap length is))
  prefix_short [] (b ∷ back) (x ∷ xs) is all none =
      let head : x ≡ b = cc in
      absurd (true≢false (sym all.0 ∙ ap pass head ∙ none.0))
  prefix_short (f ∷ front) back (x ∷ xs) is all none =
      let rest : xs ≡ take (length xs) (front ++ back) = cc in
      omega (arith, prefix_short front back xs rest all.1 none)

  -- what passes is the part that passes, if the next one does not
  prefix_whole : (front back xs : List ℕ) → xs ≡ take (length xs) (front ++ back) → Pass xs → Pass front → Fail back → ((i : ℕ) → slice_get (front ++ back) (length xs) ≡ Some i → pass i ≡ false) → xs ≡ front
  prefix_whole [] back [] is all here none ends = refl
  prefix_whole [] back (x ∷ xs) is all here none ends = absurd (omega (arith, prefix_short [] back (x ∷ xs) is all none))
  prefix_whole (f ∷ front) back [] is all here none ends = absurd (true≢false (sym here.0 ∙ ends f refl))
  prefix_whole (f ∷ front) back (x ∷ xs) is all here none ends =
      let head : x ≡ f = cc in
      let rest : xs ≡ take (length xs) (front ++ back) = cc in
      ap (λ k. k ∷ xs) head ∙ ap (λ l. f ∷ l) (prefix_whole front back xs rest all.1 here.1 none ends)

-- a first part with the next one
pub prefix_next : (xs ys : List ℕ) (y : ℕ) → xs ≡ take (length xs) ys → slice_get ys (length xs) ≡ Some y → xs ++ (y ∷ []) ≡ take (length (xs ++ (y ∷ []))) ys
prefix_next [] [] y is here = absurd (cc)
prefix_next [] (z ∷ ys) y is here = ap (λ k. k ∷ []) (sym (same_Some z y here))
prefix_next (x ∷ xs) [] y is here = absurd (omega (arith, ap length is))
prefix_next (x ∷ xs) (z ∷ ys) y is here =
    let head : x ≡ z = cc in
    let rest : xs ≡ take (length xs) ys = cc in
    ap (λ k. k ∷ (xs ++ (y ∷ []))) head ∙ ap (λ l. z ∷ l) (prefix_next xs ys y rest here)

-- what was found so far is no more than what there is to find
pub found_few : (law : NewestIsSplit) (tick t : ℕ) (rs : List RecordData) (found : List ℕ) → Known t rs → found ≡ take (length found) (newest_first t (ticks_of rs)) → AllByRecursion (λ i. passes_at (changed_since (Tick tick)) rs i ≡ true) found → length found ≤ count_by (changed_since (Tick tick)) rs
found_few law tick t rs found known is all =
    let parts = parted law tick t rs known in
    let short = prefix_short (passes_at (changed_since (Tick tick)) rs) parts.front parts.back found (is ∙ ap (take (length found)) parts.is) all parts.fails in
    omega (arith, short, length_permutation parts.front (positions_of (changed_since (Tick tick)) rs) parts.all, count_positions (changed_since (Tick tick)) rs)

-- at the end all was found
pub found_all : (law : NewestIsSplit) (tick t : ℕ) (rs : List RecordData) (found : List ℕ) → Known t rs → found ≡ take (length found) (newest_first t (ticks_of rs)) → AllByRecursion (λ i. passes_at (changed_since (Tick tick)) rs i ≡ true) found → ((i : ℕ) → slice_get (newest_first t (ticks_of rs)) (length found) ≡ Some i → passes_at (changed_since (Tick tick)) rs i ≡ false) → IsPermutation found (positions_of (changed_since (Tick tick)) rs)
found_all law tick t rs found known is all ends =
    let parts = parted law tick t rs known in
    let whole = prefix_whole (passes_at (changed_since (Tick tick)) rs) parts.front parts.back found (is ∙ ap (take (length found)) parts.is) all parts.passes parts.fails (λ i e. ends i (ap (λ l. slice_get l (length found)) parts.is ∙ e)) in
    subst (λ l. IsPermutation l (positions_of (changed_since (Tick tick)) rs)) (sym whole) parts.all
