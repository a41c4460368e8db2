-- Of sorted paths, those that are kept.
use Rattle.std.proofs.Common.{◌≡◌, ◌≤◌, ◌<◌, ◌+◌, ◌⊎◌, inl, inr, ℕ, suc, Bool, true, false, not, ◌&&◌, ◌||◌, cond, List, [], ◌∷◌, ◌++◌, append-nil, drop, map, filter, length, get_or, sum_by, refl, sym, ap, subst, ◌∙◌, arith}
use mathlib.Core.Bool.{false≢true, true≢false}
use Rattle.std.specs.Prelude.{⊤}
use Rattle.std.specs.List.{AllByRecursion, list_any}
use Rattle.std.specs.List.Sorted.{IsPermutation, IsSortedBy}
use Rattle.std.specs.Ordering.{is_gt, is_lt, ordering_reverse}
use Rattle.std.specs.declared.cmp.Ordering.{Ordering}
use Rattle.std.specs.declared.cmp.Ordering.TheVariants.{Less, Equal, Greater}
use Rattle.std.proofs.lemmas.Bool.{and_from, and_parts, or_left, or_right}
use Rattle.std.proofs.lemmas.Cmp.{tied_itself}
use Rattle.std.proofs.lemmas.List.{drop_all, get_or-map, length-map}
use Rattle.std.proofs.lemmas.List.Sorted.{list_any-IsPermutation, ranks_by, sorted_far}
use Rattle.std.proofs.lemmas.List.Sums.{sum_by-cons}
use Rattle.wq_base.proofs.Facts.{item}
use Rattle.wq_record.specs.RecordData.{RecordData}
use Rattle.wq_term.specs.declared.generators.PathGen.{PathGen}
use Rattle.wq_gen.specs.Candidate.{is_itself, is_on_path, is_under}
use Rattle.wq_gen.specs.Outer.{holds, is_held, kept_after, once, outer, path_order}
use Rattle.wq_gen.proofs.Holding.{either, holds_gives, holds_itself, holds_on}
use Rattle.wq_gen.proofs.PathOrder.{holds_between, holds_first, path_tied, path_total}

-- the image of a sorted list is sorted
pub sorted_image : {A B : Type 0} (f : A → B) (lt : B → B → Bool) (xs : List A) → IsSortedBy (λ a b. lt (f a) (f b)) xs → IsSortedBy lt (map f xs)
sorted_image f lt xs sorted k d low high =
    let inside : k + 1 < length xs = omega (arith, high, length-map xs f) in
    let a = item xs (k + 1) inside in
    ap (λ x. lt x (get_or (map f xs) k d)) (get_or-map f xs (k + 1) a d inside) ∙ ap (lt (f (get_or xs (k + 1) a))) (get_or-map f xs k a d (omega (arith, inside))) ∙ sorted k a low inside

-- whether a path is in a list
abbrev In : PathGen → List PathGen → Type 0
In p [] = ⊥
In p (q ∷ qs) = (p ≡ q) ⊎ In p qs

in_all : (P : PathGen → Type 0) (ps : List PathGen) (p : PathGen) → AllByRecursion P ps → In p ps → P p
in_all P [] p all is = absurd is
in_all P (q ∷ ps) p all (inl is) = subst P (sym is) all.0
in_all P (q ∷ ps) p all (inr there) = in_all P ps p all.1 there

-- each path comes before all later ones
abbrev Rising : List PathGen → Type 0
Rising [] = ⊤
Rising (p ∷ ps) = AllByRecursion (λ q. is_gt (path_order p q) ≡ false) ps × Rising ps

not_later : (p q : PathGen) → is_lt (path_order q p) ≡ false → is_gt (path_order p q) ≡ false
not_later p q h = ap is_gt (path_total.antisymm p q) ∙ at (path_order q p) h
  where
    at : (o : Ordering) → is_lt o ≡ false → is_gt (ordering_reverse o) ≡ false
    at Less e = absurd (true≢false e)
    at Equal e = refl
    at Greater e = refl

abbrev Far : List PathGen → Type 0
Far ps = (i j : ℕ) (d : PathGen) → i ≤ j → j < length ps → is_lt (path_order (get_or ps j d) (get_or ps i d)) ≡ false

rising_from_far : (ps : List PathGen) → Far ps → Rising ps
rising_from_far [] far = tt
rising_from_far (p ∷ ps) far = (all ps (λ j h. far 0 (suc j) p (omega arith) (omega (arith, h))), rising_from_far ps (λ i j d low high. far (suc i) (suc j) d (omega (arith, low)) (omega (arith, high))))
  where
    all : (qs : List PathGen) → ((j : ℕ) → j < length qs → is_lt (path_order (get_or qs j p) p) ≡ false) → AllByRecursion (λ q. is_gt (path_order p q) ≡ false) qs
    all [] h = tt
    all (q ∷ qs) h = (not_later p q (h 0 (omega arith)), all qs (λ j low. h (suc j) (omega (arith, low))))

rising_from : (ps : List PathGen) → IsSortedBy (λ p q. is_lt (path_order p q)) ps → Rising ps
rising_from ps sorted = rising_from_far ps (sorted_far (λ p q. is_lt (path_order p q)) (ranks_by path_total (λ p. p)) ps sorted)

-- the kept paths give what all give
pub kept_given : (r : RecordData) (last : PathGen) (ps : List PathGen) → is_on_path (last ∷ kept_after last ps) r ≡ is_on_path (last ∷ ps) r
kept_given r last [] = refl
kept_given r last (p ∷ ps) = at (holds last p) refl (kept_given r last ps) (kept_given r p ps)
  where
    gives : PathGen → Bool
    gives q = is_itself q r || is_under q r

    one : (a b c d : Bool) → (b ≡ true → a ≡ true) → (a || c) ≡ (a || d) → (a || c) ≡ (a || (b || d))
    one true b c d h e = refl
    one false true c d h e = absurd (false≢true (h refl))
    one false false c d h e = e

    at : (b : Bool) → holds last p ≡ b → is_on_path (last ∷ kept_after last ps) r ≡ is_on_path (last ∷ ps) r → is_on_path (p ∷ kept_after p ps) r ≡ is_on_path (p ∷ ps) r → is_on_path (last ∷ cond b (kept_after last ps) (p ∷ kept_after p ps)) r ≡ is_on_path (last ∷ p ∷ ps) r
    at true e held kept = one (gives last) (gives p) (is_on_path (kept_after last ps) r) (is_on_path ps r) (holds_gives r last p e) held
    at false e held kept = ap (λ b. gives last || b) kept

kept_in : (last : PathGen) (ps : List PathGen) (q : PathGen) → In q (kept_after last ps) → In q ps
kept_in last [] q is = is
kept_in last (p ∷ ps) q is = at (holds last p) is (kept_in last ps q) (kept_in p ps q)
  where
    at : (b : Bool) → In q (cond b (kept_after last ps) (p ∷ kept_after p ps)) → (In q (kept_after last ps) → In q ps) → (In q (kept_after p ps) → In q ps) → (q ≡ p) ⊎ In q ps
    at true is held kept = inr (held is)
    at false (inl is) held kept = inl is
    at false (inr is) held kept = inr (kept is)

-- a kept path that holds a path
abbrev Covers : List PathGen → PathGen → Type 0
Covers ks q = (k : PathGen) × In k ks × (holds k q ≡ true)

covers_more : (p : PathGen) (ks : List PathGen) (q : PathGen) → Covers ks q → Covers (p ∷ ks) q
covers_more p ks q (k, is, h) = (k, inr is, h)

-- each path is held by a kept one
covered : (last : PathGen) (ps : List PathGen) (q : PathGen) → In q (last ∷ ps) → Covers (last ∷ kept_after last ps) q
covered last ps q (inl is) = (last, inl refl, subst (λ x. holds last x ≡ true) (sym is) (holds_itself last))
covered last [] q (inr is) = absurd is
covered last (p ∷ ps) q (inr is) = at (holds last p) refl is (covered last ps q) (covered p ps q)
  where
    at : (b : Bool) → holds last p ≡ b → (q ≡ p) ⊎ In q ps → (In q (last ∷ ps) → Covers (last ∷ kept_after last ps) q) → (In q (p ∷ ps) → Covers (p ∷ kept_after p ps) q) → Covers (last ∷ cond b (kept_after last ps) (p ∷ kept_after p ps)) q
    at true e (inl same) held kept = (last, inl refl, subst (λ x. holds last x ≡ true) (sym same) e)
    at true e (inr there) held kept = held (inr there)
    at false e there held kept = covers_more last (p ∷ kept_after p ps) q (kept there)

-- no path after the last one is held by it, if the next one is not
not_held : (last p : PathGen) (ps : List PathGen) → Rising (last ∷ p ∷ ps) → holds last p ≡ false → (q : PathGen) → In q (p ∷ kept_after p ps) → holds last q ≡ true → ⊥
not_held last p ps rising e q is h = false≢true (sym e ∙ holds_between last p q rising.0.0 (at is) h)
  where
    at : (q ≡ p) ⊎ In q (kept_after p ps) → is_gt (path_order p q) ≡ false
    at (inl same) = ap (λ x. is_gt (path_order p x)) same ∙ ap is_gt (tied_itself path_total p)
    at (inr there) = in_all (λ x. is_gt (path_order p x) ≡ false) ps q rising.1.0 (kept_in p ps q there)

rising_without : (last p : PathGen) (ps : List PathGen) → Rising (last ∷ p ∷ ps) → Rising (last ∷ ps)
rising_without last p ps rising = (rising.0.1, rising.1.1)

-- no kept path holds another one
apart : (last : PathGen) (ps : List PathGen) → Rising (last ∷ ps) → (a b : PathGen) → In a (last ∷ kept_after last ps) → In b (last ∷ kept_after last ps) → holds a b ≡ true → a ≡ b
apart last [] rising a b (inl e) (inl f) h = e ∙ sym f
apart last [] rising a b (inl e) (inr is) h = absurd is
apart last [] rising a b (inr is) there h = absurd is
apart last (p ∷ ps) rising a b is there h = at (holds last p) refl (apart last ps (rising_without last p ps rising) a b) (apart p ps rising.1 a b) is there h
  where
    back : In a (p ∷ kept_after p ps) → is_gt (path_order last a) ≡ false
    back (inl e) = ap (λ x. is_gt (path_order last x)) e ∙ rising.0.0
    back (inr is) = in_all (λ x. is_gt (path_order last x) ≡ false) ps a rising.0.1 (kept_in p ps a is)

    at : (c : Bool) → holds last p ≡ c
        → (In a (last ∷ kept_after last ps) → In b (last ∷ kept_after last ps) → holds a b ≡ true → a ≡ b)
        → (In a (p ∷ kept_after p ps) → In b (p ∷ kept_after p ps) → holds a b ≡ true → a ≡ b)
        → In a (last ∷ cond c (kept_after last ps) (p ∷ kept_after p ps)) → In b (last ∷ cond c (kept_after last ps) (p ∷ kept_after p ps)) → holds a b ≡ true → a ≡ b
    at true e held kept is there h = held is there h
    at false e held kept (inl f) (inl g) h = f ∙ sym g
    at false e held kept (inl f) (inr there) h = absurd (not_held last p ps rising e b there (subst (λ x. holds x b ≡ true) f h))
    at false e held kept (inr is) (inl g) h = path_tied a last (holds_first a last (subst (λ x. holds a x ≡ true) g h)) (back is) ∙ sym g
    at false e held kept (inr is) (inr there) h = kept is there h

abbrev Distinct : List PathGen → Type 0
Distinct [] = ⊤
Distinct (k ∷ ks) = (In k ks → ⊥) × Distinct ks

-- each kept path is there once
kept_once : (last : PathGen) (ps : List PathGen) → Rising (last ∷ ps) → Distinct (last ∷ kept_after last ps)
kept_once last [] rising = (λ is. is, tt)
kept_once last (p ∷ ps) rising = at (holds last p) refl (kept_once last ps (rising_without last p ps rising)) (kept_once p ps rising.1)
  where
    at : (b : Bool) → holds last p ≡ b → Distinct (last ∷ kept_after last ps) → Distinct (p ∷ kept_after p ps) → Distinct (last ∷ cond b (kept_after last ps) (p ∷ kept_after p ps))
    at true e held kept = held
    at false e held kept = (λ is. not_held last p ps rising e last is (holds_itself last), kept)

-- the list without a path of it
abbrev without : (k : PathGen) (ls : List PathGen) → In k ls → List PathGen
without k [] is = []
without k (l ∷ ls) (inl is) = ls
without k (l ∷ ls) (inr is) = l ∷ without k ls is

still_in : (j k : PathGen) (ls : List PathGen) (is : In k ls) → (j ≡ k → ⊥) → In j ls → In j (without k ls is)
still_in j k [] is other there = there
still_in j k (l ∷ ls) (inl is) other (inl e) = absurd (other (e ∙ sym is))
still_in j k (l ∷ ls) (inl is) other (inr there) = there
still_in j k (l ∷ ls) (inr is) other (inl e) = inl e
still_in j k (l ∷ ls) (inr is) other (inr there) = inr (still_in j k ls is other there)

sum_without : (cost : PathGen → ℕ) (k : PathGen) (ls : List PathGen) (is : In k ls) → sum_by cost ls ≡ cost k + sum_by cost (without k ls is)
sum_without cost k [] is = absurd is
sum_without cost k (l ∷ ls) (inl is) =
    let one : sum_by cost (l ∷ ls) ≡ cost l + sum_by cost ls = sum_by-cons cost l ls in
    one ∙ ap (λ x. cost x + sum_by cost ls) (sym is)
sum_without cost k (l ∷ ls) (inr is) =
    let all : sum_by cost (l ∷ ls) ≡ cost l + sum_by cost ls = sum_by-cons cost l ls in
    let rest : sum_by cost (l ∷ without k ls is) ≡ cost l + sum_by cost (without k ls is) = sum_by-cons cost l (without k ls is) in
    omega (arith, all, rest, sum_without cost k ls is)

-- what is there once, and all in a list, costs no more than the list
sum_within : (cost : PathGen → ℕ) (ks ls : List PathGen) → Distinct ks → ((k : PathGen) → In k ks → In k ls) → sum_by cost ks ≤ sum_by cost ls
sum_within cost [] ls distinct inside = omega arith
sum_within cost (k ∷ ks) ls distinct inside =
    let is = inside k (inl refl) in
    let all : sum_by cost (k ∷ ks) ≡ cost k + sum_by cost ks = sum_by-cons cost k ks in
    let rest = sum_within cost ks (without k ls is) distinct.1 (λ j there. still_in j k ls is (λ e. distinct.0 (subst (λ x. In x ks) e there)) (inside j (inr there))) in
    omega (arith, all, rest, sum_without cost k ls is)

-- a path that holds another one and is held by it is the same
twin_same : (p q : PathGen) → (holds q p && holds p q) ≡ true → p ≡ q
twin_same p q h = let parts = and_parts (holds q p) (holds p q) h in path_tied p q (holds_first p q parts.1) (holds_first q p parts.0)

twin_in : (p : PathGen) (ps : List PathGen) → list_any (λ q. holds q p && holds p q) ps ≡ true → In p ps
twin_in p [] h = absurd (false≢true h)
twin_in p (q ∷ ps) h = either (holds q p && holds p q) (list_any (λ q. holds q p && holds p q) ps) h (λ twin. inl (twin_same p q twin)) (λ later. inr (twin_in p ps later))

in_twin : (p : PathGen) (ps : List PathGen) → In p ps → list_any (λ q. holds q p && holds p q) ps ≡ true
in_twin p [] is = absurd is
in_twin p (q ∷ ps) (inl is) =
    let itself : (holds p p && holds p p) ≡ true = and_from (holds p p) (holds p p) (holds_itself p) (holds_itself p) in
    or_left (holds q p && holds p q) (list_any (λ q. holds q p && holds p q) ps) (subst (λ x. (holds x p && holds p x) ≡ true) is itself)
in_twin p (q ∷ ps) (inr is) = or_right (holds q p && holds p q) (list_any (λ q. holds q p && holds p q) ps) (in_twin p ps is)

in_once : (k : PathGen) (ps : List PathGen) → In k ps → In k (once ps)
in_once k [] is = is
in_once k (p ∷ ps) is = at (list_any (λ q. holds q p && holds p q) ps) refl (in_once k ps) is
  where
    at : (b : Bool) → list_any (λ q. holds q p && holds p q) ps ≡ b → (In k ps → In k (once ps)) → (k ≡ p) ⊎ In k ps → In k (cond b (once ps) (p ∷ once ps))
    at true e rest (inl is) = rest (subst (λ x. In x ps) (sym is) (twin_in p ps e))
    at true e rest (inr is) = rest is
    at false e rest (inl is) = inl is
    at false e rest (inr is) = inr (rest is)

in_filter : (test : PathGen → Bool) (k : PathGen) (ps : List PathGen) → In k ps → test k ≡ true → In k (filter test ps)
in_filter test k [] is h = is
in_filter test k (p ∷ ps) is h = at (test p) refl is (λ there. in_filter test k ps there h)
  where
    at : (b : Bool) → test p ≡ b → (k ≡ p) ⊎ In k ps → (In k ps → In k (filter test ps)) → In k (cond b (p ∷ filter test ps) (filter test ps))
    at true e (inl is) rest = inl is
    at true e (inr is) rest = inr (rest is)
    at false e (inl is) rest = absurd (false≢true (sym e ∙ ap test (sym is) ∙ h))
    at false e (inr is) rest = rest is

-- what is held only by what it holds is not held
none_holds : (k : PathGen) (ps : List PathGen) → ((q : PathGen) → In q ps → holds q k ≡ true → holds k q ≡ true) → is_held ps k ≡ false
none_holds k [] h = refl
none_holds k (q ∷ ps) h = at (holds q k) (holds k q) (h q (inl refl)) (none_holds k ps (λ x is. h x (inr is)))
  where
    at : (a b : Bool) → (a ≡ true → b ≡ true) → is_held ps k ≡ false → ((a && not b) || is_held ps k) ≡ false
    at true true f rest = rest
    at true false f rest = absurd (false≢true (f refl))
    at false b f rest = rest

module _ (paths : List PathGen) (first : PathGen) (later : List PathGen) (moved : IsPermutation paths (first ∷ later)) (sorted : IsSortedBy (λ p q. is_lt (path_order p q)) (first ∷ later)) where
  rising : Rising (first ∷ later)
  rising = rising_from (first ∷ later) sorted

  kept_is_outer : (k : PathGen) → In k (first ∷ kept_after first later) → In k (outer paths)
  kept_is_outer k is = in_filter (λ p. not (is_held paths p)) k (once paths) (in_once k paths there) (ap not none)
    where
      inside : In k (first ∷ kept_after first later) → In k (first ∷ later)
      inside (inl e) = inl e
      inside (inr there) = inr (kept_in first later k there)

      there : In k paths
      there = twin_in k paths (list_any-IsPermutation (λ q. holds q k && holds k q) paths (first ∷ later) moved ∙ in_twin k (first ∷ later) (inside is))

      by : (q : PathGen) → holds q k ≡ true → Covers (first ∷ kept_after first later) q → holds k q ≡ true
      by q h (j, j_in, j_holds) =
          let same = apart first later rising j k j_in is (holds_on j q k j_holds h) in
          subst (λ x. holds x q ≡ true) same j_holds

      none : is_held paths k ≡ false
      none = list_any-IsPermutation (λ q. holds q k && not (holds k q)) paths (first ∷ later) moved ∙ none_holds k (first ∷ later) (λ q q_in h. by q h (covered first later q q_in))

  -- the kept paths cost no more than those that no other one holds
  pub kept_few : (cost : PathGen → ℕ) → sum_by cost (first ∷ kept_after first later) ≤ sum_by cost (outer paths)
  kept_few cost = sum_within cost (first ∷ kept_after first later) (outer paths) (kept_once first later rising) kept_is_outer

-- the same for a list that has the paths
module _ {A : Type 0} (f : A → PathGen) (paths : List PathGen) (ys kept : List A) (moved : IsPermutation paths (map f ys)) where
  pub none_found : kept ≡ [] → length ys ≡ 0 → (r : RecordData) → is_on_path (map f kept) r ≡ is_on_path paths r
  none_found is none r = ap (λ l. is_on_path (map f l) r) is ∙ at ys none ∙ sym (list_any-IsPermutation (λ p. is_itself p r || is_under p r) paths (map f ys) moved)
    where
      at : (l : List A) → length l ≡ 0 → false ≡ is_on_path (map f l) r
      at [] e = refl
      at (x ∷ l) e = absurd (omega (arith, e))

  module _ (x : A) (later : List A) (all : ys ≡ x ∷ later) (made : map f kept ≡ f x ∷ kept_after (f x) (map f later)) where
    moved_all : IsPermutation paths (f x ∷ map f later)
    moved_all = subst (λ l. IsPermutation paths (map f l)) all moved

    pub all_few : IsSortedBy (λ p q. is_lt (path_order p q)) (map f ys) → (cost : PathGen → ℕ) → sum_by cost (map f kept) ≤ sum_by cost (outer paths)
    all_few sorted cost =
        let rise : IsSortedBy (λ p q. is_lt (path_order p q)) (f x ∷ map f later) = subst (λ l. IsSortedBy (λ p q. is_lt (path_order p q)) (map f l)) all sorted in
        subst (λ l. sum_by cost l ≤ sum_by cost (outer paths)) (sym made) (kept_few paths (f x) (map f later) moved_all rise cost)

    pub all_found : (r : RecordData) → is_on_path (map f kept) r ≡ is_on_path paths r
    all_found r = ap (λ l. is_on_path l r) made ∙ kept_given r (f x) (map f later) ∙ sym (list_any-IsPermutation (λ p. is_itself p r || is_under p r) paths (f x ∷ map f later) moved_all)

-- at the end of the loop
pub ends : {A : Type 0} (f : A → PathGen) (kept later : List A) (last : PathGen) (i : ℕ) (all : List PathGen) → length later ≤ i → map f kept ++ kept_after last (map f (drop i later)) ≡ all → map f kept ≡ all
ends f kept later last i all h is =
    sym (append-nil (map f kept)) ∙ ap (λ l. map f kept ++ kept_after last (map f l)) (sym (drop_all i later h)) ∙ is
