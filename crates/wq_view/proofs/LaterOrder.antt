-- The records that a later pass than the first saw change, in the order of last change and rising.
use Rattle.std.proofs.Common.{◌≡◌, ℕ, zero, suc, ◌+◌, ◌-◌, ◌<◌, ◌≤◌, Bool, true, false, not, ◌==◌, if◌then◌else◌, cond, leb, get_or, List, [], ◌∷◌, ◌++◌, map, length, slice_get, Some, None, refl, sym, ap, subst, ◌∙◌, ◌⊎◌, inl, inr, arith, append-nil}
use Rattle.std.specs.List.{filter, All, AllZip, AllByRecursion, range_with_len}
use Rattle.std.proofs.lemmas.Bool.Decides.{leb_tells}
use Rattle.std.proofs.lemmas.List.{length-map, map-append}
use Rattle.std.proofs.lemmas.List.FromFn.{get_or-map-range_with_len, length-map-range_with_len}
use Rattle.std.proofs.lemmas.List.Elements.{All-append, filter-append}
use Rattle.std.proofs.lemmas.Option.{slice_get_past, slice_get-get_or}
use Rattle.wq_base.proofs.Facts.{all_so}
use Rattle.wq_record.specs.RecordData.{RecordData}
use Rattle.wq_view.specs.Order.{OrderParts, IsOrderOf, Rises, is_later, newer, newest_first, nth_outside, outside, positions, positions_in, ticks_of}
use Rattle.wq_view.proofs.Newest.{eq_same, eq_apart, is_left, Moves, length-positions, positions_within, same_bucket}
use Rattle.wq_view.proofs.Growing.{is_known, grown_bucket}
use Rattle.wq_view.proofs.NewestLaw.{newest_is_split}
use Rattle.wq_view.proofs.Outside.{nth_other, positions_rise}

-- the positions after a tick, through the places of the known
pub grown_newer : (more since : ℕ) (xs : List ℕ) → newer more since xs ≡ map (λ p. get_or (positions is_known xs) p 0) (newer more since (filter is_known xs))
grown_newer zero since xs = refl
grown_newer (suc more) since xs =
    let place : ℕ → ℕ = λ p. get_or (positions is_known xs) p 0 in
    let front = positions (λ k. k == suc (more + since)) (filter is_known xs) in
    ap (λ l. l ++ newer more since xs) (grown_bucket (suc (more + since)) (omega arith) xs)
    ∙ ap (λ l. map place front ++ l) (grown_newer more since xs)
    ∙ sym (map-append place front (newer more since (filter is_known xs)))

-- those of before a pass that did not change
pub left_newer : (t more since : ℕ) → more + since ≤ t → (before after : List ℕ) → AllZip (Moves t) before after → newer more since after ≡ filter (is_left (suc t) after) (newer more since before)
left_newer t zero since h before after all = refl
left_newer t (suc more) since h before after all =
    let bucket = positions (λ k. k == suc (more + since)) before in
    ap (λ l. l ++ newer more since after) (same_bucket t (suc (more + since)) (omega (arith, h)) before after all)
    ∙ ap (λ l. filter (is_left (suc t) after) bucket ++ l) (left_newer t more since (omega (arith, h)) before after all)
    ∙ sym (filter-append (is_left (suc t) after) bucket (newer more since before))

pub newer_within : (more since : ℕ) (ticks : List ℕ) → All (λ p. p < length ticks) (newer more since ticks)
newer_within zero since ticks = λ k d h. absurd (omega (arith, h))
newer_within (suc more) since ticks = All-append (λ p. p < length ticks) (positions (λ n. n == suc (more + since)) ticks) (newer more since ticks) (positions_within (λ n. n == suc (more + since)) ticks) (newer_within more since ticks)

-- nothing changed later than at the first pass, if that was the last one
pub none_later : (ticks : List ℕ) → AllByRecursion (λ n. (1 ≤ n) × (n ≤ 1)) ticks → positions is_later ticks ≡ []
none_later [] all = refl
none_later (n ∷ ticks) all = at (leb_tells 2 n) (none_later ticks all.1)
  where
    at : ((leb 2 n ≡ true) × (2 ≤ n)) ⊎ ((leb 2 n ≡ false) × (n < 2)) → positions is_later ticks ≡ [] → positions is_later (n ∷ ticks) ≡ []
    at (inl h) rest = absurd (omega (arith, h.1, all.0.1))
    at (inr h) rest = rw h.0 (ap (map suc) rest)

-- what is read behind a list is read of the list after it
read_second : (xs ys : List ℕ) (k : ℕ) → length xs ≤ k → slice_get (xs ++ ys) k ≡ slice_get ys (k - length xs)
read_second [] ys k h =
    let same : k ≡ k - 0 = omega arith in
    ap (slice_get ys) same
read_second (x ∷ xs) ys zero h = absurd (omega (arith, h))
read_second (x ∷ xs) ys (suc k) h =
    let same : k - length xs ≡ suc k - suc (length xs) = omega arith in
    read_second xs ys k (omega (arith, h)) ∙ ap (slice_get ys) same

count_outside : (rising : List ℕ) (count : ℕ) → length (outside rising count) ≡ count - length rising
count_outside rising count = length-map-range_with_len (nth_outside rising) 0 (count - length rising)

-- what an order says at a place behind its list
pub read_outside : (order : OrderParts) (k : ℕ) → length order.later ≤ k → k - length order.later < order.count - length order.rising → slice_get (positions_in order) k ≡ Some (nth_outside order.rising (k - length order.later))
read_outside order k h lt =
    let place = k - length order.later in
    let others = outside order.rising order.count in
    let same : 0 + place ≡ place = omega arith in
    read_second order.later others k h
    ∙ slice_get-get_or others place 0 (omega (arith, lt, count_outside order.rising order.count))
    ∙ ap Some (get_or-map-range_with_len (nth_outside order.rising) 0 (order.count - length order.rising) place place 0 lt same)

pub read_none : (order : OrderParts) (k : ℕ) → length order.later ≤ k → order.count - length order.rising ≤ k - length order.later → slice_get (positions_in order) k ≡ None
read_none order k h le =
    read_second order.later (outside order.rising order.count) k h
    ∙ slice_get_past (outside order.rising order.count) (k - length order.later) (omega (arith, le, count_outside order.rising order.count))

listed : (f : ℕ → ℕ) (qs : List ℕ) (a : ℕ) → ((j : ℕ) → j < length qs → f (a + j) ≡ get_or qs j 0) → map f (range_with_len a (length qs)) ≡ qs
listed f [] a same = refl
listed f (q ∷ qs) a same =
    let here : a ≡ a + 0 = omega arith in
    ap (λ n. n ∷ map f (range_with_len (a + 1) (length qs))) (ap f here ∙ same 0 (omega arith))
    ∙ ap (λ l. q ∷ l) (listed f qs (a + 1) (λ j h. let next : (a + 1) + j ≡ a + suc j = omega arith in ap f next ∙ same (suc j) (omega (arith, h))))

module _ {X : Type 0} (test : X → Bool) where
  both_counts : (xs : List X) → length (positions test xs) + length (positions (λ x. not (test x)) xs) ≡ length xs
  both_counts [] = refl
  both_counts (x ∷ xs) = omega (arith, length-positions test x xs, length-positions (λ x. not (test x)) x xs, one (test x), both_counts xs)
    where
      one : (b : Bool) → cond b 1 0 + cond (not b) 1 0 ≡ 1
      one true = refl
      one false = refl

  -- the positions outside those of the items that pass a test are those of the others
  outside_is : (xs : List X) (count : ℕ) → count ≡ length xs → outside (positions test xs) count ≡ positions (λ x. not (test x)) xs
  outside_is xs count e =
      let qs = positions (λ x. not (test x)) xs in
      let left : count - length (positions test xs) ≡ length qs = omega (arith, e, both_counts xs) in
      ap (λ n. map (nth_outside (positions test xs)) (range_with_len 0 n)) left
      ∙ listed (nth_outside (positions test xs)) qs 0 (λ j h. let same : 0 + j ≡ j = omega arith in ap (nth_outside (positions test xs)) same ∙ nth_other test xs j h)

pub positions_alike : (p q : ℕ → Bool) (xs : List ℕ) → AllByRecursion (λ n. p n ≡ q n) xs → positions p xs ≡ positions q xs
positions_alike p q [] all = refl
positions_alike p q (x ∷ xs) all = rw all.0 (ap (λ l. if q x then 0 ∷ map suc l else map suc l) (positions_alike p q xs all.1))

-- no position has tick 0
none_new : (xs : List ℕ) → AllByRecursion (λ n. 1 ≤ n) xs → positions (λ n. n == 0) xs ≡ []
none_new [] all = refl
none_new (x ∷ xs) all =
    let no : (x == 0) ≡ false = eq_apart x 0 (λ e. omega (arith, e, all.0)) in
    rw no (ap (map suc) (none_new xs all.1))

first_ones : (n : ℕ) → 1 ≤ n → not (is_later n) ≡ (n == 1)
first_ones n h = at (leb_tells 2 n)
  where
    at : ((leb 2 n ≡ true) × (2 ≤ n)) ⊎ ((leb 2 n ≡ false) × (n < 2)) → not (leb 2 n) ≡ (n == 1)
    at (inl g) = ap not g.0 ∙ sym (eq_apart n 1 (λ e. omega (arith, e, g.1)))
    at (inr g) =
        let one : n ≡ 1 = omega (arith, h, g.1) in
        ap not g.0 ∙ sym (ap (λ k. k == 1) one ∙ eq_same 1)

-- what changed at the first tick is what did not change later
others_are : (ticks : List ℕ) → AllByRecursion (λ n. 1 ≤ n) ticks → positions (λ n. not (is_later n)) ticks ≡ newest_first 1 ticks
others_are ticks all =
    positions_alike (λ n. not (is_later n)) (λ n. n == 1) ticks (all_so (λ n. 1 ≤ n) (λ n. not (is_later n) ≡ (n == 1)) first_ones ticks all)
    ∙ sym (append-nil (positions (λ n. n == 1) ticks))
    ∙ ap (λ l. positions (λ n. n == 1) ticks ++ l) (sym (none_new ticks all))

newer_empty : (more : ℕ) → newer more 1 [] ≡ []
newer_empty zero = refl
newer_empty (suc more) = newer_empty more

parts_are : (t : ℕ) (ticks : List ℕ) → AllByRecursion (λ n. (1 ≤ n) × (n ≤ t)) ticks → newer (t - 1) 1 ticks ++ newest_first 1 ticks ≡ newest_first t ticks
parts_are zero [] all = ap (λ l. l ++ []) (newer_empty (0 - 1))
parts_are zero (x ∷ ticks) all = absurd (omega (arith, all.0.0, all.0.1))
parts_are (suc t) ticks all =
    let before : suc t - 1 ≡ t = omega arith in
    let next : suc t ≡ t + 1 = omega arith in
    ap (λ n. newer n 1 ticks ++ newest_first 1 ticks) before ∙ sym (newest_is_split t 1 (suc t) ticks next).0

-- the positions of an order are those of the order of last change
pub order_is_newest : (t : ℕ) (rs : List RecordData) (order : OrderParts) → IsOrderOf t rs order → positions_in order ≡ newest_first t (ticks_of rs)
order_is_newest t rs order is =
    let ticks = ticks_of rs in
    ap (λ l. l ++ outside order.rising order.count) is.later
    ∙ ap (λ l. newer (t - 1) 1 ticks ++ outside l order.count) is.rising
    ∙ ap (λ l. newer (t - 1) 1 ticks ++ l) (outside_is is_later ticks order.count (is.count ∙ sym (length-map rs (λ (r : RecordData). r.otick))) ∙ others_are ticks (all_so (λ n. (1 ≤ n) × (n ≤ t)) (λ n. 1 ≤ n) (λ n h. h.0) ticks is.known))
    ∙ parts_are t ticks is.known

pub order_rises : (t : ℕ) (rs : List RecordData) (order : OrderParts) → IsOrderOf t rs order → Rises order.rising
order_rises t rs order is = subst Rises (sym is.rising) (positions_rise is_later (ticks_of rs))
