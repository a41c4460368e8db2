-- The results of lists of uses of cursors.
use Rattle.std.proofs.Common.{◌≡◌, ℕ, Bool, true, false, ◌||◌, cond, max, List, [], ◌∷◌, ◌++◌, Option, None, Some, refl, sym, ap, subst, ◌∙◌, arith}
use Rattle.std.specs.List.{list_any}
use Rattle.std.specs.Str.{bytes_eq}
use Rattle.std.proofs.lemmas.Bool.Decides.{nat_tests}
use Rattle.wq_registry.specs.ByName.{ByName, under, put, without}
use Rattle.wq_registry.specs.Root.{larger}
use Rattle.wq_registry.specs.Use.{Use, at_tick, unsetting, used_by, used, unsets, tick_given, given_since, greatest_tick, TheGreatestTickCounts}
use Rattle.wq_registry.proofs.Changes.{Once, same_text, put-same, put-other, without-same, without-other, once-put, once-without}

-- the larger of two ticks is their maximum
larger_is_max : (a t : ℕ) → larger (Some a) t ≡ max a t
larger_is_max a t = grind (arith, nat_tests)

-- a tick that was there, and the greatest of those that came
abbrev both : Option ℕ → Option ℕ → Option ℕ
both o None = o
both None (Some m) = Some m
both (Some a) (Some m) = Some (max a m)

-- a tick that comes first may as well be counted with the others
first_or_last : (o g : Option ℕ) (t : ℕ) → both (Some (larger o t)) g ≡ both o (Some (larger g t))
first_or_last None None t = refl
first_or_last None (Some m) t = ap Some (max_turned t m ∙ sym (larger_is_max m t))
  where
    max_turned : (t m : ℕ) → max t m ≡ max m t
    max_turned t m = omega arith
first_or_last (Some a) None t = ap Some (larger_is_max a t)
first_or_last (Some a) (Some m) t = ap Some (ap (λ n. max n m) (larger_is_max a t) ∙ turned a t m ∙ ap (max a) (sym (larger_is_max m t)))
  where
    turned : (a t m : ℕ) → max (max a t) m ≡ max a (max m t)
    turned a t m = omega arith

-- uses leave each name once
once-used : (u : Use) (xs : ByName ℕ) → Once xs → Once (used_by u xs)
once-used (at_tick name tick) xs h = once-put name (larger (under name xs) tick) xs h
once-used (unsetting name) xs h = once-without name xs h

-- one use, if none of the later ones unsets the cursor
step : (name : List ℕ) (u : Use) (xs : ByName ℕ) (ticks : List ℕ) → Once xs → both (under name (used_by u xs)) (greatest_tick ticks) ≡ both (cond (unsets name u) None (under name xs)) (greatest_tick (tick_given name u ++ ticks))
step name (at_tick n tick) xs ticks h = by (bytes_eq name n) refl
  where
    by : (b : Bool) → bytes_eq name n ≡ b → both (under name (put n (larger (under n xs) tick) xs)) (greatest_tick ticks) ≡ both (under name xs) (greatest_tick (cond b (tick ∷ []) [] ++ ticks))
    by true same =
        let e = same_text name n same in
        ap (λ o. both o (greatest_tick ticks)) (subst (λ m. under m (put n (larger (under n xs) tick) xs) ≡ Some (larger (under m xs) tick)) (sym e) (put-same n (larger (under n xs) tick) xs))
        ∙ first_or_last (under name xs) (greatest_tick ticks) tick
    by false differs = ap (λ o. both o (greatest_tick ticks)) (put-other name n (larger (under n xs) tick) xs differs)
step name (unsetting n) xs ticks h = by (bytes_eq name n) refl
  where
    by : (b : Bool) → bytes_eq name n ≡ b → both (under name (without n xs)) (greatest_tick ticks) ≡ both (cond b None (under name xs)) (greatest_tick ticks)
    by true same = ap (λ o. both o (greatest_tick ticks)) (subst (λ m. under m (without n xs) ≡ None) (sym (same_text name n same)) (without-same n xs h))
    by false differs = ap (λ o. both o (greatest_tick ticks)) (without-other name n xs differs)

-- after uses a cursor has the greatest tick, counted with the one that it had
under-used : (name : List ℕ) (us : List Use) (xs : ByName ℕ) → Once xs → under name (used us xs) ≡ both (cond (list_any (unsets name) us) None (under name xs)) (greatest_tick (given_since name us))
under-used name [] xs h = refl
under-used name (u ∷ us) xs h = under-used name us (used_by u xs) (once-used u xs h) ∙ by (list_any (unsets name) us)
  where
    later : (b : Bool) → cond (b || true) None (under name xs) ≡ None
    later true = refl
    later false = refl

    alone : (b : Bool) → cond (b || false) None (under name xs) ≡ cond b None (under name xs)
    alone true = refl
    alone false = refl

    by : (b : Bool) → both (cond b None (under name (used_by u xs))) (greatest_tick (given_since name us)) ≡ both (cond (unsets name u || b) None (under name xs)) (greatest_tick (cond b (given_since name us) (tick_given name u ++ given_since name us)))
    by true = ap (λ o. both o (greatest_tick (given_since name us))) (sym (later (unsets name u)))
    by false =
        step name u xs (given_since name us) h
        ∙ ap (λ o. both o (greatest_tick (tick_given name u ++ given_since name us))) (sym (alone (unsets name u)))

-- with no tick before, those that came count
nothing_before : (o : Option ℕ) → both None o ≡ o
nothing_before None = refl
nothing_before (Some m) = refl

-- nothing is nothing
none_either_way : (b : Bool) → cond {A = Option ℕ} b None None ≡ None
none_either_way true = refl
none_either_way false = refl

-- the law of ticks
pub the_greatest_tick_counts : TheGreatestTickCounts
the_greatest_tick_counts uses name =
    under-used name uses [] tt
    ∙ ap (λ o. both o (greatest_tick (given_since name uses))) (none_either_way (list_any (unsets name) uses))
    ∙ nothing_before (greatest_tick (given_since name uses))
