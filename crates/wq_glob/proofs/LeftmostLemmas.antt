-- A pattern that is tried from left to right.
use Rattle.std.proofs.Common.{◌≡◌, ℕ, zero, suc, ◌+◌, ◌-◌, ◌<◌, ◌≤◌, Bool, true, false, not, ◌&&◌, ◌||◌, ◌==◌, ◌⊎◌, List, [], ◌∷◌, length, drop, get_or, refl, sym, ◌∙◌, ap, subst, inl, inr, arith}
use Rattle.std.proofs.lemmas.Bool.{cases_eq, cases_lt, and_parts, and_from, and_left, or_cases, or_left, or_right, or_from, false≢true, true≢false}
use Rattle.std.proofs.lemmas.List.{drop-drop, drop_more}
use Rattle.std.specs.List.{list_all}
use Rattle.std.specs.Cmp.{both_ways}
use Rattle.wq_base.specs.Byte.{is_slash}
use Rattle.wq_glob.specs.Byte.{lower_if}
use Rattle.wq_glob.specs.Mark.{Mark}
use Rattle.wq_glob.specs.Fits.{has_no_hidden_dot, is_wild}
use Rattle.wq_glob.specs.FitsTest.{Reach, Single, Many, Directories, directories, many, part_of}
use Rattle.wq_glob.specs.Step.{step_admits, step_reach}
use Rattle.wq_glob.specs.Cell.{marks_of, marks_at, mark_at, may_be_empty, step_fits}
use Rattle.wq_glob.specs.Leftmost.{AreTaken, HasNoName, IsKeptOff, IsNextName, IsSettled, are_shown, begins_below, begins_stars, begins_tail, first_takes, fits_from, single_takes}
use Rattle.wq_glob.proofs.MarkLemmas.{marks_step, length-marks_from}
use Rattle.wq_glob.proofs.RowLemmas.{drop_all}
use Rattle.wq_glob.specs.declared.rules.Rules.{Rules}
use Rattle.wq_glob.specs.declared.step.Step.{Step}
use Rattle.wq_glob.specs.declared.step.Step.TheVariants.{Byte, AnyByte, Set, Stars, Below, Tail, Never}

pub and_is : (a b : Bool) → a ≡ true → (a && b) ≡ b
and_is true b is = refl
and_is false b is = absurd (false≢true is)

goes_over : (a b c : Bool) → a ≡ false → b ≡ true → (a || (b && c)) ≡ c
goes_over true b c none is = absurd (true≢false none)
goes_over false b c none is = and_is b c is

stays : (a b c : Bool) → a ≡ false → b ≡ false → (a || (b && c)) ≡ false
stays true b c none is = absurd (true≢false none)
stays false b c none is = and_left b c is

-- a part of one byte, against a text with a first byte
part_cons : (r : Reach) (test : Mark → Bool) (fit : List Mark → Bool) (x : Mark) (t : List Mark) → (not (may_be_empty r) && test x) ≡ true → part_of r test fit (x ∷ t) ≡ fit t
part_cons Single test fit x t is = and_is (test x) (fit t) is
part_cons Many test fit x t is = absurd (false≢true is)
part_cons Directories test fit x t is = absurd (false≢true is)

part_rest : (r : Reach) (test : Mark → Bool) (fit : List Mark → Bool) (t : List Mark) → not (may_be_empty r) ≡ true → part_of r test fit t ≡ true → fit (drop 1 t) ≡ true
part_rest Single test fit [] one h = absurd (false≢true h)
part_rest Single test fit (x ∷ t) one h = (and_parts (test x) (fit t) h).1
part_rest Many test fit t one h = absurd (false≢true one)
part_rest Directories test fit t one h = absurd (false≢true one)

part_none : (r : Reach) (test : Mark → Bool) (fit : List Mark → Bool) (x : Mark) (t : List Mark) → not (may_be_empty r) ≡ true → (not (may_be_empty r) && test x) ≡ false → part_of r test fit (x ∷ t) ≡ false
part_none Single test fit x t one is = and_left (test x) (fit t) is
part_none Many test fit x t one is = absurd (false≢true one)
part_none Directories test fit x t one is = absurd (false≢true one)

part_end : (r : Reach) (test : Mark → Bool) (fit : List Mark → Bool) → not (may_be_empty r) ≡ true → part_of r test fit [] ≡ false
part_end Single test fit one = refl
part_end Many test fit one = absurd (false≢true one)
part_end Directories test fit one = absurd (false≢true one)

-- a step of one byte that does not take the first fits nothing
single_none : (f : Rules) (s : Step) (later : List Step) (t : List Mark) → not (may_be_empty (step_reach s)) ≡ true → first_takes f (s ∷ later) t ≡ false → step_fits f (s ∷ later) t ≡ false
single_none f s later [] one is = part_end (step_reach s) (step_admits f s) (step_fits f later) one
single_none f s later (x ∷ t) one is = part_none (step_reach s) (step_admits f s) (step_fits f later) x t one is

-- and one that fits takes the first
part_some : (r : Reach) (test : Mark → Bool) (fit : List Mark → Bool) (x : Mark) (t : List Mark) → not (may_be_empty r) ≡ true → part_of r test fit (x ∷ t) ≡ true → (not (may_be_empty r) && test x) ≡ true
part_some Single test fit x t one h = (and_parts (test x) (fit t) h).0
part_some Many test fit x t one h = absurd (false≢true one)
part_some Directories test fit x t one h = absurd (false≢true one)

single_some : (f : Rules) (s : Step) (later : List Step) (t : List Mark) → not (may_be_empty (step_reach s)) ≡ true → step_fits f (s ∷ later) t ≡ true → first_takes f (s ∷ later) t ≡ true
single_some f s later [] one h = absurd (false≢true (sym (part_end (step_reach s) (step_admits f s) (step_fits f later) one) ∙ h))
single_some f s later (x ∷ t) one h = part_some (step_reach s) (step_admits f s) (step_fits f later) x t one h

-- `*` takes nothing, or one byte more
many_here : (test : Mark → Bool) (fit : List Mark → Bool) (t : List Mark) → fit t ≡ true → many test fit t ≡ true
many_here test fit [] h = h
many_here test fit (x ∷ t) h = or_left _ _ h

-- steps that begin with `*` are `*` and the later ones
stars_first : (l : List Step) → begins_stars l ≡ true → l ≡ Stars ∷ drop 1 l
stars_first [] is = absurd (false≢true is)
stars_first (Byte b ∷ later) is = absurd (false≢true is)
stars_first (AnyByte ∷ later) is = absurd (false≢true is)
stars_first (Set set ∷ later) is = absurd (false≢true is)
stars_first (Stars ∷ later) is = refl
stars_first (Below ∷ later) is = absurd (false≢true is)
stars_first (Tail ∷ later) is = absurd (false≢true is)
stars_first (Never ∷ later) is = absurd (false≢true is)

-- steps that begin with `**/` are `**/` and the later ones
below_first : (l : List Step) → begins_below l ≡ true → l ≡ Below ∷ drop 1 l
below_first [] is = absurd (false≢true is)
below_first (Byte b ∷ later) is = absurd (false≢true is)
below_first (AnyByte ∷ later) is = absurd (false≢true is)
below_first (Set set ∷ later) is = absurd (false≢true is)
below_first (Stars ∷ later) is = absurd (false≢true is)
below_first (Below ∷ later) is = refl
below_first (Tail ∷ later) is = absurd (false≢true is)
below_first (Never ∷ later) is = absurd (false≢true is)

-- steps that begin with a last `**` are that and the later ones
tail_first : (l : List Step) → begins_tail l ≡ true → l ≡ Tail ∷ drop 1 l
tail_first [] is = absurd (false≢true is)
tail_first (Byte b ∷ later) is = absurd (false≢true is)
tail_first (AnyByte ∷ later) is = absurd (false≢true is)
tail_first (Set set ∷ later) is = absurd (false≢true is)
tail_first (Stars ∷ later) is = absurd (false≢true is)
tail_first (Below ∷ later) is = absurd (false≢true is)
tail_first (Tail ∷ later) is = refl
tail_first (Never ∷ later) is = absurd (false≢true is)

-- a last `**` takes all that is left
takes_all : (f : Rules) (t : List Mark) → list_all has_no_hidden_dot t ≡ true → step_fits f (Tail ∷ []) t ≡ true
takes_all f [] all = refl
takes_all f (x ∷ t) all =
    let parts = and_parts (has_no_hidden_dot x) (list_all has_no_hidden_dot t) all in
    and_from _ _ parts.0 (takes_all f t parts.1)

module _ (f : Rules) (steps : List Step) (text : List ℕ) where
  -- after the text there are no marks
  pub marks_past : (at : ℕ) → length text ≤ at → marks_at f text at ≡ []
  marks_past at past =
      let e : length (marks_of f text) ≤ at = omega (arith, length-marks_from f.flags.dotfiles true text) in
      drop_all (marks_of f text) at e

  -- whether the step at a place takes the byte at another
  pub first_here : (k at : ℕ) (d : Step) → k < length steps → at < length text → single_takes f (get_or steps k d) (mark_at f text at) ≡ first_takes f (drop k steps) (marks_at f text at)
  first_here k at d within inside =
      sym
      (ap (λ (l : List Step). first_takes f l (marks_at f text at)) (drop_more steps k d within)
      ∙ ap (first_takes f (get_or steps k d ∷ drop (k + 1) steps)) (marks_step f text at inside))

  -- no step is left, or no byte
  pub first_past : (k at : ℕ) → length steps ≤ k → false ≡ first_takes f (drop k steps) (marks_at f text at)
  first_past k at past = sym (ap (λ (l : List Step). first_takes f l (marks_at f text at)) (drop_all steps k past))

  pub first_end : (k at : ℕ) → length text ≤ at → false ≡ first_takes f (drop k steps) (marks_at f text at)
  first_end k at past = sym (ap (first_takes f (drop k steps)) (marks_past at past) ∙ nothing (drop k steps))
    where
      nothing : (l : List Step) → first_takes f l [] ≡ false
      nothing [] = refl
      nothing (s ∷ later) = refl

  -- a step that takes one byte leaves the answer to the rest
  takes_more : (k at : ℕ) → first_takes f (drop k steps) (marks_at f text at) ≡ true → k < length steps → at < length text → fits_from f steps text k at ≡ fits_from f steps text (k + 1) (at + 1)
  takes_more k at is within inside =
      let s : Step = get_or steps k Never in
      ap (λ (l : List Step). step_fits f l (marks_at f text at)) (drop_more steps k Never within)
      ∙ ap (step_fits f (s ∷ drop (k + 1) steps)) (marks_step f text at inside)
      ∙ part_cons (step_reach s) (step_admits f s) (step_fits f (drop (k + 1) steps)) (mark_at f text at) (marks_at f text (at + 1))
      (first_here k at Never within inside ∙ is)

  -- it takes one byte
  is_single : (k at : ℕ) → first_takes f (drop k steps) (marks_at f text at) ≡ true → k < length steps → at < length text → not (may_be_empty (step_reach (get_or steps k Never))) ≡ true
  is_single k at is within inside =
      (and_parts (not (may_be_empty (step_reach (get_or steps k Never)))) (step_admits f (get_or steps k Never) (mark_at f text at)) (first_here k at Never within inside ∙ is)).0

  tail_fits : (k j : ℕ) → k < length steps → fits_from f steps text k j ≡ true → step_fits f (get_or steps k Never ∷ drop (k + 1) steps) (marks_at f text j) ≡ true
  tail_fits k j within h = subst (λ (l : List Step). step_fits f l (marks_at f text j) ≡ true) (drop_more steps k Never within) h

  -- and at each place at which the steps from it on fit, the rest fits at the next
  rest_more : (k at j : ℕ) → first_takes f (drop k steps) (marks_at f text at) ≡ true → k < length steps → at < length text → fits_from f steps text k j ≡ true → fits_from f steps text (k + 1) (j + 1) ≡ true
  rest_more k at j is within inside h =
      let s : Step = get_or steps k Never in
      subst (λ (t : List Mark). step_fits f (drop (k + 1) steps) t ≡ true) (drop-drop 1 j (marks_of f text))
      (part_rest (step_reach s) (step_admits f s) (step_fits f (drop (k + 1) steps)) (marks_at f text j) (is_single k at is within inside) (tail_fits k j within h))

  -- and it takes the byte there
  takes_there : (k at j : ℕ) → first_takes f (drop k steps) (marks_at f text at) ≡ true → k < length steps → at < length text → fits_from f steps text k j ≡ true → first_takes f (drop k steps) (marks_at f text j) ≡ true
  takes_there k at j is within inside h =
      subst (λ (l : List Step). first_takes f l (marks_at f text j) ≡ true) (sym (drop_more steps k Never within))
      (single_some f (get_or steps k Never) (drop (k + 1) steps) (marks_at f text j) (is_single k at is within inside) (tail_fits k j within h))

  moved : (k j i n : ℕ) → i ≡ n → fits_from f steps text (k + i) (j + i) ≡ fits_from f steps text (k + n) (j + n)
  moved k j i n same = ap (λ (m : ℕ). fits_from f steps text (k + m) (j + m)) same

  -- one step more
  pub taken_more : (k at n : ℕ) → AreTaken f steps text k at n → first_takes f (drop (k + n) steps) (marks_at f text (at + n)) ≡ true → k + n < length steps → at + n < length text → AreTaken f steps text k at (n + 1)
  taken_more k at n was is within inside =
      let next : (j : ℕ) → fits_from f steps text (k + n + 1) (j + n + 1) ≡ fits_from f steps text (k + (n + 1)) (j + (n + 1)) =
      λ j. let e : k + n + 1 ≡ k + (n + 1) = omega arith in let i : j + n + 1 ≡ j + (n + 1) = omega arith in ap (λ (m : ℕ). fits_from f steps text m (j + n + 1)) e ∙ ap (fits_from f steps text (k + (n + 1))) i in
      record {
        enough_steps = omega arith;
        enough_text = omega arith;
        same = was.same ∙ takes_more (k + n) (at + n) is within inside ∙ next at;
        later = λ i j few h. elim (cases_eq i (n + 1)) [
          | inl last ↦ moved k j i (n + 1) last ∙ sym (next j) ∙ rest_more (k + n) (at + n) (j + n) is within inside (was.later n j (omega arith) h)
          | inr other ↦ was.later i j (omega arith) h
        ];
        takes = λ i j few h. elim (cases_eq i n) [
          | inl last ↦
              subst (λ (m : ℕ). first_takes f (drop (k + m) steps) (marks_at f text (j + m)) ≡ true) (sym last)
              (takes_there (k + n) (at + n) (j + n) is within inside (was.later n j (omega arith) h))
          | inr other ↦ was.takes i j (omega arith) h
        ];
      }

  -- the end of the pattern
  pub turn_ends : (k at : ℕ) → length steps ≤ k → length text ≤ at → fits_from f steps text k at ≡ true
  turn_ends k at past end = ap (λ (l : List Step). step_fits f l (marks_at f text at)) (drop_all steps k past) ∙ ap (step_fits f []) (marks_past at end)

  pub turn_goes_on : (k at : ℕ) → length steps ≤ k → at < length text → fits_from f steps text k at ≡ false
  turn_goes_on k at past inside = ap (λ (l : List Step). step_fits f l (marks_at f text at)) (drop_all steps k past) ∙ ap (step_fits f []) (marks_step f text at inside)

  -- a step that takes one byte, and not the next one
  pub turn_differs : (k at : ℕ) (s d : Step) → k < length steps → get_or steps k d ≡ s → not (may_be_empty (step_reach s)) ≡ true → first_takes f (drop k steps) (marks_at f text at) ≡ false → fits_from f steps text k at ≡ false
  turn_differs k at s d within is one none =
      let tail : drop k steps ≡ s ∷ drop (k + 1) steps = drop_more steps k d within ∙ ap (λ (h : Step). h ∷ drop (k + 1) steps) is in
      ap (λ (l : List Step). step_fits f l (marks_at f text at)) tail
      ∙ single_none f s (drop (k + 1) steps) (marks_at f text at) one
      (subst (λ (l : List Step). first_takes f l (marks_at f text at) ≡ false) tail none)

  -- a byte that the text has not at a place
  pub byte_differs : (k at b : ℕ) (d : Step) → k < length steps → get_or steps k d ≡ Byte b → at < length text → (lower_if f.flags.fold (get_or text at 0) == b) ≡ false → fits_from f steps text k at ≡ false
  byte_differs k at b d within is inside differs =
      turn_differs k at (Byte b) d within is refl
      (sym (first_here k at d within inside) ∙ ap (λ (s : Step). single_takes f s (mark_at f text at)) is ∙ differs)

  -- or that it has at no place from one on
  pub byte_nowhere : (k at b : ℕ) (d : Step) → k < length steps → get_or steps k d ≡ Byte b → ((i : ℕ) → at ≤ i → i < length text → (lower_if f.flags.fold (get_or text i 0) == b) ≡ false) →
      (j : ℕ) → at ≤ j → fits_from f steps text k j ≡ false
  byte_nowhere k at b d within is other j from =
      elim (cases_lt j (length text)) [
        | inl inside ↦ byte_differs k j b d within is inside (other j from inside)
        | inr past ↦ turn_differs k j (Byte b) d within is refl (sym (first_end k j past))
      ]

  module _ (star : ℕ) (stars : begins_stars (drop star steps) ≡ true) where
    tail_is : drop star steps ≡ Stars ∷ drop (star + 1) steps
    tail_is = stars_first (drop star steps) stars ∙ ap (λ (l : List Step). Stars ∷ l) (drop-drop 1 star steps)

    -- it is a step
    pub stars_within : star < length steps
    stars_within =
        elim (cases_lt star (length steps)) [
          | inl within ↦ within
          | inr past ↦ absurd (false≢true (sym (ap begins_stars (drop_all steps star past)) ∙ stars))
        ]

    from_stars : (at : ℕ) → fits_from f steps text star at ≡ step_fits f (Stars ∷ drop (star + 1) steps) (marks_at f text at)
    from_stars at = ap (λ (l : List Step). step_fits f l (marks_at f text at)) tail_is

    at_stars : (at : ℕ) → at < length text → fits_from f steps text star at
        ≡ (step_fits f (drop (star + 1) steps) (mark_at f text at ∷ marks_at f text (at + 1)) || (is_wild f.flags (mark_at f text at) && step_fits f (Stars ∷ drop (star + 1) steps) (marks_at f text (at + 1))))
    at_stars at inside = from_stars at ∙ ap (step_fits f (Stars ∷ drop (star + 1) steps)) (marks_step f text at inside)

    not_here : (at : ℕ) → at < length text → fits_from f steps text (star + 1) at ≡ false → step_fits f (drop (star + 1) steps) (mark_at f text at ∷ marks_at f text (at + 1)) ≡ false
    not_here at inside none = sym (ap (step_fits f (drop (star + 1) steps)) (marks_step f text at inside)) ∙ none

    -- if the later steps do not fit at a byte that it may take, it takes the byte
    pub stars_pass : (at : ℕ) → at < length text → fits_from f steps text (star + 1) at ≡ false → is_wild f.flags (mark_at f text at) ≡ true → fits_from f steps text star at ≡ fits_from f steps text star (at + 1)
    stars_pass at inside none wild =
        at_stars at inside
        ∙ goes_over _ _ _ (not_here at inside none) wild
        ∙ sym (from_stars (at + 1))

    -- and at another byte, or at the end, the text does not fit
    pub stars_stop : (at : ℕ) → at < length text → fits_from f steps text (star + 1) at ≡ false → is_wild f.flags (mark_at f text at) ≡ false → fits_from f steps text star at ≡ false
    stars_stop at inside none wild = at_stars at inside ∙ stays _ _ _ (not_here at inside none) wild

    pub stars_end : (at : ℕ) → length text ≤ at → fits_from f steps text (star + 1) at ≡ false → fits_from f steps text star at ≡ false
    stars_end at past none =
        from_stars at
        ∙ ap (step_fits f (Stars ∷ drop (star + 1) steps)) (marks_past at past)
        ∙ sym (ap (step_fits f (drop (star + 1) steps)) (marks_past at past))
        ∙ none

    -- if the later steps fit, so do all
    pub stars_fit : (at : ℕ) → fits_from f steps text (star + 1) at ≡ true → fits_from f steps text star at ≡ true
    stars_fit at h = from_stars at ∙ many_here (is_wild f.flags) (step_fits f (drop (star + 1) steps)) (marks_at f text at) h

    -- bytes that it may take, at which the later steps do not fit, are passed
    pub stars_seek : (d at : ℕ) → at + d ≤ length text → ((i : ℕ) → at ≤ i → i < at + d → is_wild f.flags (mark_at f text i) ≡ true) → ((i : ℕ) → at ≤ i → i < at + d → fits_from f steps text (star + 1) i ≡ false) →
        fits_from f steps text star at ≡ fits_from f steps text star (at + d)
    stars_seek zero at within wild none = let e : at ≡ at + 0 = omega arith in ap (fits_from f steps text star) e
    stars_seek (suc d) at within wild none =
        let e : at + 1 + d ≡ at + suc d = omega arith in
        stars_pass at (omega arith) (none at (omega arith) (omega arith)) (wild at (omega arith) (omega arith))
        ∙ stars_seek d (at + 1) (omega arith) (λ i from before. wild i (omega arith) (omega arith)) (λ i from before. none i (omega arith) (omega arith))
        ∙ ap (fits_from f steps text star) e

    -- up to another place
    pub stars_to : (at to : ℕ) → at ≤ to → to ≤ length text → ((i : ℕ) → at ≤ i → i < to → is_wild f.flags (mark_at f text i) ≡ true) → ((i : ℕ) → at ≤ i → i < to → fits_from f steps text (star + 1) i ≡ false) →
        fits_from f steps text star at ≡ fits_from f steps text star to
    stars_to at to after within wild none =
        let e : at + (to - at) ≡ to = omega arith in
        stars_seek (to - at) at (omega arith) (λ i from before. wild i from (omega arith)) (λ i from before. none i from (omega arith))
        ∙ ap (fits_from f steps text star) e

    -- a last star may take all that is left
    pub stars_rest : (at : ℕ) → length steps ≤ star + 1 → at ≤ length text → ((i : ℕ) → at ≤ i → i < length text → is_wild f.flags (mark_at f text i) ≡ true) → fits_from f steps text star at ≡ true
    stars_rest at last within wild =
        stars_to at (length text) within (omega arith) wild (λ i from before. turn_goes_on (star + 1) i last before)
        ∙ stars_fit (length text) (turn_ends (star + 1) (length text) last (omega arith))

    -- if all fit, the later steps fit after bytes that it may take
    abbrev Found : ℕ → Type 0
    Found begin = (j : ℕ) × (begin ≤ j) × ((i : ℕ) → begin ≤ i → i < j → is_wild f.flags (mark_at f text i) ≡ true) × (fits_from f steps text (star + 1) j ≡ true)

    found_further : (begin : ℕ) → is_wild f.flags (mark_at f text begin) ≡ true → Found (begin + 1) → Found begin
    found_further begin wild (j, from, all, fits) = (
      j,
      omega arith,
      λ i after before. elim (cases_eq i begin) [
        | inl same ↦ ap (λ (n : ℕ). is_wild f.flags (mark_at f text n)) same ∙ wild
        | inr other ↦ all i (omega arith) before
      ],
      fits,
    )

    stars_found : (d begin : ℕ) → begin + d ≡ length text → fits_from f steps text star begin ≡ true → Found begin
    stars_found zero begin ends h = (
      begin,
      omega arith,
      λ i after before. absurd (omega arith),
      ap (step_fits f (drop (star + 1) steps)) (marks_past begin (omega arith))
          ∙ sym (ap (step_fits f (Stars ∷ drop (star + 1) steps)) (marks_past begin (omega arith)))
          ∙ sym (from_stars begin)
          ∙ h,
    )
    stars_found (suc d) begin ends h =
        let inside : begin < length text = omega arith in
        elim (or_cases _ _ (sym (at_stars begin inside) ∙ h)) [
          | inl here ↦ (
            begin,
            omega arith,
            λ i after before. absurd (omega arith),
            ap (step_fits f (drop (star + 1) steps)) (marks_step f text begin inside) ∙ here,
          )
          | inr there ↦
              let parts = and_parts (is_wild f.flags (mark_at f text begin)) (step_fits f (Stars ∷ drop (star + 1) steps) (marks_at f text (begin + 1))) there in
              found_further begin parts.0 (stars_found d (begin + 1) (omega arith) (from_stars (begin + 1) ∙ parts.1))
        ]

    -- if the later steps fit nowhere, nothing fits
    pub stars_nowhere : (at : ℕ) → at ≤ length text → ((j : ℕ) → at ≤ j → fits_from f steps text (star + 1) j ≡ false) → fits_from f steps text star at ≡ false
    stars_nowhere at within none = of_it (fits_from f steps text star at) refl
      where
        of_it : (b : Bool) → fits_from f steps text star at ≡ b → fits_from f steps text star at ≡ false
        of_it false is = is
        of_it true is = let found = stars_found (length text - at) at (omega arith) is in absurd (false≢true (sym (none found.0 found.1) ∙ found.3))

    -- bytes that it may take are taken before a place at which all fit
    stars_absorb : (d at : ℕ) → ((i : ℕ) → at ≤ i → i < at + d → i < length text → is_wild f.flags (mark_at f text i) ≡ true) → fits_from f steps text star (at + d) ≡ true → fits_from f steps text star at ≡ true
    stars_absorb zero at wild h = let e : at ≡ at + 0 = omega arith in ap (fits_from f steps text star) e ∙ h
    stars_absorb (suc d) at wild h =
        elim (cases_lt at (length text)) [
          | inl inside ↦
              let e : at + 1 + d ≡ at + suc d = omega arith in
              let later = stars_absorb d (at + 1) (λ i after before within. wild i (omega arith) (omega arith) within) (ap (fits_from f steps text star) e ∙ h) in
              at_stars at inside ∙ or_right _ _ (and_from _ _ (wild at (omega arith) (omega arith) inside) (sym (from_stars (at + 1)) ∙ later))
          | inr past ↦ ap (step_fits f (drop star steps)) (marks_past at past ∙ sym (marks_past (at + suc d) (omega arith))) ∙ h
        ]

  -- a later star may begin at the first place at which the steps before it fit
  module _ (star n : ℕ) (stars : begins_stars (drop star steps) ≡ true) (next : begins_stars (drop (star + 1 + n) steps) ≡ true) (begin : ℕ) (taken : AreTaken f steps text (star + 1) begin n) (settled : IsSettled f steps text (star + 1) n (begin + n)) where
    -- since those steps do not reach over the byte that keeps off
    reaches_not : (j : ℕ) → begin ≤ j → ((i : ℕ) → begin ≤ i → i < j → is_wild f.flags (mark_at f text i) ≡ true) → fits_from f steps text (star + 1) j ≡ true → IsKeptOff f steps text (star + 1) n settled.end → settled.end < j + n → ⊥
    reaches_not j from wild fits off over =
        elim (cases_lt settled.end j) [
          | inl before ↦ false≢true (sym off.not_wild ∙ wild settled.end (omega (arith, settled.from)) before)
          | inr after ↦
              let i : ℕ = settled.end - j in
              let e : j + i ≡ settled.end = omega arith in
              let few : i < n = omega arith in
              false≢true
              (sym (off.not_taken i few)
              ∙ sym (ap (λ (m : ℕ). first_takes f (drop (star + 1 + i) steps) (marks_at f text m)) e)
              ∙ taken.takes i j few fits)
        ]

    stays_wild : (j : ℕ) → begin ≤ j → ((i : ℕ) → begin ≤ i → i < j → is_wild f.flags (mark_at f text i) ≡ true) → fits_from f steps text (star + 1) j ≡ true → (i : ℕ) → begin + n ≤ i → i < j + n → i < length text → is_wild f.flags (mark_at f text i) ≡ true
    stays_wild j from wild fits i after before inside =
        elim (cases_lt i settled.end) [
          | inl early ↦ settled.wild i after early
          | inr late ↦ absurd (at_stop settled.stop late)
        ]
      where
        at_stop : (settled.end ≡ length text) ⊎ IsKeptOff f steps text (star + 1) n settled.end → settled.end ≤ i → ⊥
        at_stop (inl end) late = omega arith
        at_stop (inr off) late = reaches_not j from wild fits off (omega arith)

    fits_there : Found star stars begin → fits_from f steps text (star + 1 + n) (begin + n) ≡ true
    fits_there (j, from, wild, fits) =
        let e : begin + n + (j - begin) ≡ j + n = omega arith in
        stars_absorb (star + 1 + n) next (j - begin) (begin + n)
        (λ i after before inside. stays_wild j from wild fits i after (omega arith) inside)
        (ap (fits_from f steps text (star + 1 + n)) e ∙ taken.later n j (omega arith) fits)

    pub stars_more : fits_from f steps text star begin ≡ fits_from f steps text (star + 1 + n) (begin + n)
    stars_more =
        both_ways _ _
        (λ h. fits_there (stars_found star stars (length text - begin) begin (omega (arith, taken.enough_text)) h))
        (λ h. stars_fit star stars begin (taken.same ∙ h))

  module _ (k : ℕ) (below : begins_below (drop k steps) ≡ true) where
    below_is : drop k steps ≡ Below ∷ drop (k + 1) steps
    below_is = below_first (drop k steps) below ∙ ap (λ (l : List Step). Below ∷ l) (drop-drop 1 k steps)

    pub from_below : (at : ℕ) → fits_from f steps text k at ≡ (fits_from f steps text (k + 1) at || directories has_no_hidden_dot (step_fits f (drop (k + 1) steps)) (marks_at f text at))
    from_below at = ap (λ (l : List Step). step_fits f l (marks_at f text at)) below_is

    -- `**/` takes nothing if the later steps fit
    pub below_fit : (at : ℕ) → fits_from f steps text (k + 1) at ≡ true → fits_from f steps text k at ≡ true
    below_fit at h = from_below at ∙ or_left _ _ h

    -- it goes to the next name if they do not
    pub below_next : (at next : ℕ) → fits_from f steps text (k + 1) at ≡ false → IsNextName f text at next → fits_from f steps text k at ≡ fits_from f steps text k next
    below_next at next none is =
        from_below at
        ∙ ap (λ (b : Bool). b || directories has_no_hidden_dot (step_fits f (drop (k + 1) steps)) (marks_at f text at)) none
        ∙ is (step_fits f (drop (k + 1) steps))
        ∙ sym (from_below next)

    -- and without one the text does not fit
    pub below_none : (at : ℕ) → fits_from f steps text (k + 1) at ≡ false → HasNoName f text at → fits_from f steps text k at ≡ false
    below_none at none is = from_below at ∙ or_from _ _ none (is (step_fits f (drop (k + 1) steps)))

  -- a last `**` fits a text without hidden dots
  pub rest_fits : (k at : ℕ) → begins_tail (drop k steps) ≡ true → length steps ≤ k + 1 → are_shown f text at ≡ true → fits_from f steps text k at ≡ true
  rest_fits k at rest last shown =
      ap (λ (l : List Step). step_fits f l (marks_at f text at)) (tail_first (drop k steps) rest ∙ ap (λ (l : List Step). Tail ∷ l) (drop-drop 1 k steps ∙ drop_all steps (k + 1) last))
      ∙ takes_all f (marks_at f text at) shown

-- no dot of the end of the text is hidden, nor one of the text up to it
pub shown_end : (f : Rules) (text : List ℕ) (at : ℕ) → length text ≤ at → are_shown f text at ≡ true
shown_end f text at past = ap (list_all has_no_hidden_dot) (marks_past f [] text at past)

pub shown_more : (f : Rules) (text : List ℕ) (at : ℕ) → at < length text → has_no_hidden_dot (mark_at f text at) ≡ true → are_shown f text at ≡ are_shown f text (at + 1)
shown_more f text at inside shown = ap (list_all has_no_hidden_dot) (marks_step f text at inside) ∙ and_is _ _ shown

-- the places that `**/` goes over
module _ (f : Rules) (text : List ℕ) (at : ℕ) where
  pub names_end : length text ≤ at → HasNoName f text at
  names_end past fit = ap (directories has_no_hidden_dot fit) (marks_past f [] text at past)

  pub names_hidden : at < length text → has_no_hidden_dot (mark_at f text at) ≡ false → HasNoName f text at
  names_hidden inside hidden fit = ap (directories has_no_hidden_dot fit) (marks_step f text at inside) ∙ and_left _ _ hidden

  pub names_slash : at < length text → has_no_hidden_dot (mark_at f text at) ≡ true → is_slash (mark_at f text at).byte ≡ true → IsNextName f text at (at + 1)
  names_slash inside shown slash fit =
      ap (directories has_no_hidden_dot fit) (marks_step f text at inside)
      ∙ and_is _ _ shown
      ∙ ends (directories has_no_hidden_dot fit (marks_at f text (at + 1))) (is_slash (mark_at f text at).byte) (fit (marks_at f text (at + 1))) slash
    where
      ends : (a b c : Bool) → b ≡ true → (a || (b && c)) ≡ (c || a)
      ends true true true is = refl
      ends true true false is = refl
      ends false true true is = refl
      ends false true false is = refl
      ends a false c is = absurd (false≢true is)

  pub names_more : at < length text → has_no_hidden_dot (mark_at f text at) ≡ true → is_slash (mark_at f text at).byte ≡ false → (fit : List Mark → Bool) → directories has_no_hidden_dot fit (marks_at f text at) ≡ directories has_no_hidden_dot fit (marks_at f text (at + 1))
  names_more inside shown slash fit =
      ap (directories has_no_hidden_dot fit) (marks_step f text at inside)
      ∙ and_is _ _ shown
      ∙ goes (directories has_no_hidden_dot fit (marks_at f text (at + 1))) (is_slash (mark_at f text at).byte) (fit (marks_at f text (at + 1))) slash
    where
      goes : (a b c : Bool) → b ≡ false → (a || (b && c)) ≡ a
      goes true b c is = refl
      goes false b c is = and_left b c is

-- what holds up to a place, and there, holds up to the next
pub up_to_next : (P : ℕ → Type 0) (from n : ℕ) → ((i : ℕ) → from ≤ i → i < n → P i) → P n → (i : ℕ) → from ≤ i → i < n + 1 → P i
up_to_next P from n was here i after before =
    elim (cases_eq i n) [
      | inl same ↦ subst P (sym same) here
      | inr other ↦ was i after (omega arith)
    ]
