-- The test says yes exactly if the text can be cut into parts.
use Rattle.std.proofs.Common.{◌≡◌, Bool, true, ◌&&◌, ◌||◌, ◌⊎◌, IsTrue, List, [], ◌∷◌, ◌++◌, refl, sym, ap, subst, inl, inr}
use Rattle.std.specs.List.{list_all}
use Rattle.std.proofs.lemmas.Bool.{and_parts, and_from, or_cases, or_left, or_right, false≢true}
use Rattle.wq_base.specs.Byte.{is_slash}
use Rattle.wq_glob.specs.Atom.{Atom, Literal, One, OneOf, Star, Dirs, Rest, Nothing}
use Rattle.wq_glob.specs.Mark.{Mark}
use Rattle.wq_glob.specs.Fits.{IsOne, IsEach, EndsInSlash, Takes, Cuts}
use Rattle.wq_glob.specs.FitsTest.{Reach, Single, Many, Directories, reach, admits, directories, many, single, part_of, atom_form, fits_by}
use Rattle.wq_glob.specs.declared.flag.Flags.{Flags}

-- a part of this reach, each of whose bytes passes the test
abbrev PartOf : Reach → (Mark → Bool) → List Mark → Type 0
PartOf Single test part = IsOne test part
PartOf Many test part = IsEach test part
PartOf Directories test part = (part ≡ []) ⊎ (IsEach test part × EndsInSlash part)

-- some front of the text is such a part, and the rest fits
abbrev Splits : Reach → (Mark → Bool) → (List Mark → Bool) → List Mark → Type 0
Splits r test fit text = (part : List Mark) × (after : List Mark) × (text ≡ part ++ after) × PartOf r test part × IsTrue (fit after)

longer : (test : Mark → Bool) (fit : List Mark → Bool) (x : Mark) (xs : List Mark) → test x ≡ true → Splits Many test fit xs → Splits Many test fit (x ∷ xs)
longer test fit x xs passes s = (x ∷ s.0, s.1, ap (λ ys. x ∷ ys) s.2, and_from _ _ passes s.3, s.4)

many_splits : (test : Mark → Bool) (fit : List Mark → Bool) (text : List Mark) → many test fit text ≡ true → Splits Many test fit text
many_splits test fit [] h = ([], [], refl, refl, h)
many_splits test fit (x ∷ xs) h =
    elim (or_cases (fit (x ∷ xs)) (test x && many test fit xs) h) [
      | inl here ↦ ([], x ∷ xs, refl, refl, here)
      | inr there ↦
          let parts = and_parts (test x) (many test fit xs) there in
          longer test fit x xs parts.0 (many_splits test fit xs parts.1)
    ]

-- a part that is not empty and ends in a slash
abbrev SplitsAtSlash : (Mark → Bool) → (List Mark → Bool) → List Mark → Type 0
SplitsAtSlash test fit text =
    (part : List Mark) × (after : List Mark) × (text ≡ part ++ after) × (IsEach test part × EndsInSlash part) × IsTrue (fit after)

deeper : (test : Mark → Bool) (fit : List Mark → Bool) (x : Mark) (xs : List Mark) → test x ≡ true → SplitsAtSlash test fit xs → SplitsAtSlash test fit (x ∷ xs)
deeper test fit x xs passes s = (
  x ∷ s.0,
  s.1,
  ap (λ ys. x ∷ ys) s.2,
  (and_from _ _ passes s.3.0, (x ∷ s.3.1.0, s.3.1.1, ap (λ ys. x ∷ ys) s.3.1.2, s.3.1.3)),
  s.4,
)

directories_split : (test : Mark → Bool) (fit : List Mark → Bool) (text : List Mark) → directories test fit text ≡ true → SplitsAtSlash test fit text
directories_split test fit [] h = absurd (false≢true h)
directories_split test fit (x ∷ xs) h =
    let parts = and_parts (test x) (directories test fit xs || (is_slash x.byte && fit xs)) h in
    elim (or_cases (directories test fit xs) (is_slash x.byte && fit xs) parts.1) [
      | inl deep ↦ deeper test fit x xs parts.0 (directories_split test fit xs deep)
      | inr here ↦
          let at = and_parts (is_slash x.byte) (fit xs) here in
          (x ∷ [], xs, refl, (and_from _ _ parts.0 refl, ([], x, refl, at.0)), at.1)
    ]

-- the test finds a cut
splits : (r : Reach) (test : Mark → Bool) (fit : List Mark → Bool) (text : List Mark) → part_of r test fit text ≡ true → Splits r test fit text
splits Single test fit [] h = absurd (false≢true h)
splits Single test fit (x ∷ xs) h =
    let parts = and_parts (test x) (fit xs) h in (x ∷ [], xs, refl, (x, refl, parts.0), parts.1)
splits Many test fit text h = many_splits test fit text h
splits Directories test fit text h =
    elim (or_cases (fit text) (directories test fit text) h) [
      | inl none ↦ ([], text, refl, inl refl, none)
      | inr some ↦ let s = directories_split test fit text some in (s.0, s.1, s.2, inr s.3, s.4)
    ]

many_from : (test : Mark → Bool) (fit : List Mark → Bool) (part after : List Mark) → IsEach test part → fit after ≡ true → many test fit (part ++ after) ≡ true
many_from test fit [] [] each h = h
many_from test fit [] (x ∷ xs) each h = or_left _ _ h
many_from test fit (x ∷ part) after each h =
    let parts = and_parts (test x) (list_all test part) each in
    or_right _ _ (and_from _ _ parts.0 (many_from test fit part after parts.1 h))

directories_from : (test : Mark → Bool) (fit : List Mark → Bool) (body : List Mark) (x : Mark) (after : List Mark) → IsEach test (body ++ x ∷ []) → is_slash x.byte ≡ true → fit after ≡ true → directories test fit ((body ++ x ∷ []) ++ after) ≡ true
directories_from test fit [] x after each ends h =
    let parts = and_parts (test x) true each in
    and_from _ _ parts.0 (or_right _ _ (and_from _ _ ends h))
directories_from test fit (y ∷ body) x after each ends h =
    let parts = and_parts (test y) (list_all test (body ++ x ∷ [])) each in
    and_from _ _ parts.0 (or_left _ _ (directories_from test fit body x after parts.1 ends h))

-- a cut is found by the test
found : (r : Reach) (test : Mark → Bool) (fit : List Mark → Bool) (part after : List Mark) → PartOf r test part → fit after ≡ true → part_of r test fit (part ++ after) ≡ true
found Single test fit part after (x, is, passes) h =
    subst (λ (p : List Mark). single test fit (p ++ after) ≡ true) (sym is) (and_from _ _ passes h)
found Many test fit part after each h = many_from test fit part after each h
found Directories test fit part after (inl none) h =
    subst (λ (p : List Mark). part_of Directories test fit (p ++ after) ≡ true) (sym none) (or_left _ _ h)
found Directories test fit part after (inr (each, (body, x, is, ends))) h =
    or_right _ _
    (subst (λ (p : List Mark). directories test fit (p ++ after) ≡ true) (sym is)
    (directories_from test fit body x after (subst (IsEach test) is each) ends h))

-- the part that an atom takes is one of its reach, of the bytes that it admits
taken : (f : Flags) (a : Atom) (part : List Mark) → Takes f a part → PartOf (reach a) (admits f a) part
taken f (Literal b) part t = t
taken f One part t = t
taken f (OneOf c) part t = t
taken f Star part t = t
taken f Dirs part t = t
taken f Rest part t = t
taken f Nothing part t = absurd t

takes : (f : Flags) (a : Atom) (part : List Mark) → PartOf (reach a) (admits f a) part → Takes f a part
takes f (Literal b) part t = t
takes f One part t = t
takes f (OneOf c) part t = t
takes f Star part t = t
takes f Dirs part t = t
takes f Rest part t = t
takes f Nothing part (x, is, passes) = absurd (false≢true passes)

-- if the test says yes, the text can be cut
pub cuts_from_test : (f : Flags) (atoms : List Atom) (text : List Mark) → fits_by (atom_form f) atoms text ≡ true → Cuts f atoms text
cuts_from_test f [] [] h = refl
cuts_from_test f [] (x ∷ xs) h = absurd (false≢true h)
cuts_from_test f (a ∷ later) text h =
    let s = splits (reach a) (admits f a) (fits_by (atom_form f) later) text h in
    (s.0, s.1, s.2, takes f a s.0 s.3, cuts_from_test f later s.1 s.4)

-- if the text can be cut, the test says yes
pub test_from_cuts : (f : Flags) (atoms : List Atom) (text : List Mark) → Cuts f atoms text → fits_by (atom_form f) atoms text ≡ true
test_from_cuts f [] text h = subst (λ (t : List Mark). fits_by (atom_form f) [] t ≡ true) (sym h) refl
test_from_cuts f (a ∷ later) text (part, after, is, t, cut) =
    subst (λ (t : List Mark). fits_by (atom_form f) (a ∷ later) t ≡ true) (sym is)
    (found (reach a) (admits f a) (fits_by (atom_form f) later) part after (taken f a part t) (test_from_cuts f later after cut))
