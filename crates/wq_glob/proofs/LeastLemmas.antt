-- A text that the steps fit has at least so many bytes as they take.
use Rattle.std.proofs.Common.{◌≡◌, ℕ, ◌+◌, ◌<◌, ◌≤◌, Bool, true, false, not, ◌&&◌, ◌||◌, cond, List, [], ◌∷◌, length, inl, inr, subst, sym, arith}
use Rattle.std.proofs.lemmas.Bool.{and_parts, or_cases, false≢true, false_from_ne_true}
use Rattle.std.proofs.lemmas.List.Sums.{sum_by-cons}
use Rattle.wq_base.specs.Byte.{is_slash}
use Rattle.wq_glob.specs.Mark.{Mark}
use Rattle.wq_glob.specs.FitsTest.{Reach, Single, Many, Directories, directories, many, single, part_of}
use Rattle.wq_glob.specs.Cell.{may_be_empty, step_fits, marks_of}
use Rattle.wq_glob.specs.Least.{least_of, takes_some}
use Rattle.wq_glob.specs.Step.{step_admits, step_reach}
use Rattle.wq_glob.specs.declared.rules.Rules.{Rules}
use Rattle.wq_glob.specs.declared.step.Step.{Step}
use Rattle.wq_glob.proofs.MarkLemmas.{length-marks_from}

module _ (test : Mark → Bool) (fit : List Mark → Bool) (n : ℕ) (least : (xs : List Mark) → fit xs ≡ true → n ≤ length xs) where
  single_least : (xs : List Mark) → single test fit xs ≡ true → 1 + n ≤ length xs
  single_least [] h = absurd (false≢true h)
  single_least (x ∷ xs) h = omega (arith, least xs (and_parts (test x) (fit xs) h).1)

  many_least : (xs : List Mark) → many test fit xs ≡ true → n ≤ length xs
  many_least [] h = least [] h
  many_least (x ∷ xs) h =
      elim (or_cases (fit (x ∷ xs)) (test x && many test fit xs) h) [
        | inl here ↦ least (x ∷ xs) here
        | inr there ↦ omega (arith, many_least xs (and_parts (test x) (many test fit xs) there).1)
      ]

  directories_least : (xs : List Mark) → directories test fit xs ≡ true → n ≤ length xs
  directories_least [] h = absurd (false≢true h)
  directories_least (x ∷ xs) h =
      let parts = and_parts (test x) (directories test fit xs || (is_slash x.byte && fit xs)) h in
      elim (or_cases (directories test fit xs) (is_slash x.byte && fit xs) parts.1) [
        | inl deep ↦ omega (arith, directories_least xs deep)
        | inr here ↦ omega (arith, least xs (and_parts (is_slash x.byte) (fit xs) here).1)
      ]

  -- a part of this reach, and what fits after it, have at least so many bytes
  part_least : (r : Reach) (xs : List Mark) → part_of r test fit xs ≡ true → cond (not (may_be_empty r)) 1 0 + n ≤ length xs
  part_least Single xs h = single_least xs h
  part_least Many xs h = omega (arith, many_least xs h)
  part_least Directories xs h =
      elim (or_cases (fit xs) (directories test fit xs) h) [
        | inl none ↦ omega (arith, least xs none)
        | inr some ↦ omega (arith, directories_least xs some)
      ]

-- a text that the steps fit has at least so many bytes
fits_least : (f : Rules) (steps : List Step) (xs : List Mark) → step_fits f steps xs ≡ true → least_of steps ≤ length xs
fits_least f [] xs h = omega arith
fits_least f (s ∷ steps) xs h =
    subst (λ (n : ℕ). n ≤ length xs) (sym (sum_by-cons (λ (t : Step). cond (takes_some t) 1 0) s steps))
    (part_least (step_admits f s) (step_fits f steps) (least_of steps) (fits_least f steps) (step_reach s) xs h)

-- so the steps do not fit a shorter one
pub too_short : (f : Rules) (steps : List Step) (least : ℕ) (text : List ℕ) → least ≤ least_of steps → length text < least → step_fits f steps (marks_of f text) ≡ false
too_short f steps least text few short =
    false_from_ne_true _ (λ fits. omega (arith, fits_least f steps _ fits, length-marks_from f.flags.dotfiles true text))
