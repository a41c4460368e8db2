-- The bytes at the front of a pattern.
use Rattle.std.proofs.Common.{◌≡◌, ℕ, ◌+◌, ◌<◌, ◌≤◌, true, false, ◌&&◌, List, [], ◌∷◌, length, drop, get_or, refl, sym, ◌∙◌, ap, arith}
use Rattle.std.proofs.lemmas.Bool.{false≢true}
use Rattle.std.proofs.lemmas.List.{drop_more}
use Rattle.wq_glob.specs.Mark.{Mark}
use Rattle.wq_glob.specs.Cost.{agrees, begins_literal, front}
use Rattle.wq_glob.specs.Cell.{step_fits, marks_at, mark_at}
use Rattle.wq_glob.specs.Step.{is_byte, step_admits, step_form}
use Rattle.wq_glob.proofs.MarkLemmas.{marks_step}
use Rattle.wq_glob.proofs.RowLemmas.{drop_all}
use Rattle.wq_glob.proofs.RunLemmas.{marks_end}
use Rattle.wq_glob.specs.declared.rules.Rules.{Rules}
use Rattle.wq_glob.specs.declared.step.Step.{Step}
use Rattle.wq_glob.specs.declared.step.Step.TheVariants.{Byte, AnyByte, Set, Stars, Below, Tail, Never}

-- a step agrees with the byte at its place
pub agrees_here : (f : Rules) (steps : List Step) (text : List ℕ) (at : ℕ) (d : Step) → at < length steps → at < length text →
    (is_byte (get_or steps at d) && step_admits f (get_or steps at d) (mark_at f text at)) ≡ agrees (step_form f) (drop at steps) (marks_at f text at)
agrees_here f steps text at d within inside =
    sym
    (ap (λ (l : List Step). agrees (step_form f) l (marks_at f text at)) (drop_more steps at d within)
    ∙ ap (agrees (step_form f) (get_or steps at d ∷ drop (at + 1) steps)) (marks_step f text at inside))

agrees_nothing : (f : Rules) (steps : List Step) → agrees (step_form f) steps [] ≡ false
agrees_nothing f [] = refl
agrees_nothing f (s ∷ steps) = refl

-- and nothing agrees after the last step or at the end of the text
pub agrees_past : (f : Rules) (steps : List Step) (text : List ℕ) (at : ℕ) → length steps ≤ at → false ≡ agrees (step_form f) (drop at steps) (marks_at f text at)
agrees_past f steps text at past = sym (ap (λ (l : List Step). agrees (step_form f) l (marks_at f text at)) (drop_all steps at past))

-- nor does a step agree with the end of the text
pub agrees_end : (f : Rules) (steps : List Step) (text : List ℕ) (at : ℕ) → at ≤ length text → length text ≤ at → false ≡ agrees (step_form f) (drop at steps) (marks_at f text at)
agrees_end f steps text at within past =
    let e : at ≡ length text = omega arith in
    sym (ap (agrees (step_form f) (drop at steps)) (ap (marks_at f text) e ∙ marks_end f text) ∙ agrees_nothing f (drop at steps))

-- a byte that agrees is one more of the front, and leaves the answer to the rest
front_cons : (f : Rules) (s : Step) (later : List Step) (x : Mark) (text : List Mark) → agrees (step_form f) (s ∷ later) (x ∷ text) ≡ true →
    front (step_form f) (s ∷ later) (x ∷ text) ≡ 1 + front (step_form f) later text
front_cons f s later x text is = rw is refl

fits_cons : (f : Rules) (s : Step) (later : List Step) (x : Mark) (text : List Mark) → agrees (step_form f) (s ∷ later) (x ∷ text) ≡ true →
    step_fits f (s ∷ later) (x ∷ text) ≡ step_fits f later text
fits_cons f (Byte b) later x text is = rw is refl
fits_cons f AnyByte later x text is = absurd (false≢true is)
fits_cons f (Set set) later x text is = absurd (false≢true is)
fits_cons f Stars later x text is = absurd (false≢true is)
fits_cons f Below later x text is = absurd (false≢true is)
fits_cons f Tail later x text is = absurd (false≢true is)
fits_cons f Never later x text is = absurd (false≢true is)

module _ (f : Rules) (steps : List Step) (text : List ℕ) (n : ℕ) (within : n < length steps) (inside : n < length text) (is : agrees (step_form f) (drop n steps) (marks_at f text n) ≡ true) where
  here : agrees (step_form f) (get_or steps n Never ∷ drop (n + 1) steps) (mark_at f text n ∷ marks_at f text (n + 1)) ≡ true
  here = agrees_here f steps text n Never within inside ∙ is

  -- at a place where step and byte agree the front goes on after both
  pub front_more : front (step_form f) (drop n steps) (marks_at f text n) ≡ 1 + front (step_form f) (drop (n + 1) steps) (marks_at f text (n + 1))
  front_more =
      ap (λ (l : List Step). front (step_form f) l (marks_at f text n)) (drop_more steps n Never within)
      ∙ ap (front (step_form f) (get_or steps n Never ∷ drop (n + 1) steps)) (marks_step f text n inside)
      ∙ front_cons f (get_or steps n Never) (drop (n + 1) steps) (mark_at f text n) (marks_at f text (n + 1)) here

  -- and the steps fit if those after it do
  pub fits_more : step_fits f (drop n steps) (marks_at f text n) ≡ step_fits f (drop (n + 1) steps) (marks_at f text (n + 1))
  fits_more =
      ap (λ (l : List Step). step_fits f l (marks_at f text n)) (drop_more steps n Never within)
      ∙ ap (step_fits f (get_or steps n Never ∷ drop (n + 1) steps)) (marks_step f text n inside)
      ∙ fits_cons f (get_or steps n Never) (drop (n + 1) steps) (mark_at f text n) (marks_at f text (n + 1)) here

-- and if a byte was to agree, the text does not fit
pub differs_no : (f : Rules) (steps : List Step) (text : List Mark) → begins_literal (step_form f) steps ≡ true → agrees (step_form f) steps text ≡ false → step_fits f steps text ≡ false
differs_no f [] text first is = absurd (false≢true first)
differs_no f (Byte b ∷ later) [] first is = refl
differs_no f (Byte b ∷ later) (x ∷ text) first is = rw is refl
differs_no f (AnyByte ∷ later) text first is = absurd (false≢true first)
differs_no f (Set set ∷ later) text first is = absurd (false≢true first)
differs_no f (Stars ∷ later) text first is = absurd (false≢true first)
differs_no f (Below ∷ later) text first is = absurd (false≢true first)
differs_no f (Tail ∷ later) text first is = absurd (false≢true first)
differs_no f (Never ∷ later) text first is = absurd (false≢true first)
