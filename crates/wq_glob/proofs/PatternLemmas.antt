-- The steps of a pattern fit the texts that its atoms fit.
use Rattle.std.proofs.Common.{◌≡◌, ℕ, suc, ◌<◌, ◌≤◌, Bool, true, List, [], ◌∷◌, length, get_or, refl, ◌∙◌, ap, arith}
use Rattle.wq_base.specs.Byte.{is_slash}
use Rattle.wq_glob.specs.Atom.{Atom}
use Rattle.wq_glob.specs.Mark.{Mark, marks, marks_from}
use Rattle.wq_glob.specs.FitsTest.{Reach, Single, Many, Directories, reach, admits, directories, many, single, part_of, atom_form, fits_by}
use Rattle.wq_glob.specs.Pattern.{PatternData, atoms_of, fits, Fits}
use Rattle.wq_glob.specs.Step.{AllStand, IsCompiled, step_admits}
use Rattle.wq_glob.specs.Cell.{marks_of, step_fits}
use Rattle.wq_glob.specs.declared.rules.Rules.{Rules}
use Rattle.wq_glob.specs.declared.step.Step.{Step}
use Rattle.wq_glob.proofs.FitsLaws.{cuts_from_test, test_from_cuts}
use Rattle.wq_glob.proofs.AtomLemmas.{atoms_few}

-- each mark is of a byte
abbrev pub AreBytes : List Mark → Type 0
AreBytes [] = Unit {0}
AreBytes (x ∷ xs) = (x.byte < 256) × AreBytes xs

-- the marks of a text of bytes are of bytes
pub marks_are_bytes : (dotfiles front : Bool) (text : List ℕ) → ((i : ℕ) → get_or text i 0 < 256) → AreBytes (marks_from dotfiles front text)
marks_are_bytes dotfiles front [] small = tt
marks_are_bytes dotfiles front (b ∷ bs) small = (small 0, marks_are_bytes dotfiles (is_slash b) bs (λ i. small (suc i)))

module _ (test other : Mark → Bool) (fit like : List Mark → Bool) (same_test : (x : Mark) → x.byte < 256 → test x ≡ other x) (same_fit : (xs : List Mark) → AreBytes xs → fit xs ≡ like xs) where
  same_single : (xs : List Mark) → AreBytes xs → single test fit xs ≡ single other like xs
  same_single [] bytes = refl
  same_single (x ∷ xs) bytes = rw (same_test x bytes.0, same_fit xs bytes.1) refl

  same_many : (xs : List Mark) → AreBytes xs → many test fit xs ≡ many other like xs
  same_many [] bytes = same_fit [] bytes
  same_many (x ∷ xs) bytes = rw (same_fit (x ∷ xs) bytes, same_test x bytes.0, same_many xs bytes.1) refl

  -- two tests that agree on bytes find the same directories
  pub same_folders : (xs : List Mark) → AreBytes xs → directories test fit xs ≡ directories other like xs
  same_folders [] bytes = refl
  same_folders (x ∷ xs) bytes = rw (same_test x bytes.0, same_folders xs bytes.1, same_fit xs bytes.1) refl

  same_part : (r : Reach) (xs : List Mark) → AreBytes xs → part_of r test fit xs ≡ part_of r other like xs
  same_part Single xs bytes = same_single xs bytes
  same_part Many xs bytes = same_many xs bytes
  same_part Directories xs bytes = rw (same_fit xs bytes, same_folders xs bytes) refl

-- steps that stand for atoms fit the texts that these fit
pub same_fits : (f : Rules) (steps : List Step) (atoms : List Atom) → AllStand f steps atoms → (xs : List Mark) → AreBytes xs → step_fits f steps xs ≡ fits_by (atom_form f.flags) atoms xs
same_fits f [] [] all xs bytes = refl
same_fits f [] (a ∷ atoms) all xs bytes = absurd all
same_fits f (s ∷ steps) [] all xs bytes = absurd all
same_fits f (s ∷ steps) (a ∷ atoms) (stands, all) xs bytes =
    ap (λ (r : Reach). part_of r (step_admits f s) (step_fits f steps) xs) stands.same_reach
    ∙ same_part (step_admits f s) (admits f.flags a) (step_fits f steps) (fits_by (atom_form f.flags) atoms) stands.same_bytes (same_fits f steps atoms all) (reach a) xs bytes

-- there are as many steps as atoms
pub same_length : (f : Rules) (steps : List Step) (atoms : List Atom) → AllStand f steps atoms → length steps ≡ length atoms
same_length f [] [] all = refl
same_length f [] (a ∷ atoms) all = absurd all
same_length f (s ∷ steps) [] all = absurd all
same_length f (s ∷ steps) (a ∷ atoms) all = ap suc (same_length f steps atoms all.1)

module _ (g : PatternData) (text : List ℕ) (f : Rules) (steps : List Step) (is : record { text = text; flags = f.flags } ≡ g) (compiled : IsCompiled text f steps) where
  -- the steps of a pattern are as many as its atoms
  pub steps_count : length steps ≡ length (atoms_of g)
  unfolding atoms_of
  steps_count = same_length f steps _ compiled.stands ∙ ap (λ (v : PatternData). length (atoms_of v)) is

  -- which are at most 255
  pub steps_few : length steps ≤ 255
  steps_few = omega (arith, same_length f steps _ compiled.stands, atoms_few f.flags (length text) true text, compiled.short)

-- the test says yes exactly if the pattern fits
pub fits_cuts : (g : PatternData) (text : List ℕ) → fits g text ≡ true → Fits g text
unfolding fits Fits
fits_cuts g text h = cuts_from_test g.flags (atoms_of g) (marks (g.flags).dotfiles text) h

-- and if it fits, the test says yes
pub cuts_fits : (g : PatternData) (text : List ℕ) → Fits g text → fits g text ≡ true
unfolding fits Fits
cuts_fits g text h = test_from_cuts g.flags (atoms_of g) (marks (g.flags).dotfiles text) h

-- the steps of a pattern fit the texts that the pattern fits
steps_fit : (pattern : List ℕ) (f : Rules) (steps : List Step) → IsCompiled pattern f steps → (text : List ℕ) → ((i : ℕ) → get_or text i 0 < 256) →
    step_fits f steps (marks_of f text) ≡ fits (record { text = pattern; flags = f.flags }) text
unfolding fits atoms_of
steps_fit pattern f steps compiled text small = same_fits f steps _ compiled.stands _ (marks_are_bytes f.flags.dotfiles true text small)

-- the result of the matcher for the steps is that for the pattern
pub matched : (g : PatternData) (text pattern : List ℕ) (f : Rules) (steps slice : List Step) (answer : Bool) → record { text = pattern; flags = f.flags } ≡ g → IsCompiled pattern f steps → slice ≡ steps →
    ((i : ℕ) → get_or text i 0 < 256) → answer ≡ step_fits f slice (marks_of f text) → answer ≡ fits g text
matched g text pattern f steps slice answer is compiled same small says =
    says
    ∙ ap (λ (l : List Step). step_fits f l (marks_of f text)) same
    ∙ steps_fit pattern f steps compiled text small
    ∙ ap (λ (v : PatternData). fits v text) is
