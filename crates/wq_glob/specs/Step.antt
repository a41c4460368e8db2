-- The meaning of the steps of a compiled pattern, and that they stand for its atoms. This library's
-- own; `Atom` defines atoms.
use Rattle.std.specs.Prelude.{◌≡◌, ℕ, ◌<◌, Bool, true, false, ◌==◌, ◌&&◌, ◌≤◌}
use Rattle.std.specs.Prelude.{List, [], ◌∷◌, ◌++◌, length}
use Rattle.wq_base.specs.Byte.{is_slash}
use Rattle.wq_glob.specs.Byte.{lower_if}
use Rattle.wq_glob.specs.ByteSet.{has_byte, in_set}
use Rattle.wq_glob.specs.Atom.{Atom, opens, atoms_from}
use Rattle.wq_glob.specs.Mark.{Mark}
use Rattle.wq_glob.specs.Fits.{has_no_hidden_dot, is_wild}
use Rattle.wq_glob.specs.FitsTest.{Reach, Single, Many, Directories, Form, is_literal, reach}
use Rattle.wq_glob.specs.FitsTest.{admits}
use Rattle.wq_glob.specs.Limit.{max_pattern_length}
use Rattle.wq_glob.specs.declared.byte_set.ByteSet.{ByteSet}
use Rattle.wq_glob.specs.declared.flag.Flags.{Flags}
use Rattle.wq_glob.specs.declared.parser.Piece.{Piece}
use Rattle.wq_glob.specs.declared.parser.Piece.TheVariants.{Plain, Held}
use Rattle.wq_glob.specs.declared.row.Seen.{Seen}
use Rattle.wq_glob.specs.declared.rules.Rules.{Rules}
use Rattle.wq_glob.specs.declared.step.Step.{Step}
use Rattle.wq_glob.specs.declared.step.Step.TheVariants.{Byte, AnyByte, Set, Stars, Below, Tail}
use Rattle.wq_glob.specs.declared.step.Step.TheVariants.{Never}

-- how far each step reaches
abbrev pub step_reach : Step → Reach
step_reach Stars = Many
step_reach Tail = Many
step_reach Below = Directories
step_reach _ = Single

-- a mark as the steps of a pattern with these rules see it
abbrev pub seen_of : Rules → Mark → Seen
seen_of f x = record {
  byte = x.byte;
  folded = lower_if f.flags.fold x.byte;
  slash = is_slash x.byte;
  shown = has_no_hidden_dot x;
  wild = is_wild f.flags x;
}

-- a step may take this byte
abbrev pub step_takes : Rules → Step → Seen → Bool
step_takes f (Byte b) s = s.folded == b
step_takes f AnyByte s = s.wild
step_takes f (Set number) s = s.wild && in_set f.sets.items number s.byte
step_takes f Stars s = s.wild
step_takes f Below s = s.shown
step_takes f Tail s = s.shown
step_takes f Never s = false

-- the bytes that a step's part may hold
abbrev pub step_admits : Rules → Step → Mark → Bool
step_admits f step x = step_takes f step (seen_of f x)

-- the step is of a literal
abbrev pub is_byte : Step → Bool
is_byte (Byte _) = true
is_byte _ = false

-- the facts of steps that a test has to know
abbrev pub step_form : Rules → Form Step
step_form f = record { reach_of = step_reach; admits_of = step_admits f; is_literal = is_byte }

-- a run of stars may mean directories after these steps
abbrev pub step_opens : Step → Bool
step_opens (Byte b) = is_slash b
step_opens Below = true
step_opens _ = false

-- the step takes the parts that the atom takes
pub record IsStepOf (f : Rules) (step : Step) (atom : Atom) : Type 0 where
  pub same_reach : step_reach step ≡ reach atom
  pub same_bytes : (x : Mark) → x.byte < 256 → step_admits f step x ≡ admits f.flags atom x
  pub same_opening : step_opens step ≡ opens atom
  pub same_literal : is_byte step ≡ is_literal atom

-- the steps stand for the atoms, one for each in order
abbrev pub AllStand : Rules → List Step → List Atom → Type 0
AllStand f [] [] = Unit {0}
AllStand f (s ∷ steps) (a ∷ atoms) = IsStepOf f s a × AllStand f steps atoms
AllStand f _ _ = ⊥

-- the steps of a pattern: its text is not too long, and they stand for its atoms; each that names
-- a set takes the bytes of that set
pub record IsCompiled (text : List ℕ) (f : Rules) (steps : List Step) : Type 0 where
  pub short : length text ≤ max_pattern_length
  pub stands : AllStand f steps (atoms_from (length text) f.flags true text)

-- what was read of an atom: its step, or its set, if some number names that set
abbrev pub IsPieceOf : Flags → Piece → Atom → Type 0
IsPieceOf flags (Plain step) atom = (f : Rules) → f.flags ≡ flags → IsStepOf f step atom
IsPieceOf flags (Held set) atom = (f : Rules) (number : ℕ) → f.flags ≡ flags
    → ((b : ℕ) → b < 256 → in_set f.sets.items number b ≡ has_byte set b)
    → IsStepOf f (Set number) atom

-- the step that is kept of what was read: a set is put after the others, and numbered by its place
abbrev pub IsKept : Piece → List ByteSet → List ByteSet → Step → Type 0
IsKept (Plain same) old new step = (new ≡ old) × (step ≡ same)
IsKept (Held set) old new step = (new ≡ old ++ set ∷ []) × (step ≡ Set (length old))
