-- The same as a test that computes, atom by atom; `Law` has the law that ties it to the cuts. This
-- library's own.
use Rattle.std.specs.Prelude.{Bool, true, false, ◌==◌, ◌&&◌, ◌||◌, List, [], ◌∷◌}
use Rattle.wq_base.specs.Byte.{is_slash}
use Rattle.wq_glob.specs.Byte.{lower_if}
use Rattle.wq_glob.specs.Class.{in_class}
use Rattle.wq_glob.specs.Atom.{Atom, Literal, One, OneOf, Star, Dirs, Rest, Nothing}
use Rattle.wq_glob.specs.Mark.{Mark}
use Rattle.wq_glob.specs.Fits.{has_no_hidden_dot, is_wild}
use Rattle.wq_glob.specs.declared.flag.Flags.{Flags}

-- how far an atom reaches: over one byte, over any number of bytes, or over whole directories
pub data Reach : Type 0 where
  Single : Reach
  Many : Reach
  Directories : Reach

-- how far each atom reaches
abbrev pub reach : Atom → Reach
reach Star = Many
reach Rest = Many
reach Dirs = Directories
reach _ = Single

-- the bytes that an atom's part may hold
abbrev pub admits : Flags → Atom → Mark → Bool
admits f (Literal b) x = lower_if f.fold x.byte == lower_if f.fold b
admits f One x = is_wild f x
admits f (OneOf c) x = is_wild f x && in_class f.fold c x.byte
admits f Star x = is_wild f x
admits f Dirs x = has_no_hidden_dot x
admits f Rest x = has_no_hidden_dot x
admits f Nothing x = false

-- the atom is a literal
abbrev pub is_literal : Atom → Bool
is_literal (Literal _) = true
is_literal _ = false

-- the facts of a pattern's atoms that a test has to know: their reach, their bytes, which are
-- literals
pub record Form (A : Type 0) : Type 0 where
  pub reach_of : A → Reach
  pub admits_of : A → Mark → Bool
  pub is_literal : A → Bool

-- these facts of the atoms themselves
abbrev pub atom_form : Flags → Form Atom
atom_form f = record { reach_of = reach; admits_of = admits f; is_literal = is_literal }

-- the first byte passes, and the rest fits
abbrev pub single : (Mark → Bool) → (List Mark → Bool) → List Mark → Bool
single test fit [] = false
single test fit (x ∷ xs) = test x && fit xs

-- each byte of some front of the text passes, and the rest fits
abbrev pub many : (Mark → Bool) → (List Mark → Bool) → List Mark → Bool
many test fit [] = fit []
many test fit (x ∷ xs) = fit (x ∷ xs) || (test x && many test fit xs)

-- each byte of some front of the text, which ends in a slash, passes, and the rest fits
abbrev pub directories : (Mark → Bool) → (List Mark → Bool) → List Mark → Bool
directories test fit [] = false
directories test fit (x ∷ xs) = test x && (directories test fit xs || (is_slash x.byte && fit xs))

-- some front of the text is a part of this reach, and the rest fits
abbrev pub part_of : Reach → (Mark → Bool) → (List Mark → Bool) → List Mark → Bool
part_of Single test fit text = single test fit text
part_of Many test fit text = many test fit text
part_of Directories test fit text = fit text || directories test fit text

-- the text is empty
abbrev pub is_empty : List Mark → Bool
is_empty [] = true
is_empty _ = false

-- atoms of any form fit a text
abbrev pub fits_by : {A : Type 0} → Form A → List A → List Mark → Bool
fits_by form [] text = is_empty text
fits_by form (a ∷ later) text =
    part_of (form.reach_of a) (form.admits_of a) (fits_by form later) text
