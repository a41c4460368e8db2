-- A pattern as a contract sees it: its text and its flags. Its atoms and the texts that it fits
-- follow from them. After git's wildmatch, in this server's own profile.
use Rattle.std.specs.Prelude.{ℕ, true, Bool, ◌&&◌, List, length}
use Rattle.std.specs.Str.{bytes_eq}
use Rattle.std.specs.Cmp.{IsEquivalence, and_equiv, bool_eq_equiv, on_equiv}
use Rattle.std.specs.Cmp.Lexicographic.{nat_list_eq_equiv}
use mathlib.Core.Bool.{beq}
use Rattle.wq_glob.specs.Atom.{Atom, atoms_from}
use Rattle.wq_glob.specs.Mark.{marks}
use Rattle.wq_glob.specs.Fits.{Cuts}
use Rattle.wq_glob.specs.FitsTest.{atom_form, fits_by}
use Rattle.wq_glob.specs.Cost.{cost}
use Rattle.wq_glob.specs.declared.flag.Flags.{Flags}

-- the text and the flags of a pattern
pub record PatternData : Type 0 where
  pub text : List ℕ
  pub flags : Flags

-- the atoms of a pattern, in the order of its text
unfoldable pub atoms_of : PatternData → List Atom
atoms_of g = atoms_from (length g.text) g.flags true g.text

-- the pattern fits the text: some cut gives each of its atoms in turn a part that it takes
unfoldable pub Fits : PatternData → List ℕ → Type 0
Fits g text = Cuts g.flags (atoms_of g) (marks (g.flags).dotfiles text)

-- the pattern fits the text, as a test that computes
unfoldable pub fits : PatternData → List ℕ → Bool
fits g text = fits_by (atom_form g.flags) (atoms_of g) (marks (g.flags).dotfiles text)

-- how many cells of the table of its atoms and of the text a match looks at
unfoldable pub cells_of : PatternData → List ℕ → ℕ
cells_of g text = cost (atom_form g.flags) (atoms_of g) (marks (g.flags).dotfiles text)

-- two sets of flags are the same
abbrev pub same_flags : Flags → Flags → Bool
same_flags f g =
    beq f.wholename g.wholename && beq f.dotfiles g.dotfiles
    && beq f.noescape g.noescape && beq f.fold g.fold

-- two patterns are the same if their texts and their flags are
abbrev pub same_pattern : PatternData → PatternData → Bool
same_pattern g h = bytes_eq g.text h.text && same_flags g.flags h.flags

-- whether a flag is the same is an equivalence
flag_equiv : (flag : Flags → Bool) → IsEquivalence (λ f g. beq (flag f) (flag g))
flag_equiv flag = on_equiv flag bool_eq_equiv

-- and so is whether all flags are
same_flags_equiv : IsEquivalence same_flags
same_flags_equiv =
    and_equiv (and_equiv (and_equiv (flag_equiv (λ f. f.wholename)) (flag_equiv (λ f. f.dotfiles)))
    (flag_equiv (λ f. f.noescape))) (flag_equiv (λ f. f.fold))

-- whether two patterns are the same is an equivalence
pub same_pattern_equiv : IsEquivalence same_pattern
same_pattern_equiv =
    and_equiv (on_equiv (λ (g : PatternData). g.text) nat_list_eq_equiv)
    (on_equiv (λ (g : PatternData). g.flags) same_flags_equiv)
