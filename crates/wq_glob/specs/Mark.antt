-- A path as a pattern sees it: its bytes, each with whether it is a dot that hides a name.
-- After the leading dots of POSIX's pattern matching for file names.
use Rattle.std.specs.Prelude.{ℕ, Bool, true, not, ◌&&◌, List, [], ◌∷◌}
use Rattle.wq_base.specs.Byte.{is_slash, is_dot}

-- a byte of the text, and whether it is a hidden dot
pub record Mark : Type 0 where
  pub byte : ℕ
  pub hidden : Bool

-- the mark of a byte, at the front of a name or not: its dots are hidden unless `dotfiles`
abbrev pub mark : Bool → Bool → ℕ → Mark
mark dotfiles front b = record { byte = b; hidden = not dotfiles && front && is_dot b }

-- the marks of a text that begins at the front of a name or not; each slash ends a name
abbrev pub marks_from : Bool → Bool → List ℕ → List Mark
marks_from dotfiles front [] = []
marks_from dotfiles front (b ∷ bs) =
    mark dotfiles front b ∷ marks_from dotfiles (is_slash b) bs

-- the marks of a text, which begins a name
abbrev pub marks : Bool → List ℕ → List Mark
marks dotfiles text = marks_from dotfiles true text
