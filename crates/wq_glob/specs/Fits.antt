-- The meaning of a fit: some cut of the text gives each atom in turn a part that it takes. After
-- git's wildmatch, in this server's own profile; no search is in it.
use Rattle.std.specs.Prelude.{◌≡◌, Bool, not, ◌==◌, ◌&&◌, IsTrue, ◌⊎◌, List, [], ◌∷◌, ◌++◌}
use Rattle.std.specs.List.{list_all}
use Rattle.wq_base.specs.Byte.{is_slash}
use Rattle.wq_glob.specs.Byte.{lower_if}
use Rattle.wq_glob.specs.Class.{in_class}
use Rattle.wq_glob.specs.Atom.{Atom, Literal, One, OneOf, Star, Dirs, Rest, Nothing}
use Rattle.wq_glob.specs.Mark.{Mark}
use Rattle.wq_glob.specs.declared.flag.Flags.{Flags}

-- no hidden dot, which only a literal takes
abbrev pub has_no_hidden_dot : Mark → Bool
has_no_hidden_dot x = not x.hidden

-- the bytes that `?`, a class and `*` may take: no hidden dot, and with `wholename` no slash
abbrev pub is_wild : Flags → Mark → Bool
is_wild f x = has_no_hidden_dot x && not (f.wholename && is_slash x.byte)

-- the part is one byte, which passes the test
abbrev pub IsOne : (Mark → Bool) → List Mark → Type 0
IsOne test part = (x : Mark) × (part ≡ x ∷ []) × IsTrue (test x)

-- each byte of the part passes the test
abbrev pub IsEach : (Mark → Bool) → List Mark → Type 0
IsEach test part = IsTrue (list_all test part)

-- the part ends in a slash
abbrev pub EndsInSlash : List Mark → Type 0
EndsInSlash part =
    (body : List Mark) × (x : Mark) × (part ≡ body ++ x ∷ []) × IsTrue (is_slash x.byte)

-- the atom takes the part
abbrev pub Takes : Flags → Atom → List Mark → Type 0
Takes f (Literal b) part = IsOne (λ x. lower_if f.fold x.byte == lower_if f.fold b) part
Takes f One part = IsOne (is_wild f) part
Takes f (OneOf c) part = IsOne (λ x. is_wild f x && in_class f.fold c x.byte) part
Takes f Star part = IsEach (is_wild f) part
Takes f Dirs part = (part ≡ []) ⊎ (IsEach has_no_hidden_dot part × EndsInSlash part)
Takes f Rest part = IsEach has_no_hidden_dot part
Takes f Nothing part = ⊥

-- a cut of the text gives the first atom a part that it takes, and the later ones parts of the rest
abbrev pub Cuts : Flags → List Atom → List Mark → Type 0
Cuts f [] text = text ≡ []
Cuts f (a ∷ later) text =
    (part : List Mark) × (after : List Mark) × (text ≡ part ++ after)
    × Takes f a part × Cuts f later after
