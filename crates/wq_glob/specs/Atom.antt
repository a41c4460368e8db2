-- How a pattern is read into atoms, from left to right, byte by byte.
-- After git's wildmatch, in this server's own profile.
use Rattle.std.specs.Prelude.{ℕ, zero, suc, Bool, true, false, ◌==◌, ◌&&◌, if◌then◌else◌, nat_le}
use Rattle.std.specs.Prelude.{List, [], ◌∷◌, drop, Option, Some, None}
use Rattle.std.specs.List.{list_any, prefix_len}
use Rattle.std.specs.Str.{byte}
use Rattle.wq_base.specs.Byte.{is_slash}
use Rattle.wq_glob.specs.Byte.{is_star, is_open}
use Rattle.wq_glob.specs.Class.{Class}
use Rattle.wq_glob.specs.Reading.{begins, letter, class_at}
use Rattle.wq_glob.specs.declared.class.Item.{Item}
use Rattle.wq_glob.specs.declared.class.Item.TheVariants.{Unknown}
use Rattle.wq_glob.specs.declared.flag.Flags.{Flags}

-- an atom of a pattern: a byte, `?`, a class, `*`, `**/`, a last `**`, and the atom that no text
-- fits
pub data Atom : Type 0 where
  Literal : ℕ → Atom
  One : Atom
  OneOf : Class → Atom
  Star : Atom
  Dirs : Atom
  Rest : Atom
  Nothing : Atom

-- a run of stars may mean directories at the pattern's beginning and after these atoms
abbrev pub opens : Atom → Bool
opens (Literal b) = is_slash b
opens Dirs = true
opens _ = false

-- the atom of a byte that was read, and the rest; if none was read, nothing fits and no rest is
-- left
abbrev pub literal_of : Option (ℕ × List ℕ) → Atom × List ℕ
literal_of None = (Nothing, [])
literal_of (Some (b, after)) = (Literal b, after)

-- a byte that stands for itself, after a backslash if one escapes it
unfoldable pub literal_at : Bool → List ℕ → Atom × List ℕ
literal_at noescape text = literal_of (letter noescape text)

-- a name between `[:` and `:]` that no class has
abbrev pub is_unknown : Item → Bool
is_unknown Unknown = true
is_unknown _ = false

-- a class as an atom: if a name in it is unknown, no text fits it, not even if it is negated
abbrev pub known_class : Class → Atom
known_class c = if list_any is_unknown c.items then Nothing else OneOf c

-- the atom of a class that was read, and the rest; without its end nothing fits and no rest is left
abbrev pub class_of : Option (Class × List ℕ) → Atom × List ℕ
class_of None = (Nothing, [])
class_of (Some (c, after)) = (known_class c, after)

-- the class after a `[`
unfoldable pub one_of_at : Bool → List ℕ → Atom × List ℕ
one_of_at noescape text = class_of (class_at noescape text)

-- the atom of two stars or more, at a place where directories may begin, by the text after them
abbrev pub stars_before : List ℕ → Atom × List ℕ
stars_before [] = (Rest, [])
stars_before (b ∷ bs) = if is_slash b then (Dirs, bs) else (Star, b ∷ bs)

-- all the stars at the front of a text: one star, unless with `wholename` they are two or more and
-- directories may begin here
unfoldable pub stars_at : Bool → Bool → List ℕ → Atom × List ℕ
stars_at wholename start text =
    let run = prefix_len is_star text in
    if wholename && start && nat_le 2 run
    then stars_before (drop run text) else (Star, drop run text)

-- the atom at the front of a text, which is not empty, and the rest
unfoldable pub first_atom : Flags → Bool → List ℕ → Atom × List ℕ
first_atom f start text =
    if begins is_star text then stars_at f.wholename start text
    else if begins (λ b. b == byte "?") text then (One, drop 1 text)
    else if begins is_open text then one_of_at f.noescape (drop 1 text)
    else literal_at f.noescape text

-- The atoms of a text; the flag says whether directories may begin at its front. A text has at most
-- as many atoms as bytes, so its length is enough for the first argument.
unfoldable pub atoms_from : ℕ → Flags → Bool → List ℕ → List Atom
atoms_from zero f start text = []
atoms_from (suc n) f start [] = []
atoms_from (suc n) f start (b ∷ bs) =
    let (atom, after) = first_atom f start (b ∷ bs) in atom ∷ atoms_from n f (opens atom) after
