-- Things under names, in the order in which a client sees them. No public document defines it.
use Rattle.std.specs.Prelude.{ℕ, zero, suc, Bool, List, [], ◌∷◌, Option, None, Some, map, length}
use Rattle.std.specs.Prelude.{is_some, not, ◌&&◌, nat_le, if◌then◌else◌}
use Rattle.std.specs.Str.{bytes_eq}

-- things, each with its name, which is a list of bytes
abbrev pub ByName : Type 0 → Type 0
ByName A = List (List ℕ × A)

module _ {A : Type 0} where
  -- the names
  abbrev pub names : ByName A → List (List ℕ)
  names xs = map (λ x. x.0) xs

  -- the things alone
  abbrev pub values : ByName A → List A
  values xs = map (λ x. x.1) xs

  -- the thing under a name
  abbrev pub under : List ℕ → ByName A → Option A
  under name [] = None
  under name (x ∷ xs) = if bytes_eq name x.0 then Some x.1 else under name xs

  -- the things after one is put under a name: it takes the place of the one there, or comes last
  abbrev pub put : List ℕ → A → ByName A → ByName A
  put name a [] = (name, a) ∷ []
  put name a (x ∷ xs) = if bytes_eq name x.0 then (x.0, a) ∷ xs else x ∷ put name a xs

  -- the things without the one under a name; the others keep their order
  abbrev pub without : List ℕ → ByName A → ByName A
  without name [] = []
  without name (x ∷ xs) = if bytes_eq name x.0 then xs else x ∷ without name xs

  -- whether one more has no place: its name is new, and there are as many as may be
  abbrev pub has_no_place : ℕ → List ℕ → ByName A → Bool
  has_no_place limit name xs = not (is_some (under name xs)) && nat_le limit (length xs)

  -- the things with another one under the name at a place
  abbrev pub put_at : ℕ → A → ByName A → ByName A
  put_at k a [] = []
  put_at zero a (x ∷ xs) = (x.0, a) ∷ xs
  put_at (suc k) a (x ∷ xs) = x ∷ put_at k a xs
