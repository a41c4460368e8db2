-- Two lists of positions as one. The definition is this server's own.
use Rattle.std.specs.Prelude.{ℕ, nat_lt, ◌==◌, if◌then◌else◌, List, [], ◌∷◌}

-- the union of two lists, the first of which begins with this position, by the unions of the later
-- positions
abbrev pub put_position : ℕ → (List ℕ → List ℕ) → List ℕ → List ℕ
put_position x later [] = x ∷ later []
put_position x later (y ∷ ys) =
    if nat_lt x y then x ∷ later (y ∷ ys)
    else if x == y then x ∷ later ys
    else y ∷ put_position x later ys

-- the positions of two ascending lists as one such list, each once
abbrev pub union : List ℕ → List ℕ → List ℕ
union [] ys = ys
union (x ∷ xs) ys = put_position x (union xs) ys
