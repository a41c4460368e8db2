-- Tables of names, in which a text names one of several things. No public document defines them.
use Rattle.std.specs.Prelude.{ℕ, List, bytes_eq, Option}
use Rattle.std.specs.List.{find}

-- the item of a list whose name is this text
abbrev pub named : {A : Type 0} → (A → List ℕ) → List A → List ℕ → Option A
named name_of all text = find (λ a. bytes_eq text (name_of a)) all
