-- The directories into which a glance looks. No public document defines them.
use Rattle.std.specs.Prelude.{ℕ, Bool, List, bytes_eq}
use Rattle.std.specs.List.{list_any}

-- whether a name is one of these
abbrev pub is_one_of_names : List (List ℕ) → List ℕ → Bool
is_one_of_names names name = list_any (λ other. bytes_eq other name) names
