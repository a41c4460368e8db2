-- The texts of roots, as clients write them.
-- Slashes at the end mean nothing, and a root has a greatest length: both are this server's own.
use Rattle.std.specs.Prelude.{ℕ, Bool, ◌&&◌, ◌==◌, not, nat_eq, nat_le, List, length, codes}
use Rattle.std.specs.Prelude.{if◌then◌else◌}
use Rattle.std.specs.List.{list_any, starts_with}
use Rattle.wq_term.specs.Text.{without_end_slashes}
use Rattle.wq_ask.specs.Limit.{max_root_length}

-- the root that a text names: without the slashes at its end, but `/` if nothing else is left
abbrev pub root_named : List ℕ → List ℕ
root_named text =
    if length (without_end_slashes text) == 0 && not (length text == 0) then codes "/"
    else without_end_slashes text

-- whether a text may name a root to watch: an absolute path, not too long as given, in which no
-- byte is 0
abbrev pub is_absolute : List ℕ → Bool
is_absolute text =
    starts_with nat_eq text (codes "/") && nat_le (length text) max_root_length
    && not (list_any (λ b. b == 0) text)
