-- Quiet roots: nothing changed there for long, and no client asked of them. Each sits out some of its
-- turns. It is the server's own, and from no public document.
use Rattle.std.specs.Prelude.{ℕ, ◌*◌, Bool, ◌||◌, not, Option, None, Some, nat_lt, ◌==◌, if◌then◌else◌}
use Rattle.wq_server.specs.declared.quiet.Stir.{Stir}

-- how many turns a root sits out between two walks that was quiet for so long, if a root is quiet
-- after so long: none, so that it has its whole share; then one, so that it has a half; and a tenth of
-- that time later two, so that it has a third
abbrev pub turns_out : Option ℕ → ℕ → ℕ
turns_out None quiet = 0
turns_out (Some after) quiet =
    if nat_lt quiet after then 0
    else if nat_lt (quiet * 10) (after * 11) then 1
    else 2

-- a root is not quiet if its view is not the one of this tick any more, or a client asked of it
abbrev pub stirs : ℕ → Stir → Bool
stirs tick stir = not (tick == stir.tick) || stir.is_asked
