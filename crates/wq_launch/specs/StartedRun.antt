-- A run of a command.
-- It is this server's own.
use Rattle.std.specs.Prelude.{ℕ, List}

-- a run: the number that its start gave, and the input of the command
pub record StartedRun : Type 0 where
  pub number : ℕ
  pub input : List ℕ
