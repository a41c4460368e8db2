-- The limits of what a line may name.
-- They are this server's own.
use Rattle.std.specs.Prelude.{ℕ}

-- the most bytes of a root, as it is given
abbrev pub max_root_length : ℕ
max_root_length = 4096

-- the most bytes of the name of a program
abbrev pub max_program_name : ℕ
max_program_name = 255
