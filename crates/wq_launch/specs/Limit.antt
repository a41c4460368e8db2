-- The limits of commands that run.
-- They are this server's own.
use Rattle.std.specs.Prelude.{ℕ}

-- how many commands may run at once
abbrev pub max_runs : ℕ
max_runs = 1024

-- how many failing starts are kept at most
abbrev pub max_failing : ℕ
max_failing = 1024

-- how many bytes the inputs that are not written yet may have together, if there are several
abbrev pub max_input_bytes : ℕ
max_input_bytes = 67108864
