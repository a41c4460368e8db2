-- How much a shelf holds. No public document defines it.
use Rattle.std.specs.Prelude.{ℕ}

-- how many programs there may be
abbrev pub max_programs : ℕ
max_programs = 256

-- how many cursors a root may have
abbrev pub max_cursors : ℕ
max_cursors = 256

-- how many triggers
abbrev pub max_triggers : ℕ
max_triggers = 64
