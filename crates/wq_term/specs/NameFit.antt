-- The part of a file's name that a pattern is tried on, and whether it fits. From Watchman's
-- documentation of the terms `match` and `imatch`.
use Rattle.std.specs.Prelude.{ℕ, Bool, List, if◌then◌else◌}
use Rattle.wq_glob.specs.Pattern.{PatternData, fits}
use Rattle.wq_glob.specs.declared.flag.Flags.{Flags}
use Rattle.wq_term.specs.declared.expr.Scope.{Scope}
use Rattle.wq_term.specs.declared.expr.Scope.TheVariants.{Basename, Wholename}
use Rattle.wq_term.specs.Text.{scope_part}

-- the part of a name that a pattern with these flags is for
abbrev pub scope_with : Flags → Scope
scope_with flags = if flags.wholename then Wholename else Basename

-- whether that part of a name fits the pattern
abbrev pub name_fits : PatternData → List ℕ → Bool
name_fits glob name = fits glob (scope_part (scope_with glob.flags) name)
