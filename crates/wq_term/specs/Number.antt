-- The tests whether something is after a bound. From Watchman's documentation of the term `since`.
use Rattle.std.specs.Prelude.{ℕ, ℤ, Bool, int_lt, nat_lt}
use Rattle.wq_clock.specs.declared.bound.Bound.{Bound}
use Rattle.wq_clock.specs.declared.bound.Bound.TheVariants.{Fresh, Tick, Second}
use Rattle.wq_base.specs.Name.{seconds_of}
use Rattle.wq_record.specs.RecordData.{RecordData}
use Rattle.wq_term.specs.declared.expr.Since.{Since}
use Rattle.wq_term.specs.declared.expr.Since.TheVariants.{Observed, Created, Modified}

-- whether a moment, by its tick and its second, lies strictly after a bound; if the client knows
-- nothing, whether the file exists
abbrev pub is_after : Bound → Bool → ℕ → ℤ → Bool
is_after Fresh exists tick second = exists
is_after (Tick bound) exists tick second = nat_lt bound tick
is_after (Second bound) exists tick second = int_lt bound second

-- whether a record changed, came, or was modified after the point that `since` says
abbrev pub is_since : Since → RecordData → Bool
is_since (Observed bound) r = is_after bound r.exists r.otick r.osec
is_since (Created bound) r = is_after bound r.exists r.ctick r.csec
is_since (Modified second) r = int_lt second (seconds_of r.mtime_ms)
