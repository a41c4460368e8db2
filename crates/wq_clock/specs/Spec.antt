-- The plain clock spec of a `Spec`, in which a cursor's name is its bytes. The forms are those of
-- Watchman's documentation of clockspecs.
use Rattle.std.specs.Prelude.{Option, Some, None, Result, Ok, Err}
use Rattle.wq_clock.specs.Instance.{instance_data}
use Rattle.wq_clock.specs.ClockSpec.{SpecData, clock_id, old_clock_id, named_cursor}
use Rattle.wq_clock.specs.declared.parser.ClockFault.{ClockFault}
use Rattle.wq_clock.specs.declared.parser.Spec.{Spec}
use Rattle.wq_clock.specs.declared.parser.Spec.TheVariants.{Id, OldId, Cursor}

-- the clock spec of a `Spec`
abbrev pub spec_data : Spec → SpecData
spec_data (Id instance tick) = clock_id (instance_data instance) tick
spec_data OldId = old_clock_id
spec_data (Cursor name) = named_cursor name.now

-- the clock spec that was read, if any
abbrev pub said_by : Result Spec ClockFault → Option SpecData
said_by (Ok spec) = Some (spec_data spec)
said_by (Err _) = None
