-- The point after which an observation is new to a client, as its clock spec gives it. The source
-- is Watchman's documentation of clockspecs and of the query key `since`.
use Rattle.std.specs.Prelude.{Bool, true, false, ◌&&◌, ◌==◌, Option, Some, None, if◌then◌else◌}
use Rattle.wq_clock.specs.Instance.{InstanceData}
use Rattle.wq_clock.specs.ClockSpec.{SpecData, clock_id, old_clock_id, named_cursor}
use Rattle.wq_clock.specs.declared.bound.Bound.{Bound}
use Rattle.wq_clock.specs.declared.bound.Bound.TheVariants.{Fresh, Tick}

-- the bound of a clock spec at an instance: an id with the same three numbers gives its tick, all
-- other ids are fresh, and a cursor has no bound
abbrev pub bound_of : SpecData → InstanceData → Option Bound
bound_of (clock_id other tick) instance =
    if (other.start == instance.start) && (other.pid == instance.pid)
    && (other.root == instance.root)
    then Some (Tick tick) else Some Fresh
bound_of old_clock_id instance = Some Fresh
bound_of (named_cursor name) instance = None

-- whether the client knows nothing
abbrev pub is_fresh : Bound → Bool
is_fresh Fresh = true
is_fresh _ = false
