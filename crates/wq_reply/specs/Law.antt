-- The law about the cost of plans. No public document defines it.
use Rattle.std.specs.Prelude.{◌≡◌, None}
use Rattle.wq_reply.specs.declared.plan.Plan.{Plan}
use Rattle.wq_reply.specs.Meaning.{KeepsMeasure}
use Rattle.wq_reply.specs.Plan.{planned, program_in}

-- on each record that a view can have, the program of a plan takes no more steps than the measure
-- of its query's expression, unless the query names a program
abbrev pub PlansKeepMeasures : Type 0
PlansKeepMeasures = (plan : Plan) → ((planned plan).query).program ≡ None
    → KeepsMeasure (program_in plan) ((planned plan).query).expression
