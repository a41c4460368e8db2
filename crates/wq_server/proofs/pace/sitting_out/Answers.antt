-- the longer one of the pause, and of it with the turns that the root sits out
use Rattle.std.proofs.Common.{◌≡◌, ◌+◌, ◌*◌, inl, inr, min, arith, ap}
use Rattle.std.specs.Duration.{as_nanos, max_nanos}
use Rattle.wq_server.proofs.Shares.{summed}
use Rattle.wq_server.proofs.pace.sitting_out.Goals as goal

pub returns-clause-exact : goal.returns-clause-exact
returns-clause-exact c fits =
    let turns = c.args.turns in
    let walk = as_nanos c.args.walk in
    let pause = as_nanos c.args.pause in
    let sum : as_nanos c.saturating_add.result ≡ min (pause + turns * (walk + pause)) max_nanos =
    summed turns walk pause _ _ _ max_nanos c.saturating_add-turn.ensures c.saturating_mul.ensures c.saturating_add.ensures in
    elim c.longer.ensures.either [
      | inl is ↦ omega (arith, ap as_nanos is, sum, fits, c.longer.ensures.second)
      | inr is ↦ omega (arith, ap as_nanos is, sum, fits)
    ]

pub returns-clause-out : goal.returns-clause-out
returns-clause-out c =
    let turns = c.args.turns in
    let walk = as_nanos c.args.walk in
    let pause = as_nanos c.args.pause in
    let sum : as_nanos c.saturating_add.result ≡ min (pause + turns * (walk + pause)) max_nanos =
    summed turns walk pause _ _ _ max_nanos c.saturating_add-turn.ensures c.saturating_mul.ensures c.saturating_add.ensures in
    omega (arith, sum, c.longer.ensures.second)
