-- the pause is no shorter than the rest of the level, and than the turns that the root sits out
use Rattle.std.proofs.Common.{arith}
use Rattle.std.specs.Duration.{as_nanos, max_nanos}
use Rattle.wq_server.proofs.Shares.{longer, sits_out, takes_less}
use Rattle.wq_server.proofs.pace.cycle_of.Goals as goal

pub returns-clause-interval : goal.returns-clause-interval
returns-clause-interval c = omega (arith, c.longer-pause.ensures.first, c.sitting_out.ensures.longer)

pub returns-clause-out : goal.returns-clause-out
returns-clause-out c =
    sits_out c.args.turn.out (as_nanos c.args.interval) (as_nanos c.args.turn.walk) (as_nanos c.longer-pause.result)
    (as_nanos c.sitting_out.result) max_nanos c.longer-pause.ensures.first c.sitting_out.ensures.out

pub returns-clause-part : goal.returns-clause-part
returns-clause-part c some few small =
    let walk = as_nanos c.args.turn.walk in
    longer c.args.level walk (as_nanos c.longer-pause.result) (as_nanos c.sitting_out.result)
    (longer c.args.level walk (as_nanos c.rest_after.result) (as_nanos c.longer-pause.result)
    (c.rest_after.ensures some few small) c.longer-pause.ensures.second) c.sitting_out.ensures.longer

pub returns-clause-less : goal.returns-clause-less
returns-clause-less c some few small =
    let walk = as_nanos c.args.turn.walk in
    takes_less c.args.level c.args.turn.out walk (as_nanos c.longer-pause.result) (as_nanos c.sitting_out.result) max_nanos
    (longer c.args.level walk (as_nanos c.rest_after.result) (as_nanos c.longer-pause.result)
    (c.rest_after.ensures some few small) c.longer-pause.ensures.second) c.sitting_out.ensures.out c.sitting_out.ensures.exact
