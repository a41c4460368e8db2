use Rattle.std.proofs.Common.{◌≡◌, ◌+◌, min, subst}
use Rattle.std.specs.Duration.{as_nanos, max_nanos}
use Rattle.wq_server.proofs.Shares.{kept}
use Rattle.wq_server.proofs.pace.rest_after.Goals as goal

pub returns : goal.returns
returns c some few small =
    kept c.args.part (as_nanos c.args.walk)
    (as_nanos c.saturating_mul.result) (as_nanos c.div-rest.result)
    (as_nanos c.saturating_add.result) max_nanos some few small
    c.saturating_mul.ensures c.div-rest.ensures
    (subst (λ n. as_nanos c.saturating_add.result ≡ min (as_nanos c.div-rest.result + n) max_nanos) c.from_nanos.ensures c.saturating_add.ensures)
