-- a quarter of the share, divided among the roots
use Rattle.std.proofs.Common.{◌≡◌, ◌*◌, ◌≤◌, subst, arith, mul-le-mul_left}
use Rattle.std.specs.Duration.{as_nanos, max_nanos}
use Rattle.wq_server.specs.Pace.{KeepsPart}
use Rattle.wq_server.proofs.Shares.{longer, sits_out, takes_less}
use Rattle.wq_server.proofs.pace.Share.glance_pause.Goals as goal

pub returns-clause-interval : goal.returns-clause-interval
returns-clause-interval c = omega (arith, c.longer-pause.ensures.first, c.sitting_out.ensures.longer)

pub returns-clause-out : goal.returns-clause-out
returns-clause-out c =
    sits_out c.args.out (as_nanos c.args.interval) (as_nanos c.args.glance) (as_nanos c.longer-pause.result)
    (as_nanos c.sitting_out.result) max_nanos c.longer-pause.ensures.first c.sitting_out.ensures.out

pub returns-clause-part : goal.returns-clause-part
returns-clause-part c some few small =
    let part = c.even_part-part.result in
    let count = c.saturating_mul.result in
    let percent = c.args.self.now.percent in
    let fourfold : count ≡ 4 * c.args.roots = omega (arith, c.saturating_mul.ensures, few) in
    let one : 1 ≤ count = omega (arith, fourfold, some) in
    let enough : count ≤ c.millionths.result = omega (arith, fourfold, few, c.millionths.ensures, c.args.self.now.few.0) in
    let least : 1 ≤ part = c.even_part-part.ensures.some one enough in
    let times : part * 1 ≤ part * count = mul-le-mul_left part one in
    let most : part ≤ 1_000_000 = omega (arith, times, c.even_part-part.ensures.part, c.millionths.ensures, c.args.self.now.few.1) in
    let within : part * (4 * c.args.roots) ≤ percent * 10_000 =
    subst (λ n. part * n ≤ percent * 10_000) fourfold (subst (λ n. part * count ≤ n) c.millionths.ensures c.even_part-part.ensures.part) in
    let first : KeepsPart part (as_nanos c.args.glance) (as_nanos c.longer-pause.result) =
    longer part (as_nanos c.args.glance) (as_nanos c.rest_after.result) (as_nanos c.longer-pause.result) (c.rest_after.ensures least most small) c.longer-pause.ensures.second in (
      part,
      within,
      longer part (as_nanos c.args.glance) (as_nanos c.longer-pause.result) (as_nanos c.sitting_out.result) first c.sitting_out.ensures.longer,
      takes_less part c.args.out (as_nanos c.args.glance) (as_nanos c.longer-pause.result) (as_nanos c.sitting_out.result) max_nanos
          first c.sitting_out.ensures.out c.sitting_out.ensures.exact,
    )
