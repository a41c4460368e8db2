-- A root that needs little takes its need, and another one the level.
use Rattle.std.proofs.Common.{◌≤◌, ◌<◌, length, get_or, arith, refl}
use Rattle.wq_server.proofs.Levels.{enough_after_more, enough_after_need, is_left, one_more, takes_level, takes_need}
use Rattle.wq_server.proofs.pace.level_of.Goals as goal
use Rattle.wq_server.proofs.pace.level_of.Goals.{then-need-even, else-need-even}

pub loop-need-preserved : goal.loop-need-preserved
loop-need-preserved c =
    let needs = c.args.needs.now in
    let i = c.loop-need.need-index in
    let whole = c.args.whole in
    let even = c.even_part-even.result in
    let left = c.loop-need.left in
    let others = c.loop-need.others in
    let need = get_or needs i 0 in
    let below : i < length needs = c.loop-need-test.true in
    elim c.if-need-even.branch [
      | then-need-even w ↦
          let small : need ≤ even = w.if-need-even.true in
          let there : need ≤ left = is_left whole left others even i (length needs) need c.loop-need.invariant.enough c.even_part-even.ensures.part (omega (arith, below)) small in
          rw (w.left-is, w.others-is, w.saturating_sub-left.ensures)
          (record {
            given = λ level. takes_need whole left others level _ _ need (c.loop-need.invariant.given level) there (one_more needs i need level below refl);
            few = omega (arith, c.loop-need.invariant.few);
            enough = enough_after_need whole left others even i need c.loop-need.invariant.enough small there;
            less = omega (arith, c.loop-need.invariant.less);
          })
      | else-need-even w ↦
          rw (w.left-is, w.others-is)
          (record {
            given = λ level. takes_level whole left others level _ _ need (c.loop-need.invariant.given level) (one_more needs i need level below refl);
            few = omega (arith, c.loop-need.invariant.few);
            enough = enough_after_more whole left others even i c.loop-need.invariant.enough;
            less = c.loop-need.invariant.less;
          })
    ]
