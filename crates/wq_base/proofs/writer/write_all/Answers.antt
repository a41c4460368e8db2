-- The written bytes are a front of the bytes.
use Rattle.std.proofs.Common.{rules}
use Rattle.wq_base.proofs.Fronts.{front_kept, keeps_same, on_err, part_behind}
use Rattle.wq_base.proofs.writer.write_all.Goals as goal

pub returns-in_err-written-clause-front : goal.returns-in_err-written-clause-front
returns-in_err-written-clause-front g c =
    on_err c.from_residual.result (front_kept _ _ _ c.args.bytes.now c.loop.written (search rules) c.loop.invariant.1 c.in_err-written.ensures.kept)

pub loop-preserved : goal.loop-preserved
loop-preserved g c =
    part_behind _ _ _ c.args.bytes.now c.loop.written c.in_ok-written.field-0 c.loop.invariant.0
    c.in_ok-written.ensures.within c.loop.invariant.1 c.in_ok-written.ensures.done

pub returns-clause-front : goal.returns-clause-front
returns-clause-front g c = front_kept _ _ _ c.args.bytes.now c.loop.written (search rules) c.loop.invariant.1 (keeps_same _)
