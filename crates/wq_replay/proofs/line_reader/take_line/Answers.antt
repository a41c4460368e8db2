-- The parts of a line are taken one after the other.
use Rattle.std.proofs.Common.{true, false}
use Rattle.wq_base.proofs.Fronts.{keeps_same, on_err}
use Rattle.wq_replay.proofs.Inside.{within_kept, within_then}
use Rattle.wq_replay.proofs.Parts.{empty_fits, first_part, next_part}
use Rattle.wq_replay.proofs.line_reader.take_line.Goals as goal

pub loop-init : goal.loop-init
loop-init g c = (
  empty_fits c.args.line.now.items c.requires,
  first_part (g.R.Read.remaining c.args.reader.now) c.args.line.now.items c.requires,
  within_kept _ _ (keeps_same (g.R.Read.remaining c.args.reader.now)),
)

pub returns-in_err-take_part-clause-within : goal.returns-in_err-take_part-clause-within
returns-in_err-take_part-clause-within g c =
    on_err c.from_residual.result
    (within_then _ _ _ c.loop.invariant.2 (within_kept _ _ c.in_err-take_part.ensures.untaken))

pub returns-then-branch-clause-done : goal.returns-then-branch-clause-done
returns-then-branch-clause-done g c = next_part (g.R.Read.remaining c.args.reader.now) (g.R.Read.remaining c.loop.reader) (g.R.Read.remaining c.take_part.new.reader) c.loop.line.items c.take_part.new.line.items c.in_ok-take_part.field-0 true c.if-branch.true c.loop.invariant.1 c.in_ok-take_part.ensures.done

pub loop-preserved : goal.loop-preserved
loop-preserved g c = (
  c.in_ok-take_part.ensures.kept,
  next_part (g.R.Read.remaining c.args.reader.now) (g.R.Read.remaining c.loop.reader) (g.R.Read.remaining c.take_part.new.reader) c.loop.line.items c.take_part.new.line.items c.in_ok-take_part.field-0 false c.if-branch.false c.loop.invariant.1 c.in_ok-take_part.ensures.done,
  within_then _ _ _ c.loop.invariant.2 (c.in_ok-take_part.ensures.within c.if-branch.false),
)

pub returns-clause-within : goal.returns-clause-within
returns-clause-within g c = c.loop.invariant.2
