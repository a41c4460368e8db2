use Rattle.std.proofs.Common.{◌||◌, ◌==◌, arith}
use Rattle.wq_glob.specs.ByteSet.{has_byte}
use Rattle.wq_glob.proofs.SetLemmas.{range_begin, range_more, range_end}
use Rattle.wq_glob.proofs.class.insert_range.Goals as goal

pub loop-n-init : goal.loop-n-init
loop-n-init c b small =
    range_begin (has_byte c.args.set.now b || b == c.args.first) _ c.args.first c.args.last b c.from-n.result c.from-n.ensures (c.insert.ensures b small)

pub loop-n-preserved : goal.loop-n-preserved
loop-n-preserved c b small =
    range_more (has_byte c.args.set.now b || b == c.args.first) _ _ c.args.first c.args.last b c.loop-n.n _ (c.loop-n.invariant b small)
    (omega (arith, c.from-n.ensures, c.loop-n.auto.n)) (omega (arith, c.from-n-end.ensures, c.loop-n-test.true)) (omega arith)
    (c.insert-in-loop-n.ensures b small)

pub returns : goal.returns
returns c b small =
    range_end (has_byte c.args.set.now b) _ c.args.first c.args.last b c.loop-n.n (omega (arith, c.from-n-end.ensures, c.loop-n-test.false)) (c.loop-n.invariant b small)
