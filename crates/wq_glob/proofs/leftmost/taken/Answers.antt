use Rattle.std.proofs.Common.{refl, sym}
use Rattle.wq_glob.proofs.LeftmostLemmas.{taken_more}
use Rattle.wq_glob.proofs.leftmost.taken.Goals as goal

pub loop-len-preserved : goal.loop-len-preserved
loop-len-preserved c =
    let here = c.loop-len-test.ensures in
    let inside = here.within refl in
    record { taken = taken_more c.args.rules.now c.args.steps.now c.args.text.now c.args.k c.args.at c.loop-len.len c.loop-len.invariant.taken (sym here.value) inside.0 inside.1 }
