use Rattle.std.proofs.Common.{◌∙◌, sym, arith}
use Rattle.wq_glob.proofs.NameLemmas.{stay_end, stay_more}
use Rattle.wq_glob.proofs.leftmost.stay_in_name.Goals as goal

pub loop-i-preserved : goal.loop-i-preserved
loop-i-preserved c =
    let was = c.loop-i.invariant in
    record {
      within = omega (arith, c.loop-i-test.true);
      same = was.same ∙ stay_more c.args.rules.now c.args.steps.now c.loop-i.i _ c.loop-i-test.true (sym c.stays_in_name.ensures ∙ c.if-not-stays_in_name.false);
    }

pub returns : goal.returns
returns c ends = c.loop-i.invariant.same ∙ stay_end c.args.rules.now c.args.steps.now c.loop-i.i c.loop-i-test.false
