use Rattle.std.proofs.Common.{◌∙◌, refl, sym, arith}
use Rattle.wq_glob.proofs.FrontLemmas.{front_more, fits_more}
use Rattle.wq_glob.proofs.matcher.front_of.Goals as goal

pub loop-len-preserved : goal.loop-len-preserved
loop-len-preserved c =
    let was = c.loop-len.invariant in
    let inside = c.loop-len-test.ensures.within refl in
    let here = sym (c.loop-len-test.ensures.value was.within_text) in
    let more = front_more c.args.rules.now c.args.steps.now c.args.text.now c.loop-len.len inside.0 inside.1 here in
    record {
      within_steps = omega arith;
      within_text = omega arith;
      front = omega arith;
      same = was.same ∙ fits_more c.args.rules.now c.args.steps.now c.args.text.now c.loop-len.len inside.0 inside.1 here;
    }
