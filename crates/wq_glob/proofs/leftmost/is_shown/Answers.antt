use Rattle.std.proofs.Common.{◌≡◌, ◌∙◌, true, sym, arith}
use Rattle.wq_glob.specs.Cell.{mark_at}
use Rattle.wq_glob.specs.Fits.{has_no_hidden_dot}
use Rattle.wq_glob.proofs.LeftmostLemmas.{shown_end, shown_more}
use Rattle.wq_glob.proofs.leftmost.is_shown.Goals as goal

pub loop-at-preserved : goal.loop-at-preserved
loop-at-preserved c =
    let was = c.loop-at.invariant in
    let shown : has_no_hidden_dot (mark_at c.args.rules.now c.args.text.now c.loop-at.at) ≡ true = sym c.is_shown_at.ensures ∙ c.if-not-is_shown_at.false in
    record {
      within = omega (arith, c.loop-at-test.true);
      same = was.same ∙ shown_more c.args.rules.now c.args.text.now c.loop-at.at c.loop-at-test.true shown;
    }

pub returns : goal.returns
returns c ends = c.loop-at.invariant.same ∙ shown_end c.args.rules.now c.args.text.now c.loop-at.at c.loop-at-test.false
