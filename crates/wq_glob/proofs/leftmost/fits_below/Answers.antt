use Rattle.std.proofs.Common.{◌∙◌, sym}
use Rattle.wq_glob.proofs.LeftmostLemmas.{below_fit, below_next, below_none}
use Rattle.wq_glob.proofs.leftmost.fits_below.Goals as goal

pub returns-then-branch : goal.returns-then-branch
returns-then-branch c =
    let was = c.loop-next.invariant in
    sym
    (was.same
    ∙ below_fit c.args.rules.now c.args.steps.now c.args.text.now c.args.k c.requires.below c.loop-next.begin (sym c.in_ok-fits_names.ensures ∙ c.if-branch.true))

pub loop-next-preserved : goal.loop-next-preserved
loop-next-preserved c =
    let was = c.loop-next.invariant in
    record {
      place = c.in-Some.ensures.within;
      same = was.same
          ∙ below_next c.args.rules.now c.args.steps.now c.args.text.now c.args.k c.requires.below c.loop-next.begin c.in-Some.next
          (sym c.in_ok-fits_names.ensures ∙ c.if-branch.false) c.in-Some.ensures.next;
    }

pub returns-in-None : goal.returns-in-None
returns-in-None c =
    let was = c.loop-next.invariant in
    sym
    (was.same
    ∙ below_none c.args.rules.now c.args.steps.now c.args.text.now c.args.k c.requires.below c.loop-next.begin (sym c.in_ok-fits_names.ensures ∙ c.if-branch.false)
    c.in-None.ensures.next)
