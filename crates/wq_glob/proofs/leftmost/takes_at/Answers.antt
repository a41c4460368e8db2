use Rattle.std.proofs.Common.{◌∙◌}
use Rattle.wq_glob.proofs.LeftmostLemmas.{first_here, first_past, first_end}
use Rattle.wq_glob.proofs.leftmost.takes_at.Goals as goal
use Rattle.wq_glob.proofs.leftmost.takes_at.Goals.{then-k-steps-via-then-k-steps, then-k-steps-via-else-k-steps+then-at-text}

pub returns-then-k-steps-clause-value : goal.returns-then-k-steps-clause-value
returns-then-k-steps-clause-value c =
    elim c.then-k-steps.branch [
      | then-k-steps-via-then-k-steps w ↦ first_past c.args.rules.now c.args.steps.now c.args.text.now c.args.k c.args.at w.if-k-steps.true
      | then-k-steps-via-else-k-steps+then-at-text w ↦ first_end c.args.rules.now c.args.steps.now c.args.text.now c.args.k c.args.at w.if-at-text.true
    ]

pub returns-clause-value : goal.returns-clause-value
returns-clause-value c = c.single_takes.ensures ∙ first_here c.args.rules.now c.args.steps.now c.args.text.now c.args.k c.args.at _ c.if-k-steps.false c.if-at-text.false
