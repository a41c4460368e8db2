use Rattle.std.proofs.Common.{◌∙◌, ◌==◌, ◌&&◌, ℕ, ap, sym}
use Rattle.wq_glob.specs.Cell.{mark_at}
use Rattle.wq_glob.specs.Step.{is_byte, step_admits}
use Rattle.wq_glob.specs.declared.step.Step.{Step}
use Rattle.wq_glob.proofs.FrontLemmas.{agrees_here, agrees_past, agrees_end}
use Rattle.wq_glob.proofs.matcher.agrees_at.Goals as goal
use Rattle.wq_glob.proofs.matcher.agrees_at.Goals.{then-at-steps-via-then-at-steps, then-at-steps-via-else-at-steps+then-at-text}

pub returns-then-at-steps-clause-value : goal.returns-then-at-steps-clause-value
returns-then-at-steps-clause-value c within =
    elim c.then-at-steps.branch [
      | then-at-steps-via-then-at-steps w ↦ agrees_past c.args.rules.now c.args.steps.now c.args.text.now c.args.at w.if-at-steps.true
      | then-at-steps-via-else-at-steps+then-at-text w ↦ agrees_end c.args.rules.now c.args.steps.now c.args.text.now c.args.at within w.if-at-text.true
    ]

pub returns-in-Byte-clause-value : goal.returns-in-Byte-clause-value
returns-in-Byte-clause-value c within =
    ap (λ (b : ℕ). b == c.in-Byte.byte) c.lower_if.ensures
    ∙ sym (ap (λ (s : Step). is_byte s && step_admits c.args.rules.now s (mark_at c.args.rules.now c.args.text.now c.args.at)) c.in-Byte.is)
    ∙ agrees_here c.args.rules.now c.args.steps.now c.args.text.now c.args.at _ c.if-at-steps.false c.if-at-text.false
