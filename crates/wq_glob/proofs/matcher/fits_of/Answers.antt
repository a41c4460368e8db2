use Rattle.std.proofs.Common.{sym}
use Rattle.wq_glob.proofs.LeastLemmas.{too_short}
use Rattle.wq_glob.proofs.matcher.fits_of.Goals as goal
use Rattle.wq_glob.proofs.matcher.fits_of.Goals.{then-text-least-via-then-text-least, then-text-least-via-else-text-least+then-differs_at_end}

pub returns-then-text-least : goal.returns-then-text-least
returns-then-text-least c = elim c.then-text-least.branch [
  | then-text-least-via-then-text-least w ↦
      sym (too_short c.args.rules.now c.args.steps.now c.args.least c.args.text.now c.requires.least w.if-text-least.true)
  | then-text-least-via-else-text-least+then-differs_at_end w ↦ sym (w.differs_at_end.ensures.answer w.if-differs_at_end.true)
]
