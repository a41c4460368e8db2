use Rattle.std.proofs.Common.{refl, sym, arith}
use Rattle.wq_glob.proofs.LeftmostLemmas.{rest_fits}
use Rattle.wq_glob.proofs.leftmost.fits_rest.Goals as goal

pub returns-then-is_shown : goal.returns-then-is_shown
returns-then-is_shown c = sym (rest_fits c.args.rules.now c.args.steps.now c.args.text.now c.args.k c.args.at c.requires.rest (omega arith) (c.if-is_shown.ensures refl))
