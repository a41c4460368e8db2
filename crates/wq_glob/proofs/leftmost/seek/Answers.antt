use Rattle.std.proofs.Common.{◌+◌, arith}
use Rattle.wq_glob.proofs.LeftmostLemmas.{stars_to, turn_goes_on}
use Rattle.wq_glob.proofs.SeekLemmas.{seeks}
use Rattle.wq_glob.proofs.leftmost.seek.Goals as goal

pub returns-then-star-steps-clause-same : goal.returns-then-star-steps-clause-same
returns-then-star-steps-clause-same c =
    let passed = c.pass.ensures in
    stars_to c.args.rules.now c.args.steps.now c.args.text.now c.args.star c.requires.stars c.args.from c.pass.result passed.after passed.within passed.wild
    (λ i from before. turn_goes_on c.args.rules.now c.args.steps.now c.args.text.now (c.args.star + 1) i (omega arith) (omega (arith, passed.within)))

pub returns-in-Byte-clause-same : goal.returns-in-Byte-clause-same
returns-in-Byte-clause-same c =
    seeks c.args.rules.now c.args.steps.now c.args.text.now c.args.star c.in-Byte.byte _ c.requires.stars (omega arith) c.in-Byte.is c.args.from c.requires.place c.seek_byte.result c.seek_byte.ensures
