use Rattle.std.proofs.Common.{◌≡◌, length, arith}
use Rattle.std.proofs.lemmas.Bool.{eqb-true}
use Rattle.wq_glob.proofs.LeftmostLemmas.{stars_rest}
use Rattle.wq_glob.proofs.leftmost.takes_rest.Goals as goal

pub returns-then-star-steps : goal.returns-then-star-steps
returns-then-star-steps c is =
    let passed = c.pass.ensures in
    let all : c.pass.result ≡ length c.args.text.now = eqb-true _ _ is in
    stars_rest c.args.rules.now c.args.steps.now c.args.text.now c.args.star c.requires.stars c.args.from (omega (arith, c.if-star-steps.true)) c.requires.place
    (λ i after before. passed.wild i after (omega (arith, all)))
