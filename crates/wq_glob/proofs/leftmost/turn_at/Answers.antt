use Rattle.std.proofs.Common.{arith}
use Rattle.wq_glob.proofs.LeftmostLemmas.{turn_ends, turn_goes_on}
use Rattle.wq_glob.proofs.leftmost.turn_at.Goals as goal

pub returns-then-at-text : goal.returns-then-at-text
returns-then-at-text c = turn_ends c.args.rules.now c.args.steps.now c.args.text.now c.args.k c.args.at (omega arith) (omega arith)

pub returns-else-at-text : goal.returns-else-at-text
returns-else-at-text c = turn_goes_on c.args.rules.now c.args.steps.now c.args.text.now c.args.k c.args.at (omega arith) (omega arith)
