-- Neither one argument nor two nor three.
use Rattle.std.proofs.Common.{arith}
use Rattle.wq_term.proofs.Arguments.{no_match}
use Rattle.wq_term.proofs.parser.pattern.read_match.Goals as goal

pub returns-in_default : goal.returns-in_default
returns-in_default c =
    no_match c.args.case c.args.arguments.now (grind arith) (grind arith) (grind arith)
