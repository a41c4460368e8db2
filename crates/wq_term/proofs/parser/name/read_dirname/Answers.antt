-- Neither one argument nor two.
use Rattle.std.proofs.Common.{arith}
use Rattle.wq_term.proofs.Arguments.{no_dirname}
use Rattle.wq_term.proofs.parser.name.read_dirname.Goals as goal

pub returns-in_default : goal.returns-in_default
returns-in_default c = no_dirname c.args.case c.args.arguments.now (grind arith) (grind arith)
