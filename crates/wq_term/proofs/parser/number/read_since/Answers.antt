-- Neither one argument nor two.
use Rattle.std.proofs.Common.{arith}
use Rattle.wq_clock.specs.Instance.{instance_data}
use Rattle.wq_term.proofs.Arguments.{no_since}
use Rattle.wq_term.proofs.parser.number.read_since.Goals as goal

pub returns-in_default : goal.returns-in_default
returns-in_default c =
    no_since (instance_data c.args.instance.now) c.args.arguments.now (grind arith) (grind arith)
