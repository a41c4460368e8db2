-- each call reads fewer levels, or is a part of a call that reads this many
use Rattle.std.proofs.Common.{◌≡◌, ◌+◌, ◌*◌, map, drop}
use Rattle.serde_json.specs.View.{items_view}
use Rattle.wq_clock.specs.Instance.{instance_data}
use Rattle.wq_term.specs.Expr.{term_of}
use Rattle.wq_term.specs.Reading.{read_all, reads_as}
use Rattle.wq_term.proofs.Lists.{prefixed}
use Rattle.wq_term.proofs.parser.+read.Given as goal

abbrev pub decreases-read_term : goal.decreases-read_term
decreases-read_term l = 3 * l.levels

abbrev pub decreases-read_named : goal.decreases-read_named
decreases-read_named l = 3 * l.levels + 2

abbrev pub decreases-read_negation : goal.decreases-read_negation
decreases-read_negation l = 3 * l.levels + 1

abbrev pub decreases-read_all : goal.decreases-read_all
decreases-read_all l = 3 * l.levels + 1

-- the terms that are read, and the arguments that are left
abbrev pub invariant-read_all-loop-argument : goal.invariant-read_all-loop-argument
invariant-read_all-loop-argument l = prefixed (map term_of l.terms.items) (read_all (reads_as (instance_data l.instance) l.levels) (items_view (drop l.argument-index l.arguments))) ≡ read_all (reads_as (instance_data l.instance) l.levels) (items_view l.arguments)
