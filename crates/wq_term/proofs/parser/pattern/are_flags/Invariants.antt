-- the rest decides
use Rattle.std.proofs.Common.{◌≡◌}
use Rattle.serde_json.specs.View.{members_view}
use Rattle.wq_term.specs.PatternArgument.{are_flags}
use Rattle.wq_term.proofs.parser.pattern.are_flags.Given as goal

abbrev pub invariant-loop-key : goal.invariant-loop-key
invariant-loop-key l = are_flags (members_view l.key-iterator) ≡ are_flags (members_view l.fn.members.entries)
