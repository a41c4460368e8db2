use Rattle.std.proofs.Common.{◌∷◌}
use Rattle.wq_clock.proofs.Spellings.{is_within_limits}
use Rattle.wq_clock.proofs.parser.parse.Goals as goal

pub returns-in-Some-clause-within_limits : goal.returns-in-Some-clause-within_limits
returns-in-Some-clause-within_limits c = is_within_limits (99 ∷ 58 ∷ c.in-Some.numbers.now) c.id.result c.id.ensures
