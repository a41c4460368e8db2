-- Whether there is a trigger of the name.
use Rattle.std.proofs.Common.{ap, is_some, sym, ◌∙◌}
use Rattle.wq_follow.specs.Followed.{trigger_data}
use Rattle.wq_session.proofs.Shelves.{some_same}
use Rattle.wq_session.proofs.command.trigger.has_trigger.Goals as goal

pub returns : goal.returns
returns c = c.is_some.ensures ∙ sym (some_same (λ t. trigger_data t.now) c.trigger_called.result) ∙ ap is_some c.trigger_called.ensures
