-- A reply has no float, so the text of its value is its compact text.
use Rattle.std.proofs.Common.{ap, ◌∙◌}
use Rattle.serde_json.specs.Written.{compact_text, has_float}
use Rattle.wq_clock.specs.Instance.{instance_data}
use Rattle.wq_reply.specs.Plan.{planned}
use Rattle.wq_session.proofs.NoFloat.{no_reply_has_one}
use Rattle.wq_session.proofs.steps.text_workers.Goals as goal

pub returns-clause-text : goal.returns-clause-text
returns-clause-text g c =
    c.in_ok-to_vec.ensures.text
    (ap has_float c.in_ok-reply.ensures ∙ no_reply_has_one (planned c.args.plan.now) (instance_data c.args.instance.now) c.args.view.now)
    ∙ ap compact_text c.in_ok-reply.ensures
