-- The text is that of the reply, or there is none.
use Rattle.wq_clock.specs.Instance.{instance_data}
use Rattle.wq_reply.specs.Answer.{text_in}
use Rattle.wq_reply.specs.Plan.{planned}
use Rattle.wq_session.proofs.Listing.{listed_finishes}
use Rattle.wq_session.proofs.command.query.listed.Goals as goal

pub returns : goal.returns
returns g c follows =
    listed_finishes g.C.Crew.may_go text_in (planned c.args.plan.now) c.args.cursor (instance_data c.args.instance.now) c.args.view.now
    c.answer_text.result c.of_answer.result follows c.answer_text.ensures.text c.answer_text.ensures.ends c.of_answer.ensures
