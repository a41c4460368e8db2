-- The text of the printed tokens.
use Rattle.std.proofs.Common.{◌++◌, ap, ◌∙◌}
use Rattle.json.specs.Tree.{json_tokens}
use Rattle.serde_json.specs.Written.{outline}
use Rattle.wq_clock.specs.Instance.{instance_data}
use Rattle.wq_reply.specs.Plan.{planned}
use Rattle.wq_reply.specs.Reply.{reply_of}
use Rattle.wq_reply.proofs.Tokens.{text-of}
use Rattle.wq_reply.proofs.reply.text_of.Goals as goal

pub returns : goal.returns
returns c =
    let reply = reply_of (planned c.args.plan.now) (instance_data c.args.instance.now) c.args.view.now in
    text-of c.into_inner-text.result.items c.print_reply.new.out.before c.print_reply.new.out.tokens reply
    c.into_inner-text.ensures.items
    (c.in_ok-print_reply.ensures.0 ∙ c.new-out.ensures.before ∙ c.with_room.ensures)
    (c.in_ok-print_reply.ensures.1 ∙ ap (λ ts. ts ++ json_tokens (outline reply)) c.new-out.ensures.tokens)
