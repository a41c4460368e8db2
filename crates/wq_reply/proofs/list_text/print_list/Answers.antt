-- The text of the printed tokens.
use Rattle.std.proofs.Common.{◌++◌, ap, ◌∙◌}
use Rattle.json.specs.Tree.{json_tokens}
use Rattle.serde_json.specs.Written.{outline}
use Rattle.wq_clock.specs.Instance.{instance_data}
use Rattle.wq_view.specs.Position.{records_at}
use Rattle.wq_reply.specs.Plan.{planned}
use Rattle.wq_reply.specs.Following.{list_data}
use Rattle.wq_reply.proofs.Tokens.{text-of}
use Rattle.wq_reply.proofs.list_text.print_list.Goals as goal

pub returns : goal.returns
returns c =
    let list = list_data c.args.root.now c.args.name.now (planned c.args.plan.now) (instance_data c.args.instance.now) c.args.view.now.tick (records_at c.args.view.now.records c.args.places.now) in
    text-of c.into_inner-text.result.items c.put_list.new.out.before c.put_list.new.out.tokens list
    c.into_inner-text.ensures.items
    (c.in_ok-put_list.ensures.0 ∙ c.new-out.ensures.before ∙ c.in_ok-with_capacity.ensures.items)
    (c.in_ok-put_list.ensures.1 ∙ ap (λ ts. ts ++ json_tokens (outline list)) c.new-out.ensures.tokens)
