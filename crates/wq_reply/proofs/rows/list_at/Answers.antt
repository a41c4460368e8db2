-- The text of the printed tokens.
use Rattle.std.proofs.Common.{◌++◌, ap, ◌∙◌}
use Rattle.json.specs.Tree.{json_tokens}
use Rattle.serde_json.specs.Data.{array}
use Rattle.serde_json.specs.View.{items_of}
use Rattle.serde_json.specs.Written.{outline}
use Rattle.wq_reply.specs.Rows.{data_at}
use Rattle.wq_reply.proofs.Tokens.{text-of}
use Rattle.wq_reply.proofs.rows.list_at.Goals as goal

pub returns : goal.returns
returns c =
    let list = array (items_of (data_at c.args.rows.now c.args.places.now)) in
    text-of c.into_inner-text.result.items c.print_files.new.out.before c.print_files.new.out.tokens list
    c.into_inner-text.ensures.items
    (c.in_ok-print_files.ensures.0 ∙ c.new-out.ensures.before ∙ c.with_room.ensures)
    (c.in_ok-print_files.ensures.1 ∙ ap (λ ts. ts ++ json_tokens (outline list)) c.new-out.ensures.tokens)
