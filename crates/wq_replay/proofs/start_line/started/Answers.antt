-- The text of the printed tokens, after a word.
use Rattle.std.proofs.Common.{◌++◌, codes, ap, ◌∙◌}
use Rattle.json.specs.Tree.{json_tokens}
use Rattle.serde_json.specs.Written.{outline}
use Rattle.wq_follow.specs.Started.{start_data}
use Rattle.wq_replay.specs.StartLine.{start_object}
use Rattle.wq_replay.proofs.StartLines.{text_after}
use Rattle.wq_replay.proofs.start_line.started.Goals as goal

pub returns : goal.returns
returns c =
    let start = start_object (start_data c.args.start.now) in
    c.from_vec.ensures
    ∙ text_after c.into_inner.result.items c.put_start.new.out.before (codes "start ") c.put_start.new.out.tokens start
    c.into_inner.ensures.items
    (c.in_ok-put_start.ensures.0 ∙ c.new-out.ensures.before ∙ c.in_ok-from_slice.ensures.items)
    (c.in_ok-put_start.ensures.1 ∙ ap (λ ts. ts ++ json_tokens (outline start)) c.new-out.ensures.tokens)
