-- The tokens of three parts come one after the other.
use Rattle.std.proofs.Common.{◌∙◌}
use Rattle.std.proofs.lemmas.Result.{on_ok_weaker}
use Rattle.wq_reply.proofs.Tokens.{three-parts}
use Rattle.wq_reply.proofs.list_text.put_end.Goals as goal

pub returns : goal.returns
returns c =
    on_ok_weaker c.put_version.result (λ e. (
      e.0 ∙ c.in_ok-put_name.ensures.0 ∙ c.in_ok-put_root.ensures.0,
      three-parts c.args.out.now.tokens _ _ _ _ _ _ c.in_ok-put_root.ensures.1 c.in_ok-put_name.ensures.1 e.1,
    )) c.put_version.ensures
