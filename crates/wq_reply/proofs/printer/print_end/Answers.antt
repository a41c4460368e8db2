-- The last tokens follow one another.
use Rattle.std.proofs.Common.{[], ◌∷◌, ◌++◌, codes, ap, ◌∙◌}
use Rattle.std.proofs.lemmas.Result.{on_ok_weaker}
use Rattle.json.specs.Token.{boolean, key}
use Rattle.wq_reply.proofs.Tokens.{three-parts}
use Rattle.wq_reply.proofs.printer.print_end.Goals as goal

pub returns : goal.returns
returns c =
    let flag = c.in_ok-print_flag.ensures.1 ∙ ap (λ b. c.args.out.now.tokens ++ key (codes "is_fresh_instance") ∷ boolean b ∷ []) c.is_fresh.ensures in
    on_ok_weaker c.end_object.result (λ e. (
      c.end_object.ensures.room.0 ∙ c.in_ok-print_text.ensures.0 ∙ c.in_ok-print_flag.ensures.0,
      three-parts c.args.out.now.tokens _ _ _ _ _ _ flag c.in_ok-print_text.ensures.1 e,
    )) c.end_object.ensures.ok
