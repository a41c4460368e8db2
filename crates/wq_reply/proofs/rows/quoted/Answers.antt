-- The text of the one printed token.
use Rattle.std.proofs.Common.{[], ◌∷◌, ◌++◌, ap, ◌∙◌}
use Rattle.json.specs.Token.{string as string_token}
use Rattle.serde_json.specs.Data.{string}
use Rattle.wq_reply.proofs.Tokens.{text-of}
use Rattle.wq_reply.proofs.rows.quoted.Goals as goal

pub returns : goal.returns
returns c =
    text-of c.into_inner-bytes.result.items c.string.new.self.before c.string.new.self.tokens (string c.args.text.now) c.into_inner-bytes.ensures.items
    (c.string.ensures.room.0 ∙ c.new-out.ensures.before ∙ c.new.ensures.items)
    (c.in_ok-string.ensures.ok ∙ ap (λ ts. ts ++ string_token c.args.text.now ∷ []) c.new-out.ensures.tokens)
