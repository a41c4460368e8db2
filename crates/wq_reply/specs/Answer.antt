-- The text of a reply, which is made whole or printed while it is sent.
-- This server's own.
use Rattle.std.specs.Prelude.{ℕ, List}
use Rattle.wq_reply.specs.declared.reply.ReplyText.{ReplyText}
use Rattle.wq_reply.specs.declared.reply.ReplyText.TheVariants.{Whole, Long}

-- the text of a reply
abbrev pub text_in : ReplyText → List ℕ
text_in (Whole bytes) = bytes.items
text_in (Long text) = text
