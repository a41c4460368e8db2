-- a letter is text
use Rattle.std.proofs.Common.{[], ◌∷◌, sym, subst}
use Rattle.std.specs.Str.{IsUtf8}
use Rattle.wq_reply.proofs.Tokens.{letter-is-text}
use Rattle.wq_reply.proofs.printer.print_letter.Goals as goal

pub from_utf8_unchecked-requires : goal.from_utf8_unchecked-requires
from_utf8_unchecked-requires c = subst (λ b. IsUtf8 (b ∷ [])) (sym c.letter.ensures) (letter-is-text c.args.kind)
