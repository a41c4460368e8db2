-- The tokens of printed values.
use Rattle.std.proofs.Common.{◌≡◌, ℕ, List, [], ◌∷◌, ◌++◌, append_assoc, rules, ap, ◌∙◌}
use Rattle.std.specs.Str.{IsUtf8}
use Rattle.json.specs.Token.{Token}
use Rattle.json.specs.Tree.{json_tokens}
use Rattle.serde_json.specs.Data.{Data}
use Rattle.json.specs.Print.{print}
use Rattle.serde_json.proofs.Texts.{print-outline}
use Rattle.serde_json.specs.Written.{compact_text, outline}
use Rattle.wq_record.specs.Kind.{letter_of}
use Rattle.wq_record.specs.declared.kind.Kind.{Kind}
use Rattle.wq_record.specs.declared.kind.Kind.TheVariants.{File, Dir, Link, Block, Char, Fifo, Socket, Door, Unknown}

-- a letter is text
pub letter-is-text : (kind : Kind) → IsUtf8 (letter_of kind ∷ [])
letter-is-text File = search rules
letter-is-text Dir = search rules
letter-is-text Link = search rules
letter-is-text Block = search rules
letter-is-text Char = search rules
letter-is-text Fifo = search rules
letter-is-text Socket = search rules
letter-is-text Door = search rules
letter-is-text Unknown = search rules

-- three parts one after the other
pub three-parts : {A : Type 0} (a b c d x y z : List A) → b ≡ a ++ x → c ≡ b ++ y → d ≡ c ++ z
    → d ≡ a ++ (x ++ (y ++ z))
three-parts a b c d x y z first second third =
    third ∙ ap (λ l. l ++ z) (second ∙ ap (λ l. l ++ y) first)
    ∙ append_assoc (a ++ x) y z ∙ append_assoc a x (y ++ z)

-- the text of a value whose tokens were printed from nothing
pub text-of : (text before : List ℕ) (ts : List Token) (d : Data) → text ≡ before ++ print ts
    → before ≡ [] → ts ≡ json_tokens (outline d) → text ≡ compact_text d
text-of text before ts d e none all =
    e ∙ ap (λ l. l ++ print ts) none ∙ ap print all ∙ print-outline d
