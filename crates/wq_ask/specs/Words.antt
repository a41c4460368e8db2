-- The words of a line after the first.
-- It is this server's own.
use Rattle.std.specs.Prelude.{ℕ, List, [], ◌∷◌, Option, Some, None}
use Rattle.serde_json.specs.Data.{Data, string}
use Rattle.serde_json.specs.declared.value.Value.{Value}

-- the text, if the value is one
abbrev pub as_text : Data → Option (List ℕ)
as_text (string text) = Some text
as_text _ = None

-- one word
abbrev pub one_behind : List Value → Option Value
one_behind (name ∷ word ∷ []) = Some word
one_behind _ = None

-- two words
abbrev pub two_behind : List Value → Option (Value × Value)
two_behind (name ∷ first ∷ second ∷ []) = Some (first, second)
two_behind _ = None

-- three words
abbrev pub three_behind : List Value → Option (Value × Value × Value)
three_behind (name ∷ first ∷ second ∷ third ∷ []) = Some (first, second, third)
three_behind _ = None
