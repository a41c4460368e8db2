-- The JSON values that are kept as their texts, which follow RFC 8259.
-- It is this server's own.
use Rattle.std.specs.Prelude.{ℕ, List, [], unwrap_or}
use Rattle.serde_json.specs.Data.{Data, null}
use Rattle.serde_json.specs.Read.{read}
use Rattle.wq_follow.specs.Definition.{command_of}

-- the value of a text, which is null if the text says none
abbrev pub data_in : List ℕ → Data
data_in text = unwrap_or (read text) null

-- the command of a text, which is empty if the text says none
abbrev pub command_in : List ℕ → List (List ℕ)
command_in text = unwrap_or (command_of (read text)) []
