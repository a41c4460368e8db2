-- Replies as data; their texts are the compact texts of that data, with keys in byte order. The
-- reply of a command is defined with the command.
-- The text of a refusal is this server's own.
use Rattle.std.specs.Prelude.{◌≡◌, ℕ, false, List, ◌++◌, codes}
use Rattle.serde_json.specs.Data.{Data, string, object, no_members, member}
use Rattle.serde_json.specs.View.{view as data_of}
use Rattle.serde_json.specs.Written.{compact_text, has_float}
use Rattle.serde_json.specs.declared.value.Value.{Value}
use Rattle.wq_base.specs.Version.{version}
use Rattle.wq_ask.specs.Refusal.{refusal_text}
use Rattle.wq_ask.specs.declared.refusal.Refusal.{Refusal}

-- the reply that refuses a line
abbrev pub error_data : Refusal → Data
error_data refusal =
    object (member (codes "error") (string (refusal_text refusal))
    (member (codes "version") (string version) no_members))

-- the line of a reply: its text and a newline
abbrev pub reply_line : Data → List ℕ
reply_line reply = compact_text reply ++ codes "\n"

-- the value is this reply, and has no float, so that it has one text
abbrev pub IsReply : Data → Value → Type 0
IsReply reply value = (data_of value ≡ reply) × (has_float reply ≡ false)
