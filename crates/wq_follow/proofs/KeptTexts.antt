-- What a text that is kept says.
use Rattle.std.proofs.Common.{◌≡◌, false, List, [], ℕ, Some, sym, ap, ◌∙◌}
use Rattle.std.specs.Option.{unwrap_or}
use Rattle.serde_json.specs.Data.{Data, null}
use Rattle.serde_json.specs.Read.{read}
use Rattle.serde_json.specs.Written.{has_float}
use Rattle.wq_follow.specs.Definition.{command_of}
use Rattle.wq_follow.specs.Kept.{command_in, data_in}

-- a text that reads as a value says that one
pub text_says : (text : List ℕ) (d : Data) → read text ≡ Some d → data_in text ≡ d
text_says text d is = ap (λ o. unwrap_or o null) is

-- it reads as the value that it says
pub text_reads : (text : List ℕ) (d : Data) → read text ≡ Some d → read text ≡ Some (data_in text)
text_reads text d is = is ∙ ap Some (sym (text_says text d is))

-- and has no float if that has none
pub text_is_plain : (text : List ℕ) (d : Data) → read text ≡ Some d → has_float d ≡ false → has_float (data_in text) ≡ false
text_is_plain text d is plain = ap has_float (text_says text d is) ∙ plain

-- a value that is read of a text has no float if what the text says has none
pub read_is_plain : (text : List ℕ) (d : Data) → read text ≡ Some d → has_float (data_in text) ≡ false → has_float d ≡ false
read_is_plain text d is plain = ap has_float (sym (text_says text d is)) ∙ plain

-- the words that are read of the text of a command are those of the command
pub words_in : (text : List ℕ) (d : Data) (words : List (List ℕ)) → read text ≡ Some d → Some words ≡ command_of (Some d)
    → words ≡ command_in text
words_in text d words reads said = ap (λ o. unwrap_or o []) (said ∙ ap command_of (sym reads))
