-- The JSON value of a text.
use Rattle.std.proofs.Common.{◌≡◌, ℕ, Bool, true, false, List, Some, None, refl, if◌then◌else◌}
use Rattle.std.specs.Str.{IsUtf8, is_utf8}
use Rattle.std.proofs.lemmas.Str.{IsUtf8-from_is_utf8, is_utf8-from_IsUtf8}
use Rattle.serde_json.specs.Data.{Data}
use Rattle.serde_json.specs.Read.{read as read_text}
use Rattle.wq_ask.specs.Reading.{value_of}

-- the value of a line in UTF-8
pub value_read : (line : List ℕ) (d : Data) → IsUtf8 line → read_text line ≡ Some d → value_of line ≡ Some d
value_read line d text read = rw (is_utf8-from_IsUtf8 line text, read) refl

-- a line that is no text, or no value, has no value
pub no_value : (line : List ℕ) → (IsUtf8 line → read_text line ≡ None) → value_of line ≡ None
no_value line none = at (is_utf8 line) (λ h. none (IsUtf8-from_is_utf8 line h))
  where
    at : (text : Bool) → (text ≡ true → read_text line ≡ None) → (if text then read_text line else None) ≡ None
    at true none = none refl
    at false none = refl
