-- A valid name is UTF-8.
use Rattle.std.proofs.Common.{◌≡◌, ℕ, true, not, ◌&&◌, ◌==◌, List, length, nat_le, IsUtf8}
use Rattle.std.specs.List.{list_all, list_any, slice_split}
use Rattle.std.specs.Str.{is_utf8}
use Rattle.std.proofs.lemmas.Str.{IsUtf8-from_is_utf8}
use Rattle.std.proofs.lemmas.Bool.{and_parts}
use Rattle.wq_base.specs.Byte.{is_slash}
use Rattle.wq_record.specs.Limit.{max_name}
use Rattle.wq_record.specs.Name.{is_valid_name, is_plain_part}

pub valid_is_utf8 : (bytes : List ℕ) → is_valid_name bytes ≡ true → IsUtf8 bytes
unfolding is_valid_name
valid_is_utf8 bytes valid =
    IsUtf8-from_is_utf8 bytes (and_parts (nat_le 1 (length bytes) && nat_le (length bytes) max_name && not (list_any (λ b. b == 0) bytes) && list_all is_plain_part (slice_split is_slash bytes)) (is_utf8 bytes) valid).1
