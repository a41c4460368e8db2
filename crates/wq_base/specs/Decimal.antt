-- Numbers by their one decimal text: no sign but `-`, no leading zeros, and 0 without a sign.
-- The numerals are those of RFC 8259, without fraction and exponent.
use Rattle.std.specs.Prelude.{ℕ, ℤ, pos, negsuc, ◌^◌, Bool, ◌&&◌, nat_le, nat_lt, List, if◌then◌else◌, Option, Some, None}
use Rattle.std.specs.Str.{bytes_eq}
use Rattle.std.specs.Str.Parse.{digits_value, signed_digits_value}
use Rattle.std.specs.Fmt.{decimal, signed_decimal}

-- the number whose decimal text this is, if it is at most `most`
unfoldable pub unsigned_of : ℕ → List ℕ → Option ℕ
unsigned_of most text = let number = digits_value 10 text in
    if nat_le number most && bytes_eq text (decimal number) then Some number else None

-- a number of 64 bits with a sign: from -2^63 to 2^63 - 1
abbrev pub is_word : ℤ → Bool
is_word (pos n) = nat_lt n (2 ^ 63)
is_word (negsuc n) = nat_lt n (2 ^ 63)

-- the number of 64 bits with a sign whose decimal text this is
unfoldable pub signed_of : List ℕ → Option ℤ
signed_of text = let number = signed_digits_value 10 text in
    if is_word number && bytes_eq text (signed_decimal number) then Some number else None
