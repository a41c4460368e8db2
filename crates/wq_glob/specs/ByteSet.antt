-- The bytes that a set of four words holds. This library's own.
use Rattle.std.specs.Prelude.{ℕ, Bool, false, ◌==◌, ◌/◌, ◌%◌, List, slice_index}
use Rattle.std.specs.List.{slice_get}
use Rattle.std.specs.Option.{option_map_or}
use Rattle.std.specs.Int.{bit_at}
use Rattle.wq_glob.specs.declared.byte_set.ByteSet.{ByteSet}

-- byte b is bit b % 64 of word b / 64
unfoldable pub has_byte : ByteSet → ℕ → Bool
has_byte set b = bit_at (slice_index set.words (b / 64)) (b % 64) == 1

-- the set of this number has the byte; after the last set there is none, which has no byte
abbrev pub in_set : List ByteSet → ℕ → ℕ → Bool
in_set sets number b = option_map_or (λ set. has_byte set b) (slice_get sets number) false
