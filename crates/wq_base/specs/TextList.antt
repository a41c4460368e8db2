-- An order of texts by which one is found after a few comparisons, whether A to Z count as a to z
-- or not. The definitions are this server's own, but for the key: that is the hash FNV-1a of 32
-- bits.
use Rattle.std.specs.Prelude.{◌≡◌, ℕ, ◌*◌, ◌%◌, List, [], ◌∷◌, map, length, slice_index_or, bit_xor, All}
use Rattle.std.specs.Cmp.Lexicographic.{slice_cmp}
use Rattle.std.specs.List.{range_with_len}
use Rattle.std.specs.List.Sorted.{IsPermutation, IsSortedBy}
use Rattle.std.specs.Ordering.{is_lt, nat_cmp, ordering_then}
use Rattle.std.specs.Str.{str_to_ascii_lowercase}
use Rattle.std.specs.declared.cmp.Ordering.{Ordering}
use Rattle.wq_base.specs.Compare.{folded_order}
use Rattle.wq_base.specs.declared.text_list.Place.{Place}

-- a key after one more byte
abbrev pub key_with : ℕ → ℕ → ℕ
key_with key byte = (bit_xor key byte * 16777619) % 4294967296

-- a key after more bytes
abbrev pub key_from : ℕ → List ℕ → ℕ
key_from key [] = key
key_from key (byte ∷ bytes) = key_from (key_with key byte) bytes

-- the key of a text; texts have the same one if A to Z count as a to z and they are the same
abbrev pub text_key : List ℕ → ℕ
text_key text = key_from 2166136261 (str_to_ascii_lowercase text)

-- the order of two texts, if A to Z count as a to z, and then that of their bytes as they are
abbrev pub twofold_order : List ℕ → List ℕ → Ordering
twofold_order first second = ordering_then (folded_order first second)
    (slice_cmp nat_cmp first second)

-- the text at a place
abbrev pub text_at : List (List ℕ) → ℕ → List ℕ
text_at texts place = slice_index_or texts place []

-- the order of two places: that of their keys, and then that of their texts
abbrev pub place_order : List (List ℕ) → Place → Place → Ordering
place_order texts a b =
    ordering_then (nat_cmp a.key b.key) (twofold_order (text_at texts a.place)
    (text_at texts b.place))

-- the places of all texts, each with the key of its text, in their order
abbrev pub AreInOrder : List (List ℕ) → List Place → Type 0
AreInOrder texts places =
    IsPermutation (range_with_len 0 (length texts)) (map (λ p. p.place) places)
    × All (λ p. p.key ≡ text_key (text_at texts p.place)) places
    × IsSortedBy (λ a b. is_lt (place_order texts a b)) places
