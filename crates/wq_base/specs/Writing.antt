-- The bytes that a writer holds after a failure. The definition is this server's own.
use Rattle.std.specs.Prelude.{◌≡◌, ℕ, ◌<◌, List, ◌++◌, length, Option}
use Rattle.std.specs.Io.KnownBytes.{Appends}

-- the writer took a front of the bytes, but not all of them
abbrev pub WritesFront : Option (List ℕ) → Option (List ℕ) → List ℕ → Type 0
WritesFront before after bytes =
    (front : List ℕ) × (back : List ℕ) × (bytes ≡ front ++ back) × (length front < length bytes)
    × Appends before after front
