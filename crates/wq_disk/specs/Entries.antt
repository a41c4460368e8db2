-- The names of a directory that are those of entries. The names `.` and `..` in each directory, and
-- that no name has a slash, are from POSIX.
use Rattle.std.specs.Prelude.{ℕ, Bool, not, ◌&&◌, ◌==◌, List, [], bytes_eq, codes, IsTrue}
use Rattle.std.specs.List.{All, Contains, IsDistinct, filter, list_all, slice_split}
use Rattle.std.specs.Str.{byte}

-- whether a name has no slash
abbrev pub has_no_slash : List ℕ → Bool
has_no_slash name = list_all (λ b. not (b == byte "/")) name

-- whether a name that the system gives is that of an entry, and not of the directory itself or the
-- one above it
abbrev pub is_entry : List ℕ → Bool
is_entry name =
    not (bytes_eq name []) && not (bytes_eq name (codes ".")) && not (bytes_eq name (codes ".."))
    && has_no_slash name

-- names of which none is another one
abbrev pub AreDistinct : List (List ℕ) → Type 0
AreDistinct names = IsDistinct bytes_eq names

-- names of entries alone, each once
abbrev pub AreEntries : List (List ℕ) → Type 0
AreEntries names = All (λ name. IsTrue (is_entry name)) names × AreDistinct names

-- the names in the text that the system gives for a directory, in which byte 0 ends each name
abbrev pub names_of_text : List ℕ → List (List ℕ)
names_of_text text = slice_split (λ b. b == 0) text

-- the names of all entries among the names that a disk gave, and no other ones, each once
unfoldable pub AreEntriesOf : List (List ℕ) → List (List ℕ) → Type 0
AreEntriesOf given names =
    All (Contains names) (filter is_entry given) × All (Contains (filter is_entry given)) names
    × AreDistinct names
