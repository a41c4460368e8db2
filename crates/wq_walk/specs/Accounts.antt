-- What the rows of a walk are of, and what became of each name that a disk told it. No public
-- document defines it.
use Rattle.std.specs.Prelude.{◌≡◌, ◌⊎◌, ℕ, List, [], ◌∷◌, ◌++◌, Some, IsTrue, length}
use Rattle.std.specs.List.{All}
use Rattle.std.specs.Str.{byte}
use Rattle.wq_record.specs.Seen.{SeenData, Stat}
use Rattle.wq_record.specs.declared.kind.Kind.TheVariants.{Dir}
use Rattle.wq_disk.specs.declared.part.Part.{Part}
use Rattle.wq_disk.specs.Part.{is_in}
use Rattle.wq_disk.specs.Told.{GivesEntries, GivesStat, Has, HasEntries}
use Rattle.wq_walk.specs.Walk.{HasNoneBelow, IsPassedOver, IsWalk, name_of_path, row_with_stat}

-- a fact holds of some item of a list
abbrev pub AnyOf : {X : Type 0} → (X → Type 0) → List X → Type 0
AnyOf P [] = ⊥
AnyOf P (x ∷ xs) = P x ⊎ AnyOf P xs

-- an item is one of a list
abbrev pub IsOneOf : {X : Type 0} → X → List X → Type 0
IsOneOf x xs = AnyOf (λ y. y ≡ x) xs

-- a row is of the path of its name: the disk gives its stat for that path, and its name is in the
-- part
abbrev pub IsRowOfPath : GivesStat → List ℕ → Part → SeenData → Type 0
IsRowOfPath says root part row =
    (stat : Stat) × says (root ++ row.name) (Some stat) × (row ≡ row_with_stat row.name stat)
    × IsTrue (is_in part row.name)

-- each row of a walk is of the path of its name
abbrev pub RowsAreOfPaths : GivesStat → Has → Type 0
RowsAreOfPaths says has =
    (root : List ℕ) (part : Part) (rows : List SeenData) → IsWalk says has root part rows
    → All (IsRowOfPath says root part) rows

-- a directory that a walk read: its path, with a slash at its end, and the names of its entries
pub record ReadData : Type 0 where
  pub path : List ℕ
  pub names : List (List ℕ)

-- a directory was read: the root's by its path, and another one by its path without the slash. The
-- names are those of all entries that the disk gave
abbrev pub WasRead : Has → List ℕ → ReadData → Type 0
WasRead has root directory =
    ((directory.path ≡ root) × GivesEntries has root directory.names)
    ⊎ ((path : List ℕ) × (directory.path ≡ path ++ (byte "/" ∷ []))
    × HasEntries has path directory.names)

-- the directory with this path, which ends in a slash, is one of those that were read
abbrev pub IsAmongRead : List ReadData → List ℕ → Type 0
IsAmongRead read path =
    (names : List (List ℕ)) × IsOneOf (record { path = path; names = names }) read

-- the walk accounts for the file of a path: it passes over the file; or the disk gives its stat,
-- its row is listed if its name is in the part, and if it is a directory, then it was read, or no
-- name below it is in the part
abbrev pub IsAccountedFor : GivesStat → ℕ → Part → List ReadData → List SeenData → List ℕ → Type 0
IsAccountedFor says root_len part read rows path =
    IsPassedOver says part path (name_of_path root_len path)
    ⊎ ((stat : Stat) × says path (Some stat)
    × (IsTrue (is_in part (name_of_path root_len path))
    → IsOneOf (row_with_stat (name_of_path root_len path) stat) rows)
    × (stat.kind ≡ Dir → HasNoneBelow part (name_of_path root_len path)
    ⊎ IsAmongRead read (path ++ (byte "/" ∷ []))))

-- a walk read some directories, the root's among them, and accounts for each name in each of them
abbrev pub NamesAreAccountedFor : GivesStat → Has → Type 0
NamesAreAccountedFor says has =
    (root : List ℕ) (part : Part) (rows : List SeenData) → IsWalk says has root part rows
    → (read : List ReadData) × IsAmongRead read root
    × ((directory : ReadData) → IsOneOf directory read → WasRead has root directory)
    × ((directory : ReadData) → IsOneOf directory read → (name : List ℕ)
    → IsOneOf name directory.names
    → IsAccountedFor says (length root) part read rows (directory.path ++ name))
