-- The answers of a disk for paths: the stat of a file, and the names in a directory. A disk may
-- answer otherwise for the same path later, so these are relations. No public document defines it.
use Rattle.std.specs.Prelude.{◌≡◌, ◌⊎◌, ℕ, IsTrue, List, [], Option, Some, None}
use Rattle.std.specs.Str.{IsUtf8}
use Rattle.wq_patch.specs.Tree.{is_of_device}
use Rattle.wq_patch.specs.declared.tree.TreeFault.{TreeFault}
use Rattle.wq_patch.specs.declared.tree.TreeFault.TheVariants.{Unreadable}
use Rattle.wq_record.specs.Seen.{Stat}
use Rattle.wq_disk.specs.Entries.{AreEntriesOf}

-- the stats that a disk may give for the file of a path: none if it cannot look at the file
abbrev pub GivesStat : Type 1
GivesStat = List ℕ → Option Stat → Type 0

-- the names that a disk may give for the directory of a path, as the system gives them: those of
-- entries, of the directory itself and of the one above it, maybe twice; none if it cannot read
-- the directory
abbrev pub Has : Type 1
Has = List ℕ → Option (List (List ℕ)) → Type 0

-- whether a call of the system failed at a path with an error that means this fault of a whole
-- walk
abbrev pub FailsAt : Type 1
FailsAt = TreeFault → List ℕ → Type 0

-- a fault that a disk may give for a path: it is one of the device only if a call of the system
-- failed so at that path
abbrev pub IsFailureAt : FailsAt → List ℕ → TreeFault → Type 0
IsFailureAt fails path fault = IsTrue (is_of_device fault) → fails fault path

-- a fault that a disk may give below a root: it is one of the device only if a call of the system
-- failed so at some path
abbrev pub IsFailure : FailsAt → TreeFault → Type 0
IsFailure fails fault = IsTrue (is_of_device fault) → (path : List ℕ) × fails fault path

-- a disk gives some names for the directory of a path, and these are the entries among them
unfoldable pub GivesEntries : Has → List ℕ → List (List ℕ) → Type 0
GivesEntries has path names =
    (given : List (List ℕ)) × has path (Some given) × AreEntriesOf given names

-- a directory of this path was read, and has these entries, each once; none if it cannot be read,
-- or the path is no text
abbrev pub HasEntries : Has → List ℕ → List (List ℕ) → Type 0
HasEntries has path names =
    GivesEntries has path names
    ⊎ ((names ≡ []) × (has path None ⊎ (IsUtf8 path → ⊥)))

-- a root cannot be read: the disk cannot read its directory, or cannot look at it
abbrev pub IsUnreadable : GivesStat → Has → List ℕ → Type 0
IsUnreadable says has root = has root None ⊎ says root None

-- the disk could look at the file of a path
abbrev pub HasStat : GivesStat → List ℕ → Type 0
HasStat says path = (stat : Stat) × says path (Some stat)

-- a fault is one of the device only if the root itself cannot be read, or a call of the system
-- failed so at some path
abbrev pub IsRootFault : GivesStat → Has → FailsAt → List ℕ → TreeFault → Type 0
IsRootFault says has fails root fault =
    IsTrue (is_of_device fault)
    → ((fault ≡ Unreadable) × IsUnreadable says has root) ⊎ ((path : List ℕ) × fails fault path)
