-- The listings and glances on the disk of this machine. Few answers of it are known, since no
-- contract of the system's calls speaks of a path. No public document defines it.
use Rattle.std.specs.Prelude.{◌≡◌, ◌⊎◌, ℕ, List, Option, Some}
use Rattle.wq_patch.specs.declared.tree.TreeFault.{TreeFault}
use Rattle.wq_patch.specs.declared.tree.TreeFault.TheVariants.{Unreadable}
use Rattle.wq_disk.specs.FileSystem.{fails_here, has_here, says_here}
use Rattle.wq_record.specs.RecordData.{RecordData}
use Rattle.wq_record.specs.Seen.{SeenData}
use Rattle.wq_walk.specs.Glance.{IsGlancedAt}
use Rattle.wq_walk.specs.Listed.{IsListed, IsUnread}

-- a listing of the tree below a root on this disk
abbrev pub IsListedHere : List ℕ → List SeenData → Type 0
IsListedHere root rows = IsListed says_here has_here root rows

-- a glance at the tree below a root on this disk, beside a view with these records
abbrev pub IsGlancedHere : List RecordData → List (List ℕ) → List ℕ → List SeenData → Type 0
IsGlancedHere records asked root rows = IsGlancedAt says_here has_here records asked root rows

-- a fault of a listing on this disk, by a walker that kept that a file system was mounted at some
-- root, or none: it is one of the device only if a call failed so, or this is that root
abbrev pub IsUnreadHere : Option (List ℕ) → List ℕ → TreeFault → Type 0
IsUnreadHere mounted root fault =
    IsUnread says_here has_here fails_here root fault
    ⊎ ((fault ≡ Unreadable) × (mounted ≡ Some root))
