-- The walk of a tree: the rows that a walk lists from the answers of a disk. No public document
-- defines it.
use Rattle.std.specs.Prelude.{◌≡◌, ◌⊎◌, ℕ, zero, suc, Bool, true, false, IsTrue, if◌then◌else◌}
use Rattle.std.specs.Prelude.{List, [], ◌∷◌, ◌++◌, length, drop, Some, None}
use Rattle.std.specs.Str.{IsUtf8, byte}
use Rattle.wq_record.specs.Name.{is_valid_name}
use Rattle.wq_record.specs.Seen.{SeenData, Stat}
use Rattle.wq_record.specs.declared.kind.Kind.TheVariants.{Dir}
use Rattle.wq_disk.specs.declared.part.Part.{Part}
use Rattle.wq_disk.specs.Directory.{DirectoryData, IsDone, fresh}
use Rattle.wq_disk.specs.Part.{MayHaveBelow, is_in, name_below}
use Rattle.wq_disk.specs.Told.{GivesEntries, GivesStat, Has, HasEntries}

-- the place of a walk: the directories above the one in which it is, the innermost last, that
-- directory, and the rows so far
pub record WalkData : Type 0 where
  pub above : List DirectoryData
  pub here : DirectoryData
  pub rows : List SeenData

-- the name of the file of a path, below a root whose path has so many bytes
abbrev pub name_of_path : ℕ → List ℕ → List ℕ
name_of_path root_len path = drop root_len path

-- the row of a file with this stat
abbrev pub row_with_stat : List ℕ → Stat → SeenData
row_with_stat name stat =
    record { name = name; kind = stat.kind; size = stat.size; mtime_ms = stat.mtime_ms }

-- the rows of a file with this stat: one, if its name is in the part
abbrev pub rows_of_file : Part → List ℕ → Stat → List SeenData
rows_of_file part name stat = if is_in part name then row_with_stat name stat ∷ [] else []

-- no name below the directory of a name is in a part
abbrev pub HasNoneBelow : Part → List ℕ → Type 0
HasNoneBelow part name = (rest : List ℕ) → IsTrue (is_in part (name_below name rest)) → ⊥

-- a walk passes over a file: neither its name nor one below it is in the part; or no pass takes its
-- name, its path is no text, or the disk cannot look at it
abbrev pub IsPassedOver : GivesStat → Part → List ℕ → List ℕ → Type 0
IsPassedOver says part path name =
    ((is_in part name ≡ false) × HasNoneBelow part name)
    ⊎ ((is_valid_name name ≡ false) ⊎ ((IsUtf8 path → ⊥) ⊎ says path None))

-- whether the walk enters a file with this stat. It enters only a directory below which names may
-- be in the part, and each directory below which one is
abbrev pub IsEntered : Part → List ℕ → Stat → Bool → Type 0
IsEntered part name stat true = (stat.kind ≡ Dir) × MayHaveBelow part name
IsEntered part name stat false = stat.kind ≡ Dir → HasNoneBelow part name

-- the walk looked at a file: it lists these rows, and enters the file later or not
abbrev pub IsLooked : GivesStat → ℕ → Part → List ℕ → List SeenData → Bool → Type 0
IsLooked says root_len part path rows enters =
    (IsPassedOver says part path (name_of_path root_len path) × (rows ≡ []) × (enters ≡ false))
    ⊎ ((stat : Stat) × says path (Some stat)
    × (rows ≡ rows_of_file part (name_of_path root_len path) stat)
    × IsEntered part (name_of_path root_len path) stat enters)

-- the rest of a directory after the walk looked at a name, which it enters later or not
abbrev pub after_look : DirectoryData → List (List ℕ) → List ℕ → Bool → DirectoryData
after_look directory left name enters = record {
  path = directory.path;
  left = left;
  waiting = if enters then directory.waiting ++ (name ∷ []) else directory.waiting;
}

-- the walk looked at the next name of the directory in which it is
abbrev pub LooksAtName : GivesStat → ℕ → Part → WalkData → WalkData → Type 0
LooksAtName says root_len part before after =
    (name : List ℕ) × (left : List (List ℕ)) × (rows : List SeenData) × (enters : Bool)
    × (before.here.left ≡ left ++ (name ∷ []))
    × IsLooked says root_len part (before.here.path ++ name) rows enters
    × (after ≡ record {
      above = before.above;
      here = after_look before.here left name enters;
      rows = before.rows ++ rows;
    })

-- the walk entered the next directory that waits, by its path without a slash, so that the system
-- follows no link
abbrev pub Enters : Has → WalkData → WalkData → Type 0
Enters has before after =
    (name : List ℕ) × (waiting : List (List ℕ)) × (names : List (List ℕ))
    × (before.here.waiting ≡ waiting ++ (name ∷ []))
    × HasEntries has (before.here.path ++ name) names
    × (after ≡ record {
      above = before.above ++ (record before.here { waiting = waiting } ∷ []);
      here = fresh (before.here.path ++ name ++ (byte "/" ∷ [])) names;
      rows = before.rows;
    })

-- the walk left a directory in which no step is left
abbrev pub Leaves : WalkData → WalkData → Type 0
Leaves before after =
    IsDone before.here × (before.above ≡ after.above ++ (after.here ∷ []))
    × (after.rows ≡ before.rows)

-- a step of a walk: it looks at a name, enters a directory or leaves one
abbrev pub IsStep : GivesStat → Has → ℕ → Part → WalkData → WalkData → Type 0
IsStep says has root_len part before after =
    LooksAtName says root_len part before after ⊎ (Enters has before after ⊎ Leaves before after)

-- so many steps of a walk lead from here to there
unfoldable pub AreSteps : GivesStat → Has → ℕ → Part → ℕ → WalkData → WalkData → Type 0
AreSteps says has root_len part zero before after = after ≡ before
AreSteps says has root_len part (suc n) before after =
    (mid : WalkData) × AreSteps says has root_len part n before mid
    × IsStep says has root_len part mid after

-- a walk ended after some steps, in a directory in which no step is left and with none above it
abbrev pub WalkEnds : GivesStat → Has → ℕ → Part → WalkData → List SeenData → Type 0
WalkEnds says has root_len part before rows =
    (steps : ℕ) × (last : DirectoryData)
    × AreSteps says has root_len part steps before (record { above = []; here = last; rows = rows })
    × IsDone last

-- a walk of a part of the tree below a root lists these rows: it begins in the root's directory,
-- and ends when no step is left
abbrev pub IsWalk : GivesStat → Has → List ℕ → Part → List SeenData → Type 0
IsWalk says has root part rows =
    (names : List (List ℕ)) × GivesEntries has root names
    × WalkEnds says has (length root) part
    (record { above = []; here = fresh root names; rows = [] }) rows
