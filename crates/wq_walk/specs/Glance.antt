-- A glance at a tree that has a view: a walk that need not enter each directory. It keeps what the
-- last view has below the others. No public document defines it.
use Rattle.std.specs.Prelude.{◌≡◌, ◌⊎◌, ℕ, zero, suc, IsTrue, List, [], ◌∷◌, ◌++◌, length}
use Rattle.std.specs.Prelude.{false, filter, Some, slice_get}
use Rattle.std.specs.List.{All}
use Rattle.std.specs.Str.{byte}
use Rattle.wq_view.specs.SeenRows.{seen_row, seen_rows}
use Rattle.wq_view.specs.Below.{is_below}
use Rattle.wq_patch.specs.Recent.{is_one_of_names}
use Rattle.wq_record.specs.RecordData.{RecordData, record_named}
use Rattle.wq_record.specs.Seen.{SeenData, Stat}
use Rattle.wq_record.specs.declared.kind.Kind.TheVariants.{Dir}
use Rattle.wq_walk.specs.Accounts.{IsAmongRead, IsOneOf, IsRowOfPath, ReadData, WasRead}
use Rattle.wq_walk.specs.Listed.{IsPathOf}
use Rattle.wq_walk.specs.Part.{whole_part}
use Rattle.wq_disk.specs.Told.{GivesEntries, GivesStat, Has}
use Rattle.wq_disk.specs.Directory.{DirectoryData, IsDone, fresh}
use Rattle.wq_walk.specs.Walk.{IsPassedOver, IsStep, WalkData}
use Rattle.wq_walk.specs.Walk.{name_of_path, row_with_stat}

-- the rows of the files below a directory that exist by the records of a view
abbrev pub rows_below : List ℕ → List RecordData → List SeenData
rows_below directory records = seen_rows (filter (is_below directory) records)

-- by the records of a view there is a directory of this name, and these rows list it as its record
-- says
abbrev pub IsUnchanged : List RecordData → List SeenData → List ℕ → Type 0
IsUnchanged records rows name =
    (known : RecordData) × (record_named name records ≡ Some known) × IsTrue known.exists
    × (known.kind ≡ Dir) × IsOneOf (seen_row known) rows

-- these rows list what the record at a place says
abbrev pub ListsAt : List RecordData → List SeenData → ℕ → Type 0
ListsAt records rows place =
    (known : RecordData) × (slice_get records place ≡ Some known) × IsOneOf (seen_row known) rows

-- these rows list what the record at each of these places says
abbrev pub ListAll : List RecordData → List SeenData → List ℕ → Type 0
ListAll records rows places = All (ListsAt records rows) places

-- a glance did not enter the next directory that waits. It was not asked to, it listed the
-- directory as the view has it, and it lists all files below it by the view
abbrev pub KeepsBelow : List RecordData → List (List ℕ) → ℕ → WalkData → WalkData → Type 0
KeepsBelow records asked root_len before after =
    (name : List ℕ) × (waiting : List (List ℕ))
    × (before.here.waiting ≡ waiting ++ (name ∷ []))
    × IsUnchanged records before.rows (name_of_path root_len (before.here.path ++ name))
    × (is_one_of_names asked (name_of_path root_len (before.here.path ++ name)) ≡ false)
    × (after ≡ record {
      above = before.above;
      here = record before.here { waiting = waiting };
      rows = before.rows ++ rows_below (name_of_path root_len (before.here.path ++ name)) records;
    })

-- a step of a glance: one of a walk, or it does not enter a directory
abbrev pub IsGlanceStep : GivesStat → Has → List RecordData → List (List ℕ) → ℕ → WalkData
    → WalkData → Type 0
IsGlanceStep says has records asked root_len before after =
    IsStep says has root_len whole_part before after
    ⊎ KeepsBelow records asked root_len before after

-- so many steps of a glance lead from here to there
unfoldable pub AreGlanceSteps : GivesStat → Has → List RecordData → List (List ℕ) → ℕ → ℕ
    → WalkData → WalkData → Type 0
AreGlanceSteps says has records asked root_len zero before after = after ≡ before
AreGlanceSteps says has records asked root_len (suc n) before after =
    (mid : WalkData) × AreGlanceSteps says has records asked root_len n before mid
    × IsGlanceStep says has records asked root_len mid after

-- a glance ended after some steps, in a directory in which no step is left and with none above it
abbrev pub GlanceEnds : GivesStat → Has → List RecordData → List (List ℕ) → ℕ → WalkData
    → List SeenData → Type 0
GlanceEnds says has records asked root_len before rows =
    (steps : ℕ) × (last : DirectoryData)
    × AreGlanceSteps says has records asked root_len steps before
    (record { above = []; here = last; rows = rows })
    × IsDone last

-- a glance at the tree below a root lists these rows, beside a view with these records, and is
-- asked to enter these directories: it begins in the root's directory, and ends when no step is
-- left. The root's path ends in a slash
abbrev pub IsGlance : GivesStat → Has → List RecordData → List (List ℕ) → List ℕ → List SeenData
    → Type 0
IsGlance says has records asked root rows =
    (names : List (List ℕ)) × GivesEntries has root names
    × GlanceEnds says has records asked (length root)
    (record { above = []; here = fresh root names; rows = [] }) rows

-- a glance at the tree below a root, to whose path a slash may have been added
abbrev pub IsGlancedAt : GivesStat → Has → List RecordData → List (List ℕ) → List ℕ
    → List SeenData → Type 0
IsGlancedAt says has records asked root rows =
    (path : List ℕ) × IsPathOf root path × IsGlance says has records asked path rows

-- the view has this row, below a directory that the glance was not asked to enter, and that it
-- listed as the view has it
abbrev pub IsKeptRow : List RecordData → List (List ℕ) → List SeenData → SeenData → Type 0
IsKeptRow records asked rows row =
    (directory : List ℕ) × IsUnchanged records rows directory
    × (is_one_of_names asked directory ≡ false) × IsOneOf row (rows_below directory records)

-- a row of a glance, which lists these rows: one that the view has below a directory that the
-- glance did not enter, or the disk gave its stat for the path of its name
abbrev pub IsRowOfGlance : GivesStat → List RecordData → List (List ℕ) → List ℕ → List SeenData
    → SeenData → Type 0
IsRowOfGlance says records asked root rows row =
    IsKeptRow records asked rows row ⊎ IsRowOfPath says root whole_part row

-- each row of a glance is one of the view, or of the path of its name. Only the latter are below
-- directories of which the glance was asked to enter each one from the root down, or of which each
-- one is not listed as the view has it
abbrev pub GlanceRowsAreKnown : GivesStat → Has → Type 0
GlanceRowsAreKnown says has =
    (records : List RecordData) (asked : List (List ℕ)) (root : List ℕ) (rows : List SeenData)
    → IsGlance says has records asked root rows
    → All (IsRowOfGlance says records asked root rows) rows

-- a glance did not enter a directory: it was not asked to, it listed the directory as the view has
-- it, and it lists the rows of all files below it by the view
abbrev pub IsKeptBelow : List RecordData → List (List ℕ) → List SeenData → List ℕ → Type 0
IsKeptBelow records asked rows name =
    IsUnchanged records rows name × (is_one_of_names asked name ≡ false)
    × All (λ row. IsOneOf row rows) (rows_below name records)

-- a glance accounts for the file of a path: it passes over the file; or the disk gives its stat,
-- its row is listed, and if it is a directory, then it was read, or the view's rows below it are
-- listed
abbrev pub IsAccountedForByGlance : GivesStat → List RecordData → List (List ℕ) → ℕ → List ReadData
    → List SeenData → List ℕ → Type 0
IsAccountedForByGlance says records asked root_len read rows path =
    IsPassedOver says whole_part path (name_of_path root_len path)
    ⊎ ((stat : Stat) × says path (Some stat)
    × IsOneOf (row_with_stat (name_of_path root_len path) stat) rows
    × (stat.kind ≡ Dir → IsAmongRead read (path ++ (byte "/" ∷ []))
    ⊎ IsKeptBelow records asked rows (name_of_path root_len path)))

-- a glance read some directories, the root's among them, and accounts for each name in each of them
abbrev pub GlanceNamesAreAccountedFor : GivesStat → Has → Type 0
GlanceNamesAreAccountedFor says has =
    (records : List RecordData) (asked : List (List ℕ)) (root : List ℕ) (rows : List SeenData)
    → IsGlance says has records asked root rows
    → (read : List ReadData) × IsAmongRead read root
    × ((directory : ReadData) → IsOneOf directory read → WasRead has root directory)
    × ((directory : ReadData) → IsOneOf directory read → (name : List ℕ)
    → IsOneOf name directory.names
    → IsAccountedForByGlance says records asked (length root) read rows (directory.path ++ name))
