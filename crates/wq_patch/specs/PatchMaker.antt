-- The patches that a listing makes, as it finds files: the rows and the records that they account
-- for so far. No public document defines it.
use Rattle.std.specs.Prelude.{◌≡◌, ◌≤◌, ◌+◌, ◌-◌, ◌^◌, ℕ, List, [], ◌∷◌, ◌++◌, take, drop, length}
use Rattle.wq_record.specs.RecordData.{RecordData}
use Rattle.wq_record.specs.Seen.{SeenData}
use Rattle.wq_view.specs.SeenRows.{seen_rows}
use Rattle.wq_view.specs.Patch.{patched}
use Rattle.wq_view.specs.declared.patch.Patch.{Patch}
use Rattle.wq_patch.specs.declared.patch_maker.PatchMaker.{PatchMaker}

-- the greatest number that fits a machine word
abbrev pub max_word : ℕ
max_word = 2 ^ 64 - 1

-- the rows up to the end of the last of these patches
abbrev pub rows_before : List RecordData → List Patch → List SeenData
rows_before records [] = []
rows_before records (p ∷ ps) =
    seen_rows (take p.kept records)
    ++ (p.rows.items ++ rows_before (drop p.replaced (drop p.kept records)) ps)

-- the records after the last of these patches
abbrev pub records_behind : List RecordData → List Patch → List RecordData
records_behind records [] = records
records_behind records (p ∷ ps) = records_behind (drop p.replaced (drop p.kept records)) ps

-- each of these patches is of records that are there
abbrev pub AreInside : List RecordData → List Patch → Type 0
AreInside records [] = Unit {0}
AreInside records (p ∷ ps) =
    (p.kept + p.replaced ≤ length records)
    × AreInside (drop p.replaced (drop p.kept records)) ps

-- all patches that are made, the open one last
abbrev pub patches_made : PatchMaker → List Patch
patches_made made = made.done.items ++ (made.last ∷ [])

-- the rows of the files that were found so far
unfoldable pub rows_made : List RecordData → PatchMaker → List SeenData
rows_made records made =
    rows_before records (patches_made made)
    ++ seen_rows (take made.tail (records_behind records (patches_made made)))

-- the records that are not passed yet
unfoldable pub records_to_come : List RecordData → PatchMaker → List RecordData
records_to_come records made = drop made.tail (records_behind records (patches_made made))

-- the records that the patches account for are there
unfoldable pub IsWithin : List RecordData → PatchMaker → Type 0
IsWithin records made =
    AreInside records (patches_made made)
    × (made.tail ≤ length (records_behind records (patches_made made)))

-- the patches of a piece are the same as before, whatever its records
unfoldable pub IsSamePiece : PatchMaker → PatchMaker → Type 0
IsSamePiece before after =
    (records : List RecordData) → (rows_made records after ≡ rows_made records before)
    × (records_to_come records after ≡ records_to_come records before)
    × (IsWithin records before → IsWithin records after)

-- patches were put after others, and before them one that keeps so many records alone
abbrev pub IsPut : ℕ → List Patch → List Patch → List Patch → Type 0
IsPut kept made before after =
    (p : Patch) × (p.kept ≡ kept) × (p.replaced ≡ 0) × (p.rows.items ≡ [])
    × (after ≡ before ++ (p ∷ made))

-- these patches are of records that are there, and so many records are after the last of them
abbrev pub IsJoined : List RecordData → List Patch → ℕ → Type 0
IsJoined records patches left =
    AreInside records patches × (left ≡ length (records_behind records patches))

-- the patches of a piece with these records and these rows were joined to those of the records
-- before it
unfoldable pub IsJoinedTo : List RecordData → List SeenData → ℕ → List Patch → List Patch → ℕ
    → Type 0
IsJoinedTo records found kept before after left =
    (first : List RecordData) → IsJoined first before kept → IsJoined (first ++ records) after left
    × (patched (first ++ records) after ≡ patched first before ++ found)
