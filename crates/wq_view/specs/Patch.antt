-- The rows of a listing that says only what differs from the records of a view. No public document
-- defines it.
use Rattle.std.specs.Prelude.{◌≡◌, ◌≤◌, ℕ, List, [], ◌∷◌, ◌++◌, take, drop}
use Rattle.wq_record.specs.RecordData.{RecordData}
use Rattle.wq_record.specs.Seen.{SeenData}
use Rattle.wq_view.specs.Limit.{max_records}
use Rattle.wq_view.specs.SeenRows.{seen_rows}
use Rattle.wq_view.specs.declared.patch.Patch.{Patch}

-- the rows of a listing that differs by these patches: each patch keeps some records, and puts its
-- rows in the place of some after them. The records after the last patch are kept
abbrev pub patched : List RecordData → List Patch → List SeenData
patched records [] = seen_rows records
patched records (p ∷ ps) =
    seen_rows (take p.kept records)
    ++ (p.rows.items ++ patched (drop p.replaced (drop p.kept records)) ps)

-- a patch that keeps so many records and replaces so many after them says nothing by a view: it
-- keeps none, and replaces as many as a view can have
pub record ReplacesAll (kept replaced : ℕ) : Type 0 where
  pub none : kept ≡ 0
  pub all : max_records ≤ replaced
