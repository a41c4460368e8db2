-- The directories that are too deep for a path, and the files under a path in a range of positions.
-- The definitions are this server's own.
use Rattle.std.specs.Prelude.{◌≡◌, ◌-◌, ℕ, true, false, filter, is_some, List}
use Rattle.std.specs.List.{range_with_len}
use Rattle.wq_base.specs.Directory.{rest_below}
use Rattle.wq_base.specs.declared.compare.Case.TheVariants.{Exact}
use Rattle.wq_view.specs.Below.{is_below}
use Rattle.wq_view.specs.Position.{passes_at}
use Rattle.wq_record.specs.RecordData.{RecordData}
use Rattle.wq_term.specs.declared.generators.PathGen.{PathGen}
use Rattle.wq_gen.specs.Candidate.{is_under}

-- the name is below the directory, and the path gives no file below the directory
abbrev pub IsDeep : PathGen → List ℕ → List ℕ → Type 0
IsDeep path name dir =
    (is_some (rest_below Exact dir name) ≡ true)
    × ((r : RecordData) → is_below dir r ≡ true → is_under path r ≡ false)

-- the positions of the files under a path, from one position up to another
abbrev pub under_between : PathGen → List RecordData → ℕ → ℕ → List ℕ
under_between path records from to =
    filter (passes_at (is_under path) records) (range_with_len from (to - from))
