-- A view whose looks are counted, and how many looks the candidates of generators may take. No
-- public document defines them.
use Rattle.std.specs.Prelude.{◌+◌, ◌-◌, ◌*◌, ◌^◌, ℕ, min, List, length, count_by, sum_by}
use Rattle.std.specs.Prelude.{Option, Some, None}
use Rattle.wq_clock.specs.declared.bound.Bound.{Bound}
use Rattle.wq_clock.specs.declared.bound.Bound.TheVariants.{Fresh, Tick, Second}
use Rattle.wq_glob.specs.Pattern.{PatternData}
use Rattle.wq_view.specs.Below.{is_below}
use Rattle.wq_record.specs.RecordData.{RecordData}
use Rattle.wq_view.specs.Suffix.{has_suffix}
use Rattle.wq_view.specs.View.{ViewData}
use Rattle.wq_term.specs.declared.generators.Generators.{Generators}
use Rattle.wq_term.specs.declared.generators.PathGen.{PathGen}
use Rattle.wq_gen.specs.Candidate.{changed_since}
use Rattle.wq_gen.specs.Outer.{outer}

-- a view, and how many looks it took
pub record CountedData : Type 0 where
  pub view : ViewData
  pub count : ℕ

-- the count with one look more; it stops at the greatest number
abbrev pub one_more : ℕ → ℕ
one_more count = min (count + 1) (2 ^ 64 - 1)

-- the looks that a bound may take: two for each file that changed after a tick, and two more; two
-- for each file, if the bound is a second
abbrev pub since_looks : Option Bound → List RecordData → ℕ
since_looks None records = 0
since_looks (Some Fresh) records = 0
since_looks (Some (Tick tick)) records = 2 * (count_by (changed_since (Tick tick)) records + 1)
since_looks (Some (Second second)) records = 2 * length records

-- the looks that a suffix may take: one for each file with it, and one more
abbrev pub text_looks : List RecordData → List ℕ → ℕ
text_looks records text = count_by (has_suffix text) records + 1

-- the looks that suffixes may take
abbrev pub suffix_looks : Option (List (List ℕ)) → List RecordData → ℕ
suffix_looks None records = 0
suffix_looks (Some texts) records = sum_by (text_looks records) texts

-- the looks that a path may take: one for each file strictly below it, and three more
abbrev pub one_path_looks : List RecordData → PathGen → ℕ
one_path_looks records path = count_by (is_below path.path) records + 3

-- the looks that paths may take: those of the paths that no other one holds
abbrev pub path_looks : Option (List PathGen) → List RecordData → ℕ
path_looks None records = 0
path_looks (Some paths) records = sum_by (one_path_looks records) (outer paths)

-- the looks that patterns may take: one for each file, whatever the number of patterns
abbrev pub glob_looks : Option (List PatternData) → List RecordData → ℕ
glob_looks None records = 0
glob_looks (Some patterns) records = length records

-- the looks that the candidates of generators may take; without a generator there are none
abbrev pub allowed : Generators → List RecordData → ℕ
allowed generators records =
    since_looks generators.since records + suffix_looks generators.suffix records
    + path_looks generators.path records + glob_looks generators.glob records
