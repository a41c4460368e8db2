-- A piece of a view, whose files a listing finds. No public document defines it.
use Rattle.std.specs.Prelude.{ℕ, List, refl}
use Rattle.std.specs.Coded.{Coded, code_by, coded×, coded_ℕ, coded_list}
use Rattle.wq_record.specs.RecordData.{RecordData, record_code}
use Rattle.wq_record.specs.Seen.{SeenData, Stat, entry_of, stat_code}

-- the records of a piece of a view; the rows of the files that a listing found there so far; and
-- the number of records that it passed
pub record AgainData : Type 0 where
  pub records : List RecordData
  pub found : List SeenData
  pub passed : ℕ

-- a row as the pair of its name and its stat
abbrev pub seen_code : Coded SeenData
seen_code =
    code_by (List ℕ × Stat) (coded× (coded_list coded_ℕ) stat_code) entry_of
    (λ (name, stat). record {
      name = name;
      kind = stat.kind;
      size = stat.size;
      mtime_ms = stat.mtime_ms;
    }) (λ _. refl)

-- such a piece as the tuple of its parts
abbrev pub again_code : Coded AgainData
again_code =
    code_by (List RecordData × (List SeenData × ℕ))
    (coded× (coded_list record_code) (coded× (coded_list seen_code) coded_ℕ))
    (λ again. (again.records, (again.found, again.passed)))
    (λ (records, (found, passed)). record { records = records; found = found; passed = passed })
    (λ _. refl)
