-- The record that a view keeps of one file: the kind, size and time that were last seen, and when
-- the file came and changed. Its fields are those of Watchman's documentation of file queries. A
-- tick is the number of a pass.
use Rattle.std.specs.Prelude.{ℕ, ℤ, pos, ◌≤◌, Bool, false, true, IsTrue, if◌then◌else◌, List, map, Option, Some, None, refl}
use Rattle.std.specs.Coded.{Coded, code_by, coded×, coded_ℕ, coded_ℤ, coded_bool, coded_list}
use Rattle.std.specs.FinMap.{find}
use Rattle.wq_record.specs.contracts.kind.Kind.{the_row}
use Rattle.wq_record.specs.declared.kind.Kind.{Kind}
use Rattle.wq_record.specs.declared.kind.Kind.TheVariants.{Unknown}
use Rattle.wq_record.specs.Limit.{max_tick}
use Rattle.wq_record.specs.Name.{is_valid_name}
use Rattle.wq_record.specs.Seen.{Stat, is_count, is_in_range, same_stat}
use Rattle.wq_record.specs.Name.{name_cmp}

-- the record of one file, deleted or not
pub record RecordData : Type 0 where
  pub name : List ℕ
  pub kind : Kind
  pub size : ℤ
  pub mtime_ms : ℤ
  -- whether the last pass saw the file
  pub exists : Bool
  -- the pass that saw the file come, and the last pass that saw a change of it
  pub ctick : ℕ
  pub otick : ℕ
  -- the seconds of those passes
  pub csec : ℤ
  pub osec : ℤ

-- a record as the tuple of its parts
abbrev pub record_code : Coded RecordData
record_code =
    code_by (List ℕ × (Kind × (ℤ × (ℤ × (Bool × (ℕ × (ℕ × (ℤ × ℤ))))))))
    (coded× (coded_list coded_ℕ) (coded× the_row.coded (coded× coded_ℤ (coded× coded_ℤ
    (coded× coded_bool (coded× coded_ℕ (coded× coded_ℕ (coded× coded_ℤ coded_ℤ))))))))
    (λ r. (
      r.name,
      (
        r.kind,
        (
          r.size,
          (
            r.mtime_ms,
            (r.exists, (r.ctick, (r.otick, (r.csec, r.osec)))),
          ),
        ),
      ),
    ))
    (λ (name, (kind, (size, (mtime_ms, (exists, (ctick, (otick, (csec, osec)))))))). record {
      name = name;
      kind = kind;
      size = size;
      mtime_ms = mtime_ms;
      exists = exists;
      ctick = ctick;
      otick = otick;
      csec = csec;
      osec = osec;
    })
    (λ _. refl)

-- the kind, size and time that were last seen of the file
abbrev pub last_stat : RecordData → Stat
last_stat r = record { kind = r.kind; size = r.size; mtime_ms = r.mtime_ms }

-- the name is valid, the numbers are in range, and neither tick is over the limit
pub record IsLawful (r : RecordData) : Type 0 where
  pub name : IsTrue (is_valid_name r.name)
  pub stat : IsTrue (is_in_range (last_stat r))
  pub ctick : r.ctick ≤ max_tick
  pub otick : r.otick ≤ max_tick
  pub csec : IsTrue (is_count r.csec)
  pub osec : IsTrue (is_count r.osec)

-- the record of a name that no pass has seen yet
abbrev pub blank_record : List ℕ → RecordData
blank_record name = record {
  name = name;
  kind = Unknown;
  size = pos 0;
  mtime_ms = pos 0;
  exists = false;
  ctick = 0;
  otick = 0;
  csec = pos 0;
  osec = pos 0;
}

-- the record after a pass that saw a change of the file
abbrev pub after_change : RecordData → Stat → ℕ → ℤ → RecordData
after_change r s tick second =
    record r { kind = s.kind; size = s.size; mtime_ms = s.mtime_ms; otick = tick; osec = second }

-- the record after a pass that saw the file come
abbrev pub after_creation : RecordData → Stat → ℕ → ℤ → RecordData
after_creation r s tick second =
    after_change (record r { exists = true; ctick = tick; csec = second }) s tick second

-- the record after a pass that saw the file go
abbrev pub after_deletion : RecordData → ℕ → ℤ → RecordData
after_deletion r tick second = record r { exists = false; otick = tick; osec = second }

-- the record after a pass that saw this stat of the file, or no file
abbrev pub record_after : RecordData → Option Stat → ℕ → ℤ → RecordData
record_after r None tick second = if r.exists then after_deletion r tick second else r
record_after r (Some s) tick second =
    if r.exists then (if same_stat (last_stat r) s then r else after_change r s tick second)
    else after_creation r s tick second

-- records as entries by their names
abbrev pub by_name : List RecordData → List (List ℕ × RecordData)
by_name = map (λ r. (r.name, r))

-- the record of a name, if there is one
abbrev pub record_named : List ℕ → List RecordData → Option RecordData
record_named name records = find name_cmp name (by_name records)
