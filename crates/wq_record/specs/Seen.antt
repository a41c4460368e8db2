-- One file as a pass sees it: its kind, its size, and its modification time in milliseconds. A row
-- of a listing is a name with its stat.
use Rattle.std.specs.Prelude.{refl, ℕ, ℤ, pos, neg_ℤ, Bool, ◌&&◌, ◌==◌, int_le, List}
use Rattle.std.specs.Coded.{Coded, code_by, coded×, coded_ℤ}
use Rattle.std.specs.Ordering.{int_eq}
use Rattle.wq_record.specs.contracts.kind.Kind.{the_row}
use Rattle.wq_record.specs.declared.kind.Kind.{Kind}
use Rattle.wq_base.specs.Limit.{max_number}
use Rattle.wq_record.specs.Kind.{letter_of}
use Rattle.wq_record.specs.Name.{is_valid_name}

-- the stat that a pass saw of a name
pub record Stat : Type 0 where
  pub kind : Kind
  pub size : ℤ
  pub mtime_ms : ℤ

-- a stat as the tuple of its parts
abbrev pub stat_code : Coded Stat
stat_code =
    code_by (Kind × (ℤ × ℤ)) (coded× the_row.coded (coded× coded_ℤ coded_ℤ))
    (λ s. (s.kind, (s.size, s.mtime_ms)))
    (λ (kind, (size, mtime_ms)). record { kind = kind; size = size; mtime_ms = mtime_ms })
    (λ _. refl)

-- a name with its stat
pub record SeenData : Type 0 where
  pub name : List ℕ
  pub kind : Kind
  pub size : ℤ
  pub mtime_ms : ℤ

-- the stat of the file in the row
abbrev pub stat_of : SeenData → Stat
stat_of row = record { kind = row.kind; size = row.size; mtime_ms = row.mtime_ms }

-- the row as an entry of a map from names
abbrev pub entry_of : SeenData → List ℕ × Stat
entry_of row = (row.name, stat_of row)

-- whether two stats are the same
abbrev pub same_stat : Stat → Stat → Bool
same_stat a b =
    (letter_of a.kind == letter_of b.kind) && int_eq a.size b.size && int_eq a.mtime_ms b.mtime_ms

-- a size in bytes, or a second of the Unix epoch: from 0 to 2^62
abbrev pub is_count : ℤ → Bool
is_count z = int_le (pos 0) z && int_le z (pos max_number)

-- a time in milliseconds of the Unix epoch: from -2^62 to 2^62
abbrev pub is_time : ℤ → Bool
is_time z = int_le (neg_ℤ (pos max_number)) z && int_le z (pos max_number)

-- a stat whose numbers are in range
abbrev pub is_in_range : Stat → Bool
is_in_range s = is_count s.size && is_time s.mtime_ms

-- a row with a valid name, whose numbers are in range
abbrev pub is_lawful_row : SeenData → Bool
is_lawful_row row = is_valid_name row.name && is_in_range (stat_of row)
