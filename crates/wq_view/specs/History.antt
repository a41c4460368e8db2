-- Histories: the passes over one root, and the record of each name that follows from them. The
-- fields of a record are those of Watchman's documentation of file queries.
use Rattle.std.specs.Prelude.{◌≢◌, ℕ, zero, suc, ℤ, pos, Bool, true, false, not, ◌&&◌, is_some, is_none, if◌then◌else◌, List, [], ◌∷◌, length, slice_get, Option, Some, None, option_map, option_and_then}
use Rattle.std.specs.Option.{option_map_or}
use Rattle.std.specs.FinMap.{FinMap, empty, get}
use Rattle.wq_record.specs.Seen.{Stat, same_stat}
use Rattle.wq_record.specs.Name.{name_cmp}
use Rattle.wq_view.specs.Listing.{PassData}
use Rattle.wq_record.specs.RecordData.{RecordData}

-- the list of the passes over one root, the first pass first; neighbouring passes may be equal
abbrev pub History : Type 0
History = List PassData

-- the stat that pass i saw for the name: passes count from 1, and before them nothing exists
abbrev pub stat_at : History → List ℕ → ℕ → Option Stat
stat_at history name zero = None
stat_at history name (suc i) = option_and_then (λ pass. get pass.stats name) (slice_get history i)

-- the second of pass i
abbrev pub second_of : History → ℕ → ℤ
second_of history zero = pos 0
second_of history (suc i) = option_map_or (λ pass. pass.second) (slice_get history i) (pos 0)

-- whether two observations are the same: no file twice, or one stat twice
abbrev pub same_observation : Option Stat → Option Stat → Bool
same_observation None None = true
same_observation None (Some b) = false
same_observation (Some a) None = false
same_observation (Some a) (Some b) = same_stat a b

-- the greatest number from 1 to n that passes the test, or 0
abbrev pub greatest : (ℕ → Bool) → ℕ → ℕ
greatest test zero = 0
greatest test (suc n) = if test (suc n) then suc n else greatest test n

-- whether pass i saw the file
abbrev pub is_seen : (ℕ → Option Stat) → ℕ → Bool
is_seen stats i = is_some (stats i)

-- whether pass i saw the file, and the pass before did not
abbrev pub has_come : (ℕ → Option Stat) → ℕ → Bool
has_come stats zero = false
has_come stats (suc i) = is_some (stats (suc i)) && is_none (stats i)

-- whether pass i and the pass before differ on the file
abbrev pub has_changed : (ℕ → Option Stat) → ℕ → Bool
has_changed stats zero = false
has_changed stats (suc i) = not (same_observation (stats i) (stats (suc i)))

-- the record of a name after n passes with these stats, at these seconds; none if no pass saw the
-- name
abbrev pub record_from : List ℕ → (ℕ → Option Stat) → (ℕ → ℤ) → ℕ → Option RecordData
record_from name stats seconds n =
    option_map (λ last. record {
      name = name;
      kind = last.kind;
      size = last.size;
      mtime_ms = last.mtime_ms;
      exists = is_some (stats n);
      ctick = greatest (has_come stats) n;
      otick = greatest (has_changed stats) n;
      csec = seconds (greatest (has_come stats) n);
      osec = seconds (greatest (has_changed stats) n);
    }) (stats (greatest (is_seen stats) n))

-- the record that a history gives a name
abbrev pub record_of : History → List ℕ → Option RecordData
record_of history name =
    record_from name (stat_at history name) (second_of history) (length history)

-- each pass saw something else than the one before it, and the first something else than this
abbrev pub DifferFrom : FinMap name_cmp Stat → History → Type 0
DifferFrom before [] = Unit {0}
DifferFrom before (pass ∷ passes) = (before ≢ pass.stats) × DifferFrom pass.stats passes

-- neighbouring passes differ, and the first one is not empty
abbrev pub Differ : History → Type 0
Differ history = DifferFrom empty history

-- the map of the last pass, and before the first pass the empty map
abbrev pub last_stats : History → FinMap name_cmp Stat
last_stats [] = empty
last_stats (pass ∷ []) = pass.stats
last_stats (pass ∷ next ∷ passes) = last_stats (next ∷ passes)
