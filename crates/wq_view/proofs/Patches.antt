-- Rows that differ by patches from records, beside these records.
use Rattle.std.proofs.Common.{◌≡◌, ◌+◌, ℕ, ℤ, true, ◌&&◌, List, [], ◌∷◌, ◌++◌, map, take, drop, length, refl, sym, ap, subst, ◌∙◌}
use mathlib.Core.Bool.{false≢true}
use Rattle.std.specs.declared.cmp.Ordering.{Ordering}
use Rattle.std.specs.declared.cmp.Ordering.TheVariants.{Less, Equal, Greater}
use Rattle.std.specs.FinMap.{is_sorted}
use Rattle.std.specs.FinMap.Entries.{by_order}
use Rattle.std.specs.List.{AllByRecursion, list_all}
use Rattle.std.specs.Ordering.{ordering_reverse}
use Rattle.std.proofs.Math.Seq.{take-add}
use Rattle.std.proofs.lemmas.List.{append-nil, drop-drop, map-append, take-append-drop}
use Rattle.std.proofs.lemmas.List.Folds.{list_all-append}
use Rattle.std.proofs.lemmas.Bool.{and_parts}
use Rattle.wq_record.specs.Name.{name_cmp}
use Rattle.wq_record.specs.RecordData.{RecordData, by_name}
use Rattle.wq_record.specs.Seen.{SeenData, entry_of}
use Rattle.wq_view.specs.SeenRows.{seen_rows}
use Rattle.wq_view.specs.Merge.{record_alone, record_and_row, row_alone, pairs_from, pairs_of, is_unchanged, shows, pair_after, records_after}
use Rattle.wq_view.specs.Moves.{MovesData, with_pairs, with_same}
use Rattle.wq_view.specs.Patch.{patched}
use Rattle.wq_view.specs.Patching.{AreBelow, FitFrom, kept_by, last_rows, left_by, patched_after, patched_moves, patched_shows, record_name, replaced_by, row_name}
use Rattle.wq_view.specs.Run.{is_same_run, rows_behind, run_pairs}
use Rattle.wq_view.specs.View.{NamesRise}
use Rattle.wq_view.specs.declared.patch.Patch.{Patch}
use Rattle.wq_view.proofs.Apart.{all_first, all_second, below_both, below_drop, below_seen, below_take, rising_both, rising_parts, seen_below, through}
use Rattle.wq_view.proofs.MoveSteps.{pairs_then, same_run}
use Rattle.wq_view.proofs.NameOrder.{names_total}
use Rattle.wq_view.proofs.Runs.{after_all, run_then, same_after, shows_both}
use Rattle.wq_view.proofs.Showing.{shown_existing}
use Rattle.wq_view.proofs.Unmoved.{existing_is, seen_sorted}

-- a name that is below another one has that one above it
above : (a b : List ℕ) → name_cmp a b ≡ Less → name_cmp b a ≡ Greater
above a b less = names_total.antisymm b a ∙ ap ordering_reverse less

-- rows below all records come first
alone : (rows : List SeenData) (rs : List RecordData) (more : List SeenData) → AreBelow row_name record_name rows rs → pairs_of rs (rows ++ more) ≡ map row_alone rows ++ pairs_of rs more
alone [] rs more below = refl
alone (row ∷ rows) [] more below = ap (λ l. row_alone row ∷ l) (alone rows [] more below.1)
alone (row ∷ rows) (r ∷ rs) more below = rw (above row.name r.name below.0.0) (ap (λ l. row_alone row ∷ l) (alone rows (r ∷ rs) more below.1))

-- the pairs of a record and of those after it, in two parts
record_through : (r : RecordData) (rs later : List RecordData) (more : List SeenData) → ((rows : List SeenData) → AreBelow row_name record_name rows later → pairs_of (rs ++ later) (rows ++ more) ≡ pairs_of rs rows ++ pairs_of later more) → AllByRecursion (λ (row : SeenData). name_cmp r.name row.name ≡ Less) more → (rows : List SeenData) → AreBelow row_name record_name rows later → pairs_from r (pairs_of (rs ++ later)) (rows ++ more) ≡ pairs_from r (pairs_of rs) rows ++ pairs_of later more
record_through r rs later more rest before [] below = first more before (rest [] tt)
  where
    first : (tail : List SeenData) → AllByRecursion (λ (row : SeenData). name_cmp r.name row.name ≡ Less) tail → pairs_of (rs ++ later) tail ≡ pairs_of rs [] ++ pairs_of later tail → pairs_from r (pairs_of (rs ++ later)) tail ≡ (record_alone r ∷ pairs_of rs []) ++ pairs_of later tail
    first [] before e = ap (λ l. record_alone r ∷ l) e
    first (row ∷ tail) before e = rw before.0 (ap (λ l. record_alone r ∷ l) e)
record_through r rs later more rest before (row ∷ rows) below = by (name_cmp r.name row.name) (rest (row ∷ rows) below) (rest rows below.1) (record_through r rs later more rest before rows below.1)
  where
    by : (o : Ordering) → pairs_of (rs ++ later) (row ∷ (rows ++ more)) ≡ pairs_of rs (row ∷ rows) ++ pairs_of later more → pairs_of (rs ++ later) (rows ++ more) ≡ pairs_of rs rows ++ pairs_of later more → pairs_from r (pairs_of (rs ++ later)) (rows ++ more) ≡ pairs_from r (pairs_of rs) rows ++ pairs_of later more → by_order o (record_alone r ∷ pairs_of (rs ++ later) (row ∷ (rows ++ more))) (record_and_row r row ∷ pairs_of (rs ++ later) (rows ++ more)) (row_alone row ∷ pairs_from r (pairs_of (rs ++ later)) (rows ++ more)) ≡ by_order o (record_alone r ∷ pairs_of rs (row ∷ rows)) (record_and_row r row ∷ pairs_of rs rows) (row_alone row ∷ pairs_from r (pairs_of rs) rows) ++ pairs_of later more
    by Less less equal greater = ap (λ l. record_alone r ∷ l) less
    by Equal less equal greater = ap (λ l. record_and_row r row ∷ l) equal
    by Greater less equal greater = ap (λ l. row_alone row ∷ l) greater

-- the pairs of records and rows in two parts, if the names of each first part are below those of the other second part
pub pairs_split : (rs : List RecordData) (rows : List SeenData) (later : List RecordData) (more : List SeenData) → AreBelow record_name row_name rs more → AreBelow row_name record_name rows later → pairs_of (rs ++ later) (rows ++ more) ≡ pairs_of rs rows ++ pairs_of later more
pairs_split [] rows later more before below = alone rows later more below
pairs_split (r ∷ rs) rows later more before below = record_through r rs later more (λ rows below. pairs_split rs rows later more before.1 below) before.0 rows below

-- no row is left if no record is there and the rows show it
none_new : (rows : List SeenData) → shows [] rows ≡ true → rows ≡ []
none_new [] e = refl
none_new (row ∷ rows) e = absurd (false≢true e)

-- records that the rows show: each stays as it is, and no row is left
shown_parts : (rs : List RecordData) (rows : List SeenData) → shows rs rows ≡ true → (is_same_run rs rows ≡ true) × (rows_behind rs rows ≡ [])
shown_parts rs rows e =
    let parts = and_parts (is_same_run rs rows) (shows [] (rows_behind rs rows)) (sym (ap (λ l. shows l rows) (sym (append-nil rs)) ∙ shows_both rs rows []) ∙ e) in
    (parts.0, none_new (rows_behind rs rows) parts.1)

-- such records are the same after the pass
after_shown : (tick : ℕ) (second : ℤ) (rs : List RecordData) (rows : List SeenData) → shows rs rows ≡ true → records_after tick second rs rows ≡ rs
after_shown tick second rs rows e =
    let parts = shown_parts rs rows e in
    after_all tick second rs rows
    ∙ ap (λ l. l ++ records_after tick second [] (rows_behind rs rows)) (same_after tick second rs rows parts.0)
    ∙ ap (λ l. rs ++ records_after tick second [] l) parts.1
    ∙ append-nil rs

-- and their moves are those of records that stay
moves_shown : (rs : List RecordData) (rows : List SeenData) (m : MovesData) → shows rs rows ≡ true → with_pairs (pairs_of rs rows) m ≡ with_same (length rs) m
moves_shown rs rows m e =
    let parts = shown_parts rs rows e in
    ap (λ l. with_pairs (pairs_of l rows) m) (sym (append-nil rs))
    ∙ ap (λ ps. with_pairs ps m) (run_then rs rows [])
    ∙ ap (λ l. with_pairs (run_pairs rs rows ++ pairs_of [] l) m) parts.1
    ∙ ap (λ ps. with_pairs ps m) (append-nil (run_pairs rs rows))
    ∙ sym (same_run rs rows m parts.0)

-- the names of a part of records rise
rise_parts : (k : ℕ) (rs : List RecordData) → NamesRise rs → NamesRise (take k rs) × NamesRise (drop k rs) × AreBelow record_name record_name (take k rs) (drop k rs)
rise_parts k rs rise = rising_parts (λ (r : RecordData). (r.name, r)) (take k rs) (drop k rs) (ap (λ l. is_sorted name_cmp (by_name l)) (take-append-drop k rs) ∙ rise)

-- rows of files that exist show their records
shown_kept : (rs : List RecordData) → NamesRise rs → shows rs (seen_rows rs) ≡ true
shown_kept rs rise = shown_existing rs (seen_rows rs) rise (existing_is rs)

-- rows below the last ones are below what the last ones are below
earlier_below : (earlier rows rest : List SeenData) → AreBelow row_name row_name earlier rows → AreBelow row_name row_name (last_rows earlier rows) rest → AreBelow row_name row_name earlier rest
earlier_below earlier [] rest first second = second
earlier_below earlier (row ∷ rows) rest first second = through row_name row_name row_name earlier row rest (below_take row_name row_name 1 earlier (row ∷ rows) first) second.0

last_before : (earlier rows : List SeenData) (rs : List RecordData) → AreBelow row_name record_name earlier rs → AreBelow row_name record_name rows rs → AreBelow row_name record_name (last_rows earlier rows) rs
last_before earlier [] rs first second = first
last_before earlier (row ∷ rows) rs first second = second

rows_last : (earlier rows rest : List SeenData) → AreBelow row_name row_name (last_rows earlier rows) rest → AreBelow row_name row_name rows rest
rows_last earlier [] rest below = tt
rows_last earlier (row ∷ rows) rest below = below

module _ (all : List RecordData) (rise : NamesRise all) where
  -- the records after those of a patch
  left_is : (at : ℕ) (p : Patch) → left_by p (drop at all) ≡ drop (at + p.kept + p.replaced) all
  left_is at p = ap (drop p.replaced) (drop-drop p.kept at all) ∙ drop-drop p.replaced (at + p.kept) all

  -- what all records up to a place have, those before and those after an earlier place have
  front : (P : RecordData → Type 0) (at k : ℕ) → AllByRecursion P (take (at + k) all) → AllByRecursion P (take at all)
  front P at k holds = all_first P (take at all) (take k (drop at all)) (subst (AllByRecursion P) (take-add at k all) holds)

  back : (P : RecordData → Type 0) (at k : ℕ) → AllByRecursion P (take (at + k) all) → AllByRecursion P (take k (drop at all))
  back P at k holds = all_second P (take at all) (take k (drop at all)) (subst (AllByRecursion P) (take-add at k all) holds)

  -- records before a place are below the rows after it
  records_below : (ps : List Patch) (at : ℕ) (earlier : List SeenData) → FitFrom all at earlier ps → AreBelow record_name row_name (take at all) (patched (drop at all) ps)
  records_below [] at earlier fit = below_seen record_name (take at all) (drop at all) (rise_parts at all rise).2
  records_below (p ∷ ps) at earlier fit =
      let rest = patched (left_by p (drop at all)) ps in
      let later = subst (λ rs. AreBelow record_name row_name (take (at + p.kept + p.replaced) all) (patched rs ps)) (sym (left_is at p)) (records_below ps (at + p.kept + p.replaced) (last_rows earlier p.rows.items) fit.1) in
      below_both record_name row_name (take at all) (seen_rows (kept_by p (drop at all))) (p.rows.items ++ rest)
      (below_seen record_name (take at all) (kept_by p (drop at all)) (below_take record_name record_name p.kept (take at all) (drop at all) (rise_parts at all rise).2))
      (below_both record_name row_name (take at all) p.rows.items rest
      (front (λ r. AllByRecursion (λ (row : SeenData). name_cmp r.name row.name ≡ Less) p.rows.items) at p.kept fit.0.after_records)
      (front (λ r. AllByRecursion (λ (row : SeenData). name_cmp r.name row.name ≡ Less) rest) at p.kept (front (λ r. AllByRecursion (λ (row : SeenData). name_cmp r.name row.name ≡ Less) rest) (at + p.kept) p.replaced later)))

  -- rows below the records after a place are below the rows after it
  rows_below : (ps : List Patch) (at : ℕ) (earlier : List SeenData) → FitFrom all at earlier ps → AreBelow row_name record_name earlier (drop at all) → AreBelow row_name row_name earlier (patched (drop at all) ps)
  rows_below [] at earlier fit below = below_seen row_name earlier (drop at all) below
  rows_below (p ∷ ps) at earlier fit below =
      let rest = patched (left_by p (drop at all)) ps in
      let next = subst (AreBelow row_name record_name earlier) (left_is at p) (below_drop row_name record_name p.replaced earlier (drop p.kept (drop at all)) (below_drop row_name record_name p.kept earlier (drop at all) below)) in
      let later = subst (λ rs. AreBelow row_name row_name (last_rows earlier p.rows.items) (patched rs ps)) (sym (left_is at p)) (rows_below ps (at + p.kept + p.replaced) (last_rows earlier p.rows.items) fit.1 (last_before earlier p.rows.items (drop (at + p.kept + p.replaced) all) next fit.0.before_records)) in
      below_both row_name row_name earlier (seen_rows (kept_by p (drop at all))) (p.rows.items ++ rest)
      (below_seen row_name earlier (kept_by p (drop at all)) (below_take row_name record_name p.kept earlier (drop at all) below))
      (below_both row_name row_name earlier p.rows.items rest fit.0.after_rows (earlier_below earlier p.rows.items rest fit.0.after_rows later))

  -- the rows rise
  pub rows_rise : (ps : List Patch) (at : ℕ) (earlier : List SeenData) → FitFrom all at earlier ps → AreBelow row_name record_name earlier (drop at all) → is_sorted name_cmp (map entry_of (patched (drop at all) ps)) ≡ true
  rows_rise [] at earlier fit below = seen_sorted (drop at all) (rise_parts at all rise).1
  rows_rise (p ∷ ps) at earlier fit below =
      let kept = kept_by p (drop at all) in
      let rest = patched (left_by p (drop at all)) ps in
      let next = subst (AreBelow row_name record_name earlier) (left_is at p) (below_drop row_name record_name p.replaced earlier (drop p.kept (drop at all)) (below_drop row_name record_name p.kept earlier (drop at all) below)) in
      let last = last_before earlier p.rows.items (drop (at + p.kept + p.replaced) all) next fit.0.before_records in
      let later = subst (λ rs. AreBelow row_name row_name (last_rows earlier p.rows.items) (patched rs ps)) (sym (left_is at p)) (rows_below ps (at + p.kept + p.replaced) (last_rows earlier p.rows.items) fit.1 last) in
      let rest_rises = subst (λ rs. is_sorted name_cmp (map entry_of (patched rs ps)) ≡ true) (sym (left_is at p)) (rows_rise ps (at + p.kept + p.replaced) (last_rows earlier p.rows.items) fit.1 last) in
      let known = subst (λ rs. AreBelow record_name row_name (take (at + p.kept + p.replaced) all) (patched rs ps)) (sym (left_is at p)) (records_below ps (at + p.kept + p.replaced) (last_rows earlier p.rows.items) fit.1) in
      let kept_first = back (λ r. AllByRecursion (λ (row : SeenData). name_cmp r.name row.name ≡ Less) p.rows.items) at p.kept fit.0.after_records in
      let kept_then = back (λ r. AllByRecursion (λ (row : SeenData). name_cmp r.name row.name ≡ Less) rest) at p.kept (front (λ r. AllByRecursion (λ (row : SeenData). name_cmp r.name row.name ≡ Less) rest) (at + p.kept) p.replaced known) in
      rising_both entry_of (seen_rows kept) (p.rows.items ++ rest) (seen_sorted kept (rise_parts p.kept (drop at all) (rise_parts at all rise).1).0)
      (rising_both entry_of p.rows.items rest fit.0.rise rest_rises (rows_last earlier p.rows.items rest later))
      (below_both row_name row_name (seen_rows kept) p.rows.items rest (seen_below row_name kept p.rows.items kept_first) (seen_below row_name kept rest kept_then))

  -- the pairs of the records that a patch keeps, of those that it replaces, and of the rest
  pairs_step : (p : Patch) (ps : List Patch) (at : ℕ) (earlier : List SeenData) → FitFrom all at earlier (p ∷ ps) → pairs_of (drop at all) (patched (drop at all) (p ∷ ps)) ≡ pairs_of (kept_by p (drop at all)) (seen_rows (kept_by p (drop at all))) ++ (pairs_of (replaced_by p (drop at all)) p.rows.items ++ pairs_of (left_by p (drop at all)) (patched (left_by p (drop at all)) ps))
  pairs_step p ps at earlier fit =
      let here = drop at all in
      let kept = kept_by p here in
      let replaced = replaced_by p here in
      let left = left_by p here in
      let rest = patched left ps in
      let later = subst (λ rs. AreBelow record_name row_name (take (at + p.kept + p.replaced) all) (patched rs ps)) (sym (left_is at p)) (records_below ps (at + p.kept + p.replaced) (last_rows earlier p.rows.items) fit.1) in
      let before_rest = front (λ r. AllByRecursion (λ (row : SeenData). name_cmp r.name row.name ≡ Less) rest) (at + p.kept) p.replaced later in
      let kept_first = back (λ r. AllByRecursion (λ (row : SeenData). name_cmp r.name row.name ≡ Less) p.rows.items) at p.kept fit.0.after_records in
      let kept_then = back (λ r. AllByRecursion (λ (row : SeenData). name_cmp r.name row.name ≡ Less) rest) at p.kept before_rest in
      let both = take-append-drop p.replaced (drop p.kept here) in
      let kept_below = subst (AreBelow record_name record_name kept) (sym both) (rise_parts p.kept here (rise_parts at all rise).1).2 in
      let replaced_first = subst (λ rs. AreBelow record_name row_name (take p.replaced rs) rest) (sym (drop-drop p.kept at all)) (back (λ r. AllByRecursion (λ (row : SeenData). name_cmp r.name row.name ≡ Less) rest) (at + p.kept) p.replaced later) in
      let rows_first = subst (AreBelow row_name record_name p.rows.items) (sym (left_is at p)) fit.0.before_records in
      ap (λ rs. pairs_of rs (patched here (p ∷ ps))) (sym (ap (λ rs. kept ++ rs) both ∙ take-append-drop p.kept here))
      ∙ pairs_split kept (seen_rows kept) (replaced ++ left) (p.rows.items ++ rest) (below_both record_name row_name kept p.rows.items rest kept_first kept_then) (seen_below record_name kept (replaced ++ left) kept_below)
      ∙ ap (λ l. pairs_of kept (seen_rows kept) ++ l) (pairs_split replaced p.rows.items left rest replaced_first rows_first)

  -- the records that a patch keeps rise
  kept_rise : (p : Patch) (at : ℕ) → NamesRise (kept_by p (drop at all))
  kept_rise p at = (rise_parts p.kept (drop at all) (rise_parts at all rise).1).0

  -- the records after the pass
  pub after_patches : (tick : ℕ) (second : ℤ) (ps : List Patch) (at : ℕ) (earlier : List SeenData) → FitFrom all at earlier ps → records_after tick second (drop at all) (patched (drop at all) ps) ≡ patched_after tick second (drop at all) ps
  after_patches tick second [] at earlier fit = after_shown tick second (drop at all) (seen_rows (drop at all)) (shown_kept (drop at all) (rise_parts at all rise).1)
  after_patches tick second (p ∷ ps) at earlier fit =
      let kept = kept_by p (drop at all) in
      let replaced = pairs_of (replaced_by p (drop at all)) p.rows.items in
      let left = left_by p (drop at all) in
      let made = pair_after tick second in
      let later = subst (λ rs. records_after tick second rs (patched rs ps) ≡ patched_after tick second rs ps) (sym (left_is at p)) (after_patches tick second ps (at + p.kept + p.replaced) (last_rows earlier p.rows.items) fit.1) in
      ap (map made) (pairs_step p ps at earlier fit)
      ∙ map-append made (pairs_of kept (seen_rows kept)) (replaced ++ pairs_of left (patched left ps))
      ∙ ap (λ l. l ++ map made (replaced ++ pairs_of left (patched left ps))) (after_shown tick second kept (seen_rows kept) (shown_kept kept (kept_rise p at)))
      ∙ ap (λ l. kept ++ l) (map-append made replaced (pairs_of left (patched left ps)) ∙ ap (λ l. map made replaced ++ l) later)

  -- and their moves
  pub moves_patches : (ps : List Patch) (at : ℕ) (earlier : List SeenData) (m : MovesData) → FitFrom all at earlier ps → with_pairs (pairs_of (drop at all) (patched (drop at all) ps)) m ≡ patched_moves m (drop at all) ps
  moves_patches [] at earlier m fit = moves_shown (drop at all) (seen_rows (drop at all)) m (shown_kept (drop at all) (rise_parts at all rise).1)
  moves_patches (p ∷ ps) at earlier m fit =
      let kept = kept_by p (drop at all) in
      let replaced = pairs_of (replaced_by p (drop at all)) p.rows.items in
      let left = left_by p (drop at all) in
      let rest = pairs_of left (patched left ps) in
      let first = moves_shown kept (seen_rows kept) m (shown_kept kept (kept_rise p at)) in
      let later = subst (λ rs. with_pairs (pairs_of rs (patched rs ps)) (with_pairs replaced (with_same (length kept) m)) ≡ patched_moves (with_pairs replaced (with_same (length kept) m)) rs ps) (sym (left_is at p)) (moves_patches ps (at + p.kept + p.replaced) (last_rows earlier p.rows.items) (with_pairs replaced (with_same (length kept) m)) fit.1) in
      ap (λ l. with_pairs l m) (pairs_step p ps at earlier fit)
      ∙ pairs_then (pairs_of kept (seen_rows kept)) (replaced ++ rest) m
      ∙ ap (with_pairs (replaced ++ rest)) first
      ∙ pairs_then replaced rest (with_same (length kept) m)
      ∙ later

  -- the records show the rows if the rows of all patches say the same as the records that they replace
  pub shows_patches : (ps : List Patch) (at : ℕ) (earlier : List SeenData) → FitFrom all at earlier ps → shows (drop at all) (patched (drop at all) ps) ≡ patched_shows (drop at all) ps
  shows_patches [] at earlier fit = shown_kept (drop at all) (rise_parts at all rise).1
  shows_patches (p ∷ ps) at earlier fit =
      let kept = kept_by p (drop at all) in
      let replaced = pairs_of (replaced_by p (drop at all)) p.rows.items in
      let left = left_by p (drop at all) in
      let rest = pairs_of left (patched left ps) in
      let later = subst (λ rs. shows rs (patched rs ps) ≡ patched_shows rs ps) (sym (left_is at p)) (shows_patches ps (at + p.kept + p.replaced) (last_rows earlier p.rows.items) fit.1) in
      ap (list_all is_unchanged) (pairs_step p ps at earlier fit)
      ∙ list_all-append is_unchanged (pairs_of kept (seen_rows kept)) (replaced ++ rest)
      ∙ ap (λ b. b && list_all is_unchanged (replaced ++ rest)) (shown_kept kept (kept_rise p at))
      ∙ list_all-append is_unchanged replaced rest
      ∙ ap (λ b. list_all is_unchanged replaced && b) later
