-- A run of records in a pass: the rows after it, and the records that the pass makes of it.
use Rattle.std.proofs.Common.{◌≡◌, ℕ, ℤ, Bool, true, false, not, ◌&&◌, if◌then◌else◌, List, [], ◌∷◌, ◌++◌, map, Option, Some, None, refl, sym, ap, ◌∙◌}
use mathlib.Core.Bool.{false≢true}
use Rattle.std.specs.declared.cmp.Ordering.{Ordering}
use Rattle.std.specs.declared.cmp.Ordering.TheVariants.{Less, Equal, Greater}
use Rattle.std.specs.FinMap.Entries.{by_order}
use Rattle.std.specs.List.{list_all}
use Rattle.std.proofs.lemmas.List.{append-nil}
use Rattle.std.proofs.lemmas.List.Folds.{list_all-append}
use Rattle.std.proofs.lemmas.Bool.{and_parts}
use Rattle.wq_record.specs.Seen.{SeenData, Stat, is_lawful_row, stat_of, same_stat}
use Rattle.wq_record.specs.Name.{name_cmp}
use Rattle.wq_record.specs.RecordData.{RecordData, last_stat, record_after, after_change, after_creation, after_deletion}
use Rattle.wq_view.specs.Merge.{PairData, record_alone, record_and_row, row_alone, pairs_from, pairs_of, has_record, is_unchanged, shows, pair_after, records_after}
use Rattle.wq_view.specs.Pair.{has_lawful_row}
use Rattle.wq_view.specs.Run.{run_pairs, rows_after, rows_behind, is_same_run, keeps_names, run_after}
use Rattle.wq_view.specs.Suffix.{folded_suffix, folded_suffixes}

-- pairs with later pairs in two parts
pairs_in_parts : (r : RecordData) (all first second : List SeenData → List PairData) (behind : List SeenData → List SeenData) → ((rows : List SeenData) → all rows ≡ first rows ++ second (behind rows)) → (rows : List SeenData) → pairs_from r all rows ≡ pairs_from r first rows ++ second (rows_after r behind rows)
pairs_in_parts r all first second behind parts [] = ap (λ l. record_alone r ∷ l) (parts [])
pairs_in_parts r all first second behind parts (row ∷ rows) = by (name_cmp r.name row.name) (parts (row ∷ rows)) (parts rows) (pairs_in_parts r all first second behind parts rows)
  where
    by : (o : Ordering) → all (row ∷ rows) ≡ first (row ∷ rows) ++ second (behind (row ∷ rows)) → all rows ≡ first rows ++ second (behind rows) → pairs_from r all rows ≡ pairs_from r first rows ++ second (rows_after r behind rows) → by_order o (record_alone r ∷ all (row ∷ rows)) (record_and_row r row ∷ all rows) (row_alone row ∷ pairs_from r all rows) ≡ by_order o (record_alone r ∷ first (row ∷ rows)) (record_and_row r row ∷ first rows) (row_alone row ∷ pairs_from r first rows) ++ second (by_order o (behind (row ∷ rows)) (behind rows) (rows_after r behind rows))
    by Less less equal greater = ap (λ l. record_alone r ∷ l) less
    by Equal less equal greater = ap (λ l. record_and_row r row ∷ l) equal
    by Greater less equal greater = ap (λ l. row_alone row ∷ l) greater

-- the pairs of a run come before those of the later records, with the rows after it
pub run_then : (rs : List RecordData) (rows : List SeenData) (later : List RecordData) → pairs_of (rs ++ later) rows ≡ run_pairs rs rows ++ pairs_of later (rows_behind rs rows)
run_then [] rows later = refl
run_then (r ∷ rs) rows later = pairs_in_parts r (pairs_of (rs ++ later)) (run_pairs rs) (pairs_of later) (rows_behind rs) (λ rows. run_then rs rows later) rows

map_both : {A B : Type 0} (f : A → B) (xs ys : List A) → map f (xs ++ ys) ≡ map f xs ++ map f ys
map_both f [] ys = refl
map_both f (x ∷ xs) ys = ap (λ l. f x ∷ l) (map_both f xs ys)

-- records show the rows if a run of the first ones stays as it is, and the later ones show the rows
-- after it
pub shows_both : (rs : List RecordData) (rows : List SeenData) (later : List RecordData) → shows (rs ++ later) rows ≡ (is_same_run rs rows && shows later (rows_behind rs rows))
shows_both rs rows later = ap (list_all is_unchanged) (run_then rs rows later) ∙ list_all-append is_unchanged (run_pairs rs rows) (pairs_of later (rows_behind rs rows))

module _ (tick : ℕ) (second : ℤ) where
  -- and a run before the later records
  pub after_then : (rs : List RecordData) (rows : List SeenData) (later : List RecordData) → records_after tick second (rs ++ later) rows ≡ run_after tick second rs rows ++ records_after tick second later (rows_behind rs rows)
  after_then rs rows later = ap (map (pair_after tick second)) (run_then rs rows later) ∙ map_both (pair_after tick second) (run_pairs rs rows) (pairs_of later (rows_behind rs rows))

  -- after a run that is all records, the rows are new
  pub after_all : (rs : List RecordData) (rows : List SeenData) → records_after tick second rs rows ≡ run_after tick second rs rows ++ records_after tick second [] (rows_behind rs rows)
  after_all rs rows = ap (λ l. records_after tick second l rows) (sym (append-nil rs)) ∙ after_then rs rows []

  -- a record whose file does not exist stays as it is
  pub absent_stays : (r : RecordData) → not r.exists ≡ true → record_after r None tick second ≡ r
  absent_stays r gone = at r.exists gone
    where
      at : (b : Bool) → not b ≡ true → (if b then record r { exists = false; otick = tick; osec = second } else r) ≡ r
      at true e = absurd (false≢true e)
      at false e = refl

  -- so does one whose row is the same
  pub same_stays : (r : RecordData) (row : SeenData) → (r.exists && same_stat (last_stat r) (stat_of row)) ≡ true → record_after r (Some (stat_of row)) tick second ≡ r
  same_stays r row same =
      let parts = and_parts r.exists (same_stat (last_stat r) (stat_of row)) same in
      rw (parts.0, parts.1) refl

  same_from : (r : RecordData) (later : List SeenData → List PairData) (rs : List RecordData) → ((rows : List SeenData) → list_all is_unchanged (later rows) ≡ true → map (pair_after tick second) (later rows) ≡ rs) → (rows : List SeenData) → list_all is_unchanged (pairs_from r later rows) ≡ true → map (pair_after tick second) (pairs_from r later rows) ≡ r ∷ rs
  same_from r later rs same [] e =
      let parts = and_parts (not r.exists) (list_all is_unchanged (later [])) e in
      ap (λ x. x ∷ map (pair_after tick second) (later [])) (absent_stays r parts.0) ∙ ap (λ l. r ∷ l) (same [] parts.1)
  same_from r later rs same (row ∷ rows) e = by (name_cmp r.name row.name) e
    where
      by : (o : Ordering) → list_all is_unchanged (by_order o (record_alone r ∷ later (row ∷ rows)) (record_and_row r row ∷ later rows) (row_alone row ∷ pairs_from r later rows)) ≡ true → map (pair_after tick second) (by_order o (record_alone r ∷ later (row ∷ rows)) (record_and_row r row ∷ later rows) (row_alone row ∷ pairs_from r later rows)) ≡ r ∷ rs
      by Less h =
          let parts = and_parts (not r.exists) (list_all is_unchanged (later (row ∷ rows))) h in
          ap (λ x. x ∷ map (pair_after tick second) (later (row ∷ rows))) (absent_stays r parts.0) ∙ ap (λ l. r ∷ l) (same (row ∷ rows) parts.1)
      by Equal h =
          let parts = and_parts (r.exists && same_stat (last_stat r) (stat_of row)) (list_all is_unchanged (later rows)) h in
          ap (λ x. x ∷ map (pair_after tick second) (later rows)) (same_stays r row parts.0) ∙ ap (λ l. r ∷ l) (same rows parts.1)
      by Greater h = absurd (false≢true h)

  -- a run that a pass leaves as it is, is the same after it
  pub same_after : (rs : List RecordData) (rows : List SeenData) → is_same_run rs rows ≡ true → run_after tick second rs rows ≡ rs
  same_after [] rows e = refl
  same_after (r ∷ rs) rows e = same_from r (run_pairs rs) rs (λ rows h. same_after rs rows h) rows e

  -- a pass changes no name, so no suffix
  suffix_stays : (r : RecordData) (seen : Option Stat) → folded_suffix (record_after r seen tick second) ≡ folded_suffix r
  suffix_stays r None = at r.exists
    where
      at : (b : Bool) → folded_suffix (if b then after_deletion r tick second else r) ≡ folded_suffix r
      at true = refl
      at false = refl
  suffix_stays r (Some s) = at r.exists (same_stat (last_stat r) s)
    where
      at : (a b : Bool) → folded_suffix (if a then (if b then r else after_change r s tick second) else after_creation r s tick second) ≡ folded_suffix r
      at true true = refl
      at true false = refl
      at false b = refl

  suffixes_from : (r : RecordData) (later : List SeenData → List PairData) (suffixes : List (List ℕ)) → ((rows : List SeenData) → list_all has_record (later rows) ≡ true → folded_suffixes (map (pair_after tick second) (later rows)) ≡ suffixes) → (rows : List SeenData) → list_all has_record (pairs_from r later rows) ≡ true → folded_suffixes (map (pair_after tick second) (pairs_from r later rows)) ≡ folded_suffix r ∷ suffixes
  suffixes_from r later suffixes same [] e =
      ap (λ m. m ∷ folded_suffixes (map (pair_after tick second) (later []))) (suffix_stays r None) ∙ ap (λ l. folded_suffix r ∷ l) (same [] e)
  suffixes_from r later suffixes same (row ∷ rows) e = by (name_cmp r.name row.name) e
    where
      by : (o : Ordering) → list_all has_record (by_order o (record_alone r ∷ later (row ∷ rows)) (record_and_row r row ∷ later rows) (row_alone row ∷ pairs_from r later rows)) ≡ true → folded_suffixes (map (pair_after tick second) (by_order o (record_alone r ∷ later (row ∷ rows)) (record_and_row r row ∷ later rows) (row_alone row ∷ pairs_from r later rows))) ≡ folded_suffix r ∷ suffixes
      by Less h = ap (λ m. m ∷ folded_suffixes (map (pair_after tick second) (later (row ∷ rows)))) (suffix_stays r None) ∙ ap (λ l. folded_suffix r ∷ l) (same (row ∷ rows) h)
      by Equal h = ap (λ m. m ∷ folded_suffixes (map (pair_after tick second) (later rows))) (suffix_stays r (Some (stat_of row))) ∙ ap (λ l. folded_suffix r ∷ l) (same rows h)
      by Greater h = absurd (false≢true h)

  -- a run into which a pass brings no name has the same suffixes after it
  pub suffixes_kept : (rs : List RecordData) (rows : List SeenData) → keeps_names rs rows ≡ true → folded_suffixes (run_after tick second rs rows) ≡ folded_suffixes rs
  suffixes_kept [] rows e = refl
  suffixes_kept (r ∷ rs) rows e = suffixes_from r (run_pairs rs) (folded_suffixes rs) (λ rows h. suffixes_kept rs rows h) rows e

  -- a chunk of what a pass makes of a run, if no name comes and no pair is left
  pub all_kept : (rs made : List RecordData) (rows : List SeenData) (left : List PairData) → keeps_names rs rows ≡ true → left ≡ [] → made ++ map (pair_after tick second) left ≡ run_after tick second rs rows → folded_suffixes made ≡ folded_suffixes rs
  all_kept rs made rows left e none known =
      let is : made ≡ run_after tick second rs rows = sym (append-nil made) ∙ sym (ap (λ l. made ++ map (pair_after tick second) l) none) ∙ known in
      ap folded_suffixes is ∙ suffixes_kept rs rows e

lawful_from : (r : RecordData) (later : List SeenData → List PairData) → ((rows : List SeenData) → list_all is_lawful_row rows ≡ true → list_all has_lawful_row (later rows) ≡ true) → (rows : List SeenData) → list_all is_lawful_row rows ≡ true → list_all has_lawful_row (pairs_from r later rows) ≡ true
lawful_from r later lawful [] e = lawful [] refl
lawful_from r later lawful (row ∷ rows) e =
    let parts = and_parts (is_lawful_row row) (list_all is_lawful_row rows) e in
    by (name_cmp r.name row.name) parts.0 (lawful (row ∷ rows) e) (lawful rows parts.1) (lawful_from r later lawful rows parts.1)
  where
    by : (o : Ordering) → is_lawful_row row ≡ true → list_all has_lawful_row (later (row ∷ rows)) ≡ true → list_all has_lawful_row (later rows) ≡ true → list_all has_lawful_row (pairs_from r later rows) ≡ true → list_all has_lawful_row (by_order o (record_alone r ∷ later (row ∷ rows)) (record_and_row r row ∷ later rows) (row_alone row ∷ pairs_from r later rows)) ≡ true
    by Less here less equal greater = less
    by Equal here less equal greater = rw here equal
    by Greater here less equal greater = rw here greater

-- the row of each pair is lawful if all rows are
pub rows_lawful : (rs : List RecordData) (rows : List SeenData) → list_all is_lawful_row rows ≡ true → list_all has_lawful_row (run_pairs rs rows) ≡ true
rows_lawful [] rows e = refl
rows_lawful (r ∷ rs) rows e = lawful_from r (run_pairs rs) (λ rows h. rows_lawful rs rows h) rows e

lawful_after : (r : RecordData) (later : List SeenData → List SeenData) → ((rows : List SeenData) → list_all is_lawful_row rows ≡ true → list_all is_lawful_row (later rows) ≡ true) → (rows : List SeenData) → list_all is_lawful_row rows ≡ true → list_all is_lawful_row (rows_after r later rows) ≡ true
lawful_after r later lawful [] e = lawful [] refl
lawful_after r later lawful (row ∷ rows) e =
    let parts = and_parts (is_lawful_row row) (list_all is_lawful_row rows) e in
    by (name_cmp r.name row.name) (lawful (row ∷ rows) e) (lawful rows parts.1) (lawful_after r later lawful rows parts.1)
  where
    by : (o : Ordering) → list_all is_lawful_row (later (row ∷ rows)) ≡ true → list_all is_lawful_row (later rows) ≡ true → list_all is_lawful_row (rows_after r later rows) ≡ true → list_all is_lawful_row (by_order o (later (row ∷ rows)) (later rows) (rows_after r later rows)) ≡ true
    by Less less equal greater = less
    by Equal less equal greater = equal
    by Greater less equal greater = greater

-- the rows after a run are lawful if all are
pub lawful_behind : (rs : List RecordData) (rows : List SeenData) → list_all is_lawful_row rows ≡ true → list_all is_lawful_row (rows_behind rs rows) ≡ true
lawful_behind [] rows e = e
lawful_behind (r ∷ rs) rows e = lawful_after r (rows_behind rs) (λ rows h. lawful_behind rs rows h) rows e
