-- The equality of rows and the records of files that exist.
use Rattle.std.proofs.Common.{◌≡◌, ℕ, Bool, true, false, not, ◌&&◌, cond, List, [], ◌∷◌, map, Some, None, sym, refl, ap, ◌∙◌}
use mathlib.Core.Bool.{false≢true}
use Rattle.std.specs.Cmp.{tied_itself}
use Rattle.std.specs.Ordering.{is_lt, eq_by_cmp}
use Rattle.std.proofs.lemmas.Bool.{not-true, and_parts}
use Rattle.std.specs.FinMap.{find, is_sorted}
use Rattle.std.specs.FinMap.Entries.{below_all, by_order}
use Rattle.std.specs.List.{list_all}
use Rattle.std.specs.declared.cmp.Ordering.{Ordering}
use Rattle.std.specs.declared.cmp.Ordering.TheVariants.{Less, Equal, Greater}
use Rattle.wq_base.proofs.Facts.{less_from_lt}
use Rattle.wq_record.specs.Seen.{SeenData, Stat, same_stat, stat_of, entry_of}
use Rattle.wq_record.specs.Name.{name_cmp}
use Rattle.wq_record.specs.RecordData.{RecordData, last_stat, by_name, record_named}
use Rattle.wq_view.specs.Merge.{record_alone, record_and_row, row_alone, pairs_of, is_unchanged, shows}
use Rattle.wq_view.proofs.NameOrder.{names_total, names_exact}
use Rattle.wq_view.proofs.Stats.{one_stat, same_stat-itself}
use Rattle.wq_view.proofs.Absorbed.{find_below, tied}
use Rattle.wq_view.proofs.Histories.{existing_stat}

-- the stats of the files that exist
abbrev pub existing : List RecordData → List (List ℕ × Stat)
existing [] = []
existing (r ∷ rs) = cond r.exists ((r.name, last_stat r) ∷ existing rs) (existing rs)

-- if rows say the same as the records, they have these stats
shown_by_first : (r : RecordData) (rs : List RecordData) (row : SeenData) (rows : List SeenData) → (shows rs (row ∷ rows) ≡ true → existing rs ≡ map entry_of (row ∷ rows)) → (shows rs rows ≡ true → existing rs ≡ map entry_of rows) → (o : Ordering) → name_cmp r.name row.name ≡ o → list_all is_unchanged (by_order o (record_alone r ∷ pairs_of rs (row ∷ rows)) (record_and_row r row ∷ pairs_of rs rows) (row_alone row ∷ pairs_of (r ∷ rs) rows)) ≡ true → existing (r ∷ rs) ≡ map entry_of (row ∷ rows)
shown_by_first r rs row rows less equal Less is e =
    let parts = and_parts (not r.exists) (shows rs (row ∷ rows)) e in
    rw (not-true r.exists parts.0) (less parts.1)
shown_by_first r rs row rows less equal Equal is e =
    let parts = and_parts (r.exists && same_stat (last_stat r) (stat_of row)) (shows rs rows) e in
    let here = and_parts r.exists (same_stat (last_stat r) (stat_of row)) parts.0 in
    let name_is = names_exact r.name row.name is in
    let stat_is = one_stat (last_stat r) (stat_of row) here.1 in
    let rest = equal parts.1 in
    rw here.0 (λ i. (name_is i, stat_is i) ∷ rest i)
shown_by_first r rs row rows less equal Greater is e = absurd (false≢true e)

shown_through : (r : RecordData) (rs : List RecordData) → ((rows : List SeenData) → shows rs rows ≡ true → existing rs ≡ map entry_of rows) → (rows : List SeenData) → shows (r ∷ rs) rows ≡ true → existing (r ∷ rs) ≡ map entry_of rows
shown_through r rs later [] e =
    let parts = and_parts (not r.exists) (shows rs []) e in
    rw (not-true r.exists parts.0) (later [] parts.1)
shown_through r rs later (row ∷ rows) e = shown_by_first r rs row rows (later (row ∷ rows)) (later rows) (name_cmp r.name row.name) refl e

pub existing_shown : (rs : List RecordData) (rows : List SeenData) → shows rs rows ≡ true → existing rs ≡ map entry_of rows
existing_shown [] [] e = refl
existing_shown [] (row ∷ rows) e = absurd (false≢true e)
existing_shown (r ∷ rs) rows e = shown_through r rs (λ rows e. existing_shown rs rows e) rows e

-- a name below all records is below their stats
below_existing : (x : List ℕ) (rs : List RecordData) → below_all name_cmp x (by_name rs) ≡ true → below_all name_cmp x (existing rs) ≡ true
below_existing x [] e = refl
below_existing x (r ∷ rs) e =
    let parts = and_parts (is_lt (name_cmp x r.name)) (below_all name_cmp x (by_name rs)) e in
    let rest = below_existing x rs parts.1 in
    elim r.exists as (λ b. below_all name_cmp x (cond b ((r.name, last_stat r) ∷ existing rs) (existing rs)) ≡ true) [ true ↦ rw parts.0 rest | false ↦ rest ]

-- rows with these stats say the same as the records, if the names of the records rise
unchanged_alone : (r : RecordData) (rs : List RecordData) (row : SeenData) (rows : List SeenData) → r.exists ≡ false → below_all name_cmp r.name (existing rs) ≡ true → existing rs ≡ map entry_of (row ∷ rows) → shows rs (row ∷ rows) ≡ true → shows (r ∷ rs) (row ∷ rows) ≡ true
unchanged_alone r rs row rows gone below is later =
    let first = and_parts (is_lt (name_cmp r.name row.name)) (below_all name_cmp r.name (map entry_of rows)) (sym (ap (below_all name_cmp r.name) is) ∙ below) in
    rw (less_from_lt (name_cmp r.name row.name) first.0, gone) later

unchanged_row : (r : RecordData) (rs : List RecordData) (row : SeenData) (rows : List SeenData) → r.exists ≡ true → (r.name, last_stat r) ∷ existing rs ≡ map entry_of (row ∷ rows) → (existing rs ≡ map entry_of rows → shows rs rows ≡ true) → shows (r ∷ rs) (row ∷ rows) ≡ true
unchanged_row r rs row rows here is later =
    let head : ◌≡◌ {A = List ℕ × Stat} (r.name, last_stat r) (entry_of row) = cc in
    let rest : existing rs ≡ map entry_of rows = cc in
    let name_is : r.name ≡ row.name = ap (λ p. p.0) head in
    let stat_is : last_stat r ≡ stat_of row = ap (λ p. p.1) head in
    let tie : name_cmp r.name row.name ≡ Equal = ap (λ n. name_cmp r.name n) (sym name_is) ∙ tied_itself names_total r.name in
    let stat_test : same_stat (last_stat r) (stat_of row) ≡ true = ap (same_stat (last_stat r)) (sym stat_is) ∙ same_stat-itself (last_stat r) in
    rw (tie, here, stat_test) (later rest)

pub shown_existing : (rs : List RecordData) (rows : List SeenData) → is_sorted name_cmp (by_name rs) ≡ true → existing rs ≡ map entry_of rows → shows rs rows ≡ true
shown_existing [] [] sorted e = refl
shown_existing [] (row ∷ rows) sorted e = absurd (cc)
shown_existing (r ∷ rs) rows sorted e =
    let parts = and_parts (below_all name_cmp r.name (by_name rs)) (is_sorted name_cmp (by_name rs)) sorted in
    by_existing rows r.exists refl e (below_existing r.name rs parts.0) (λ rows e. shown_existing rs rows parts.1 e)
  where
    by_existing : (rows : List SeenData) (b : Bool) → r.exists ≡ b → existing (r ∷ rs) ≡ map entry_of rows → below_all name_cmp r.name (existing rs) ≡ true → ((rows : List SeenData) → existing rs ≡ map entry_of rows → shows rs rows ≡ true) → shows (r ∷ rs) rows ≡ true
    by_existing [] true is e below later =
        let filled : (r.name, last_stat r) ∷ existing rs ≡ [] = rw is at e in
        absurd (cc)
    by_existing (row ∷ rows) true is e below later = unchanged_row r rs row rows is (rw is at e) (later rows)
    by_existing [] false is e below later =
        let rest : existing rs ≡ [] = rw is at e in
        rw is (later [] rest)
    by_existing (row ∷ rows) false is e below later =
        let rest : existing rs ≡ map entry_of (row ∷ rows) = rw is at e in
        unchanged_alone r rs row rows is below rest (later (row ∷ rows) rest)

-- the files that exist are in the order of all files
pub existing_sorted : (rs : List RecordData) → is_sorted name_cmp (by_name rs) ≡ true → is_sorted name_cmp (existing rs) ≡ true
existing_sorted [] e = refl
existing_sorted (r ∷ rs) e =
    let parts = and_parts (below_all name_cmp r.name (by_name rs)) (is_sorted name_cmp (by_name rs)) e in
    let rest = existing_sorted rs parts.1 in
    elim r.exists as (λ b. is_sorted name_cmp (cond b ((r.name, last_stat r) ∷ existing rs) (existing rs)) ≡ true) [ true ↦ rw (below_existing r.name rs parts.0) rest | false ↦ rest ]

-- a name finds the stat of its record among the files that exist
pub existing_found : (rs : List RecordData) → is_sorted name_cmp (by_name rs) ≡ true → (q : List ℕ) → find name_cmp q (existing rs) ≡ existing_stat (record_named q rs)
existing_found [] e q = refl
existing_found (r ∷ rs) e q =
    let parts = and_parts (below_all name_cmp r.name (by_name rs)) (is_sorted name_cmp (by_name rs)) e in
    let rest = existing_found rs parts.1 q in
    elim (eq_by_cmp name_cmp q r.name) as (λ b. eq_by_cmp name_cmp q r.name ≡ b → find name_cmp q (existing (r ∷ rs)) ≡ existing_stat (cond b (Some r) (record_named q rs))) [
      | true ↦ λ t.
          let none : find name_cmp q (existing rs) ≡ None = ap (λ n. find name_cmp n (existing rs)) (tied q r.name t) ∙ find_below r.name (existing rs) (below_existing r.name rs parts.0) in
          elim r.exists as (λ b. find name_cmp q (cond b ((r.name, last_stat r) ∷ existing rs) (existing rs)) ≡ cond b (Some (last_stat r)) None) [ true ↦ rw t refl | false ↦ none ]
      | false ↦ λ t. elim r.exists as (λ b. find name_cmp q (cond b ((r.name, last_stat r) ∷ existing rs) (existing rs)) ≡ existing_stat (record_named q rs)) [ true ↦ rw t rest | false ↦ rest ]
    ] refl
