-- The records after a pass, name by name: each is changed by the stat that the pass saw of its name.
use Rattle.std.proofs.Common.{◌≡◌, ℕ, ℤ, true, false, cond, if◌then◌else◌, List, [], ◌∷◌, map, Option, Some, None, sym, refl, ap, subst, ◌∙◌}
use mathlib.Core.Bool.{false≢true}
use Rattle.std.specs.declared.cmp.Ordering.{Ordering}
use Rattle.std.specs.declared.cmp.Ordering.TheVariants.{Less, Equal, Greater}
use Rattle.std.specs.Ordering.{is_eq, is_lt, eq_by_cmp, ordering_reverse}
use Rattle.std.specs.FinMap.{find, is_sorted}
use Rattle.std.specs.FinMap.Entries.{below_all}
use Rattle.std.proofs.lemmas.Bool.{and_parts}
use Rattle.wq_base.proofs.Facts.{less_from_lt}
use Rattle.wq_record.specs.Seen.{SeenData, Stat, same_stat, stat_of, entry_of}
use Rattle.wq_record.specs.Name.{name_cmp}
use Rattle.wq_record.specs.RecordData.{RecordData, last_stat, blank_record, after_change, after_creation, after_deletion, record_after, by_name, record_named}
use Rattle.wq_view.specs.Merge.{records_after as absorbed_at}
use Rattle.wq_view.proofs.NameOrder.{names_total, names_exact}
use Rattle.wq_view.proofs.Listings.{tie_is_same, name_ties_itself}

-- the record of a name after a pass, if the name may have had none
abbrev pub after_pass : List ℕ → Option RecordData → Option Stat → ℕ → ℤ → Option RecordData
after_pass name None None tick second = None
after_pass name None (Some s) tick second = Some (record_after (blank_record name) (Some s) tick second)
after_pass name (Some r) seen tick second = Some (record_after r seen tick second)

-- a name below all others is not among them
pub find_below : {X : Type 0} (q : List ℕ) (es : List (List ℕ × X)) → below_all name_cmp q es ≡ true → find name_cmp q es ≡ None
find_below q [] e = refl
find_below q (x ∷ es) e =
    let parts = and_parts (is_lt (name_cmp q x.0)) (below_all name_cmp q es) e in
    rw (less_from_lt (name_cmp q x.0) parts.0) (find_below q es parts.1)

-- a name below a second one is below all names that the second is below
pub below_through : {X : Type 0} (a b : List ℕ) (es : List (List ℕ × X)) → name_cmp a b ≡ Less → below_all name_cmp b es ≡ true → below_all name_cmp a es ≡ true
below_through a b [] less e = refl
below_through a b (x ∷ es) less e =
    let parts = and_parts (is_lt (name_cmp b x.0)) (below_all name_cmp b es) e in
    rw (names_total.trans a b x.0 less (less_from_lt (name_cmp b x.0) parts.0)) (below_through a b es less parts.1)

-- names that tie are the same
pub tied : (a b : List ℕ) → eq_by_cmp name_cmp a b ≡ true → a ≡ b
tied a b e = names_exact a b (at (name_cmp a b) refl)
  where
    at : (o : Ordering) → name_cmp a b ≡ o → name_cmp a b ≡ Equal
    at Less is = absurd (false≢true (sym (ap is_eq is) ∙ e))
    at Equal is = is
    at Greater is = absurd (false≢true (sym (ap is_eq is) ∙ e))

-- a pass keeps the name of a record
pub observed_name : (r : RecordData) (seen : Option Stat) (tick : ℕ) (second : ℤ) → (record_after r seen tick second).name ≡ r.name
observed_name r None tick second = elim r.exists as (λ b. (if b then after_deletion r tick second else r).name ≡ r.name) [ true ↦ refl | false ↦ refl ]
observed_name r (Some s) tick second = elim r.exists as (λ b. (if b then (if same_stat (last_stat r) s then r else after_change r s tick second) else after_creation r s tick second).name ≡ r.name) [
  | true ↦ elim (same_stat (last_stat r) s) as (λ b. (if b then r else after_change r s tick second).name ≡ r.name) [ true ↦ refl | false ↦ refl ]
  | false ↦ refl
]

module _ (tick : ℕ) (second : ℤ) where
  abbrev records_after : List RecordData → List SeenData → List RecordData
  records_after = absorbed_at tick second

  abbrev seen_row : SeenData → RecordData
  seen_row row = record_after (blank_record row.name) (Some (stat_of row)) tick second

  -- the first of the records after the pass, by the order of the first names
  first_row : (row : SeenData) (rows : List SeenData) → records_after [] (row ∷ rows) ≡ seen_row row ∷ records_after [] rows
  first_row row rows = refl

  first_less : (r : RecordData) (rs : List RecordData) (row : SeenData) (rows : List SeenData) → name_cmp r.name row.name ≡ Less → records_after (r ∷ rs) (row ∷ rows) ≡ record_after r None tick second ∷ records_after rs (row ∷ rows)
  first_less r rs row rows less = rw less refl

  first_equal : (r : RecordData) (rs : List RecordData) (row : SeenData) (rows : List SeenData) → name_cmp r.name row.name ≡ Equal → records_after (r ∷ rs) (row ∷ rows) ≡ record_after r (Some (stat_of row)) tick second ∷ records_after rs rows
  first_equal r rs row rows same = rw same refl

  first_greater : (r : RecordData) (rs : List RecordData) (row : SeenData) (rows : List SeenData) → name_cmp r.name row.name ≡ Greater → records_after (r ∷ rs) (row ∷ rows) ≡ seen_row row ∷ records_after (r ∷ rs) rows
  first_greater r rs row rows greater = rw greater refl

  -- the records after the pass are as they should be for each name
  abbrev pub Answers : List RecordData → List SeenData → Type 0
  Answers rs rows = (q : List ℕ) → record_named q (records_after rs rows) ≡ after_pass q (record_named q rs) (find name_cmp q (map entry_of rows)) tick second

  -- a first record answers to its name, and the others to other names
  cons_answers : (rs : List RecordData) (rows : List SeenData) (v : RecordData) (rest : List RecordData) → records_after rs rows ≡ v ∷ rest → ((q : List ℕ) → q ≡ v.name → Some v ≡ after_pass q (record_named q rs) (find name_cmp q (map entry_of rows)) tick second) → ((q : List ℕ) → eq_by_cmp name_cmp q v.name ≡ false → record_named q rest ≡ after_pass q (record_named q rs) (find name_cmp q (map entry_of rows)) tick second) → Answers rs rows
  cons_answers rs rows v rest is here there q =
      ap (record_named q) is ∙ elim (eq_by_cmp name_cmp q v.name) as (λ b. eq_by_cmp name_cmp q v.name ≡ b → cond b (Some v) (record_named q rest) ≡ after_pass q (record_named q rs) (find name_cmp q (map entry_of rows)) tick second) [
        | true ↦ λ e. here q (tied q v.name e)
        | false ↦ λ e. there q e
      ] refl

  sorted_head : {A X : Type 0} (f : A → List ℕ × X) (a : A) (xs : List A) → is_sorted name_cmp (map f (a ∷ xs)) ≡ true → below_all name_cmp (f a).0 (map f xs) ≡ true
  sorted_head f a xs e = (and_parts (below_all name_cmp (f a).0 (map f xs)) (is_sorted name_cmp (map f xs)) e).0

  sorted_rest : {A X : Type 0} (f : A → List ℕ × X) (a : A) (xs : List A) → is_sorted name_cmp (map f (a ∷ xs)) ≡ true → is_sorted name_cmp (map f xs) ≡ true
  sorted_rest f a xs e = (and_parts (below_all name_cmp (f a).0 (map f xs)) (is_sorted name_cmp (map f xs)) e).1

  -- a lookup of a name that ties with no head goes past the heads
  past : {X : Type 0} (q n : List ℕ) (x : X) (es : List (List ℕ × X)) → eq_by_cmp name_cmp q n ≡ false → find name_cmp q ((n, x) ∷ es) ≡ find name_cmp q es
  past q n x es e = rw e refl

  -- a lookup of a name that a head has finds that head
  at_head : {X : Type 0} (n : List ℕ) (x : X) (es : List (List ℕ × X)) → find name_cmp n ((n, x) ∷ es) ≡ Some x
  at_head n x es = rw (tie_is_same n n, name_ties_itself n) refl

  answers_row : (row : SeenData) (rows : List SeenData) → Answers [] rows → Answers [] (row ∷ rows)
  answers_row row rows rest = cons_answers [] (row ∷ rows) (seen_row row) (records_after [] rows) (first_row row rows)
      (λ q is. let n = row.name in subst (λ z. Some (seen_row row) ≡ after_pass z None (find name_cmp z (map entry_of (row ∷ rows))) tick second) (sym is) (rw (at_head n (stat_of row) (map entry_of rows)) refl))
      (λ q apart. rest q ∙ ap (λ o. after_pass q None o tick second) (sym (past q row.name (stat_of row) (map entry_of rows) apart)))

  answers_ended : (r : RecordData) (rs : List RecordData) → Answers rs [] → Answers (r ∷ rs) []
  answers_ended r rs rest = cons_answers (r ∷ rs) [] (record_after r None tick second) (records_after rs []) refl
      (λ q is. subst (λ z. Some (record_after r None tick second) ≡ after_pass z (record_named z (r ∷ rs)) None tick second) (sym (is ∙ observed_name r None tick second)) (rw (at_head r.name r (by_name rs)) refl))
      (λ q apart. rest q ∙ ap (λ o. after_pass q o None tick second) (sym (past q r.name r (by_name rs) (ap (λ n. eq_by_cmp name_cmp q n) (sym (observed_name r None tick second)) ∙ apart))))

  answers_less : (r : RecordData) (rs : List RecordData) (row : SeenData) (rows : List SeenData) → name_cmp r.name row.name ≡ Less → is_sorted name_cmp (map entry_of (row ∷ rows)) ≡ true → Answers rs (row ∷ rows) → Answers (r ∷ rs) (row ∷ rows)
  answers_less r rs row rows less sorted rest =
      let none : find name_cmp r.name (map entry_of (row ∷ rows)) ≡ None = find_below r.name (map entry_of (row ∷ rows)) (rw less (below_through r.name row.name (map entry_of rows) less (sorted_head entry_of row rows sorted))) in
      cons_answers (r ∷ rs) (row ∷ rows) (record_after r None tick second) (records_after rs (row ∷ rows)) (first_less r rs row rows less)
      (λ q is. subst (λ z. Some (record_after r None tick second) ≡ after_pass z (record_named z (r ∷ rs)) (find name_cmp z (map entry_of (row ∷ rows))) tick second) (sym (is ∙ observed_name r None tick second)) (rw (at_head r.name r (by_name rs), none) refl))
      (λ q apart. rest q ∙ ap (λ o. after_pass q o (find name_cmp q (map entry_of (row ∷ rows))) tick second) (sym (past q r.name r (by_name rs) (ap (λ n. eq_by_cmp name_cmp q n) (sym (observed_name r None tick second)) ∙ apart))))

  answers_equal : (r : RecordData) (rs : List RecordData) (row : SeenData) (rows : List SeenData) → name_cmp r.name row.name ≡ Equal → Answers rs rows → Answers (r ∷ rs) (row ∷ rows)
  answers_equal r rs row rows same rest =
      let name_is : r.name ≡ row.name = names_exact r.name row.name same in
      let s = stat_of row in
      let here : find name_cmp r.name (map entry_of (row ∷ rows)) ≡ Some s = ap (λ n. find name_cmp n (map entry_of (row ∷ rows))) name_is ∙ at_head row.name s (map entry_of rows) in
      cons_answers (r ∷ rs) (row ∷ rows) (record_after r (Some s) tick second) (records_after rs rows) (first_equal r rs row rows same)
      (λ q is. subst (λ z. Some (record_after r (Some s) tick second) ≡ after_pass z (record_named z (r ∷ rs)) (find name_cmp z (map entry_of (row ∷ rows))) tick second) (sym (is ∙ observed_name r (Some s) tick second)) (rw (at_head r.name r (by_name rs), here) refl))
      (λ q apart.
      let off : eq_by_cmp name_cmp q r.name ≡ false = ap (λ n. eq_by_cmp name_cmp q n) (sym (observed_name r (Some s) tick second)) ∙ apart in
      rest q ∙ ap (λ o. after_pass q o (find name_cmp q (map entry_of rows)) tick second) (sym (past q r.name r (by_name rs) off))
      ∙ ap (λ o. after_pass q (record_named q (r ∷ rs)) o tick second) (sym (past q row.name s (map entry_of rows) (ap (λ n. eq_by_cmp name_cmp q n) (sym name_is) ∙ off))))

  answers_greater : (r : RecordData) (rs : List RecordData) (row : SeenData) (rows : List SeenData) → name_cmp r.name row.name ≡ Greater → is_sorted name_cmp (by_name (r ∷ rs)) ≡ true → Answers (r ∷ rs) rows → Answers (r ∷ rs) (row ∷ rows)
  answers_greater r rs row rows greater sorted rest =
      let less : name_cmp row.name r.name ≡ Less = names_total.antisymm row.name r.name ∙ ap ordering_reverse greater in
      let none : record_named row.name (r ∷ rs) ≡ None = find_below row.name (by_name (r ∷ rs)) (rw less (below_through row.name r.name (by_name rs) less (sorted_head (λ (x : RecordData). (x.name, x)) r rs sorted))) in
      let s = stat_of row in
      cons_answers (r ∷ rs) (row ∷ rows) (seen_row row) (records_after (r ∷ rs) rows) (first_greater r rs row rows greater)
      (λ q is. subst (λ z. Some (seen_row row) ≡ after_pass z (record_named z (r ∷ rs)) (find name_cmp z (map entry_of (row ∷ rows))) tick second) (sym is) (rw (none, at_head row.name s (map entry_of rows)) refl))
      (λ q apart. rest q ∙ ap (λ o. after_pass q (record_named q (r ∷ rs)) o tick second) (sym (past q row.name s (map entry_of rows) apart)))

  by_first : (r : RecordData) (rs : List RecordData) (row : SeenData) (rows : List SeenData) → is_sorted name_cmp (by_name (r ∷ rs)) ≡ true → is_sorted name_cmp (map entry_of (row ∷ rows)) ≡ true → Answers rs (row ∷ rows) → Answers rs rows → Answers (r ∷ rs) rows → (o : Ordering) → name_cmp r.name row.name ≡ o → Answers (r ∷ rs) (row ∷ rows)
  by_first r rs row rows sorted_rs sorted_rows less equal greater Less is = answers_less r rs row rows is sorted_rows less
  by_first r rs row rows sorted_rs sorted_rows less equal greater Equal is = answers_equal r rs row rows is equal
  by_first r rs row rows sorted_rs sorted_rows less equal greater Greater is = answers_greater r rs row rows is sorted_rs greater

  -- the lookups in all records, by those in the later records
  through : (r : RecordData) (rs : List RecordData) → is_sorted name_cmp (by_name (r ∷ rs)) ≡ true → ((rows : List SeenData) → is_sorted name_cmp (map entry_of rows) ≡ true → Answers rs rows) → (rows : List SeenData) → is_sorted name_cmp (map entry_of rows) ≡ true → Answers (r ∷ rs) rows
  through r rs sorted_rs later [] sorted_rows = answers_ended r rs (later [] refl)
  through r rs sorted_rs later (row ∷ rows) sorted_rows =
      let rest = sorted_rest entry_of row rows sorted_rows in
      by_first r rs row rows sorted_rs sorted_rows (later (row ∷ rows) sorted_rows) (later rows rest) (through r rs sorted_rs later rows rest) (name_cmp r.name row.name) refl

  -- for each name, the lookup finds its record after the pass
  pub absorbed_answers : (rs : List RecordData) (rows : List SeenData) → is_sorted name_cmp (by_name rs) ≡ true → is_sorted name_cmp (map entry_of rows) ≡ true → Answers rs rows
  absorbed_answers [] rows sorted_rs sorted_rows = alone rows
    where
      alone : (rows : List SeenData) → Answers [] rows
      alone [] = λ q. refl
      alone (row ∷ rows) = answers_row row rows (alone rows)
  absorbed_answers (r ∷ rs) rows sorted_rs sorted_rows = through r rs sorted_rs (λ rows sorted. absorbed_answers rs rows (sorted_rest (λ (x : RecordData). (x.name, x)) r rs sorted_rs) sorted) rows sorted_rows

  -- a name below all records and rows is below the records after the pass
  below_first : (x : List ℕ) (r : RecordData) (rs : List RecordData) (row : SeenData) (rows : List SeenData) → is_lt (name_cmp x r.name) ≡ true → is_lt (name_cmp x row.name) ≡ true → below_all name_cmp x (by_name (records_after rs (row ∷ rows))) ≡ true → below_all name_cmp x (by_name (records_after rs rows)) ≡ true → below_all name_cmp x (by_name (records_after (r ∷ rs) rows)) ≡ true → (o : Ordering) → name_cmp r.name row.name ≡ o → below_all name_cmp x (by_name (records_after (r ∷ rs) (row ∷ rows))) ≡ true
  below_first x r rs row rows xr xrow less equal greater Less is = rw (first_less r rs row rows is, observed_name r None tick second, xr) less
  below_first x r rs row rows xr xrow less equal greater Equal is = rw (first_equal r rs row rows is, observed_name r (Some (stat_of row)) tick second, xr) equal
  below_first x r rs row rows xr xrow less equal greater Greater is = rw (first_greater r rs row rows is, xrow) greater

  below_through_rows : (x : List ℕ) (r : RecordData) (rs : List RecordData) → is_lt (name_cmp x r.name) ≡ true → ((rows : List SeenData) → below_all name_cmp x (map entry_of rows) ≡ true → below_all name_cmp x (by_name (records_after rs rows)) ≡ true) → (rows : List SeenData) → below_all name_cmp x (map entry_of rows) ≡ true → below_all name_cmp x (by_name (records_after (r ∷ rs) rows)) ≡ true
  below_through_rows x r rs xr later [] e = rw (observed_name r None tick second, xr) (later [] refl)
  below_through_rows x r rs xr later (row ∷ rows) e =
      let parts = and_parts (is_lt (name_cmp x row.name)) (below_all name_cmp x (map entry_of rows)) e in
      below_first x r rs row rows xr parts.0 (later (row ∷ rows) e) (later rows parts.1) (below_through_rows x r rs xr later rows parts.1) (name_cmp r.name row.name) refl

  -- a name below all records and rows is below all records after the pass
  pub below_absorbed : (x : List ℕ) (rs : List RecordData) (rows : List SeenData) → below_all name_cmp x (by_name rs) ≡ true → below_all name_cmp x (map entry_of rows) ≡ true → below_all name_cmp x (by_name (records_after rs rows)) ≡ true
  below_absorbed x [] rows below_rs below_rows = alone rows below_rows
    where
      alone : (rows : List SeenData) → below_all name_cmp x (map entry_of rows) ≡ true → below_all name_cmp x (by_name (records_after [] rows)) ≡ true
      alone [] e = refl
      alone (row ∷ rows) e =
          let parts = and_parts (is_lt (name_cmp x row.name)) (below_all name_cmp x (map entry_of rows)) e in
          rw parts.0 (alone rows parts.1)
  below_absorbed x (r ∷ rs) rows below_rs below_rows =
      let parts = and_parts (is_lt (name_cmp x r.name)) (below_all name_cmp x (by_name rs)) below_rs in
      below_through_rows x r rs parts.0 (λ rows e. below_absorbed x rs rows parts.1 e) rows below_rows

  abbrev IsOrdered : List RecordData → List SeenData → Type 0
  IsOrdered rs rows = is_sorted name_cmp (by_name (records_after rs rows)) ≡ true

  -- a head below the other heads is put before them
  ordered_cons : (rs : List RecordData) (rows : List SeenData) (v : RecordData) (rest : List RecordData) → records_after rs rows ≡ v ∷ rest → below_all name_cmp v.name (by_name rest) ≡ true → is_sorted name_cmp (by_name rest) ≡ true → IsOrdered rs rows
  ordered_cons rs rows v rest is under sorted = rw (is, under) sorted

  ordered_first : (r : RecordData) (rs : List RecordData) (row : SeenData) (rows : List SeenData) → is_sorted name_cmp (by_name (r ∷ rs)) ≡ true → is_sorted name_cmp (map entry_of (row ∷ rows)) ≡ true → IsOrdered rs (row ∷ rows) → IsOrdered rs rows → IsOrdered (r ∷ rs) rows → (o : Ordering) → name_cmp r.name row.name ≡ o → IsOrdered (r ∷ rs) (row ∷ rows)
  ordered_first r rs row rows sorted_rs sorted_rows less equal greater Less is =
      let under = below_absorbed r.name rs (row ∷ rows) (sorted_head (λ (x : RecordData). (x.name, x)) r rs sorted_rs) (rw is (below_through r.name row.name (map entry_of rows) is (sorted_head entry_of row rows sorted_rows))) in
      ordered_cons (r ∷ rs) (row ∷ rows) (record_after r None tick second) (records_after rs (row ∷ rows)) (first_less r rs row rows is) (rw (observed_name r None tick second) under) less
  ordered_first r rs row rows sorted_rs sorted_rows less equal greater Equal is =
      let name_is : r.name ≡ row.name = names_exact r.name row.name is in
      let under = below_absorbed r.name rs rows (sorted_head (λ (x : RecordData). (x.name, x)) r rs sorted_rs) (ap (λ n. below_all name_cmp n (map entry_of rows)) name_is ∙ sorted_head entry_of row rows sorted_rows) in
      ordered_cons (r ∷ rs) (row ∷ rows) (record_after r (Some (stat_of row)) tick second) (records_after rs rows) (first_equal r rs row rows is) (rw (observed_name r (Some (stat_of row)) tick second) under) equal
  ordered_first r rs row rows sorted_rs sorted_rows less equal greater Greater is =
      let before : name_cmp row.name r.name ≡ Less = names_total.antisymm row.name r.name ∙ ap ordering_reverse is in
      let under = below_absorbed row.name (r ∷ rs) rows (rw before (below_through row.name r.name (by_name rs) before (sorted_head (λ (x : RecordData). (x.name, x)) r rs sorted_rs))) (sorted_head entry_of row rows sorted_rows) in
      ordered_cons (r ∷ rs) (row ∷ rows) (seen_row row) (records_after (r ∷ rs) rows) (first_greater r rs row rows is) under greater

  ordered_through : (r : RecordData) (rs : List RecordData) → is_sorted name_cmp (by_name (r ∷ rs)) ≡ true → ((rows : List SeenData) → is_sorted name_cmp (map entry_of rows) ≡ true → IsOrdered rs rows) → (rows : List SeenData) → is_sorted name_cmp (map entry_of rows) ≡ true → IsOrdered (r ∷ rs) rows
  ordered_through r rs sorted_rs later [] sorted_rows =
      ordered_cons (r ∷ rs) [] (record_after r None tick second) (records_after rs []) refl (rw (observed_name r None tick second) (below_absorbed r.name rs [] (sorted_head (λ (x : RecordData). (x.name, x)) r rs sorted_rs) refl)) (later [] refl)
  ordered_through r rs sorted_rs later (row ∷ rows) sorted_rows =
      let rest = sorted_rest entry_of row rows sorted_rows in
      ordered_first r rs row rows sorted_rs sorted_rows (later (row ∷ rows) sorted_rows) (later rows rest) (ordered_through r rs sorted_rs later rows rest) (name_cmp r.name row.name) refl

  -- the names of the records after the pass rise
  pub absorbed_ordered : (rs : List RecordData) (rows : List SeenData) → is_sorted name_cmp (by_name rs) ≡ true → is_sorted name_cmp (map entry_of rows) ≡ true → IsOrdered rs rows
  absorbed_ordered [] rows sorted_rs sorted_rows = alone rows sorted_rows
    where
      alone : (rows : List SeenData) → is_sorted name_cmp (map entry_of rows) ≡ true → IsOrdered [] rows
      alone [] e = refl
      alone (row ∷ rows) e = ordered_cons [] (row ∷ rows) (seen_row row) (records_after [] rows) (first_row row rows) (below_absorbed row.name [] rows refl (sorted_head entry_of row rows e)) (alone rows (sorted_rest entry_of row rows e))
  absorbed_ordered (r ∷ rs) rows sorted_rs sorted_rows = ordered_through r rs sorted_rs (λ rows sorted. absorbed_ordered rs rows (sorted_rest (λ (x : RecordData). (x.name, x)) r rs sorted_rs) sorted) rows sorted_rows
