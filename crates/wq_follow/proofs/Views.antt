-- The files of a view, by their names.
use Rattle.std.proofs.Common.{◌≡◌, ℕ, Bool, true, false, cond, List, [], ◌∷◌, filter, if◌then◌else◌, Some, IsTrue, inl, inr, refl, sym, ap, subst, ◌∙◌}
use Rattle.std.proofs.lemmas.Option.{same_Some}
use Rattle.std.specs.declared.cmp.Ordering.TheVariants.{Less}
use Rattle.std.specs.Ordering.{eq_by_cmp, is_eq, ordering_reverse}
use Rattle.std.specs.Cmp.{tied_itself}
use Rattle.std.specs.FinMap.{is_sorted}
use Rattle.std.specs.FinMap.Entries.{below_all}
use Rattle.std.proofs.lemmas.Bool.{and_parts}
use Rattle.wq_base.proofs.Facts.{less_from_lt}
use Rattle.wq_view.specs.History.{History, record_of}
use Rattle.wq_record.specs.Name.{name_cmp}
use Rattle.wq_record.specs.RecordData.{RecordData, by_name, record_named}
use Rattle.wq_view.specs.View.{ViewData, IsViewOf}
use Rattle.wq_view.proofs.NameOrder.{names_total}
use Rattle.wq_follow.specs.Missing.{IsAmong}

-- a name finds the first record that has it
at_head : (r : RecordData) (rs : List RecordData) → record_named r.name (r ∷ rs) ≡ Some r
at_head r rs = ap (λ o. cond (is_eq o) (Some r) (record_named r.name rs)) (tied_itself names_total r.name)

-- of two names of which the first is below, the second is not the first
above : (a b : List ℕ) → name_cmp a b ≡ Less → eq_by_cmp name_cmp b a ≡ false
above a b less = ap is_eq (names_total.antisymm b a ∙ ap ordering_reverse less)

-- a name below all others is not that of a record among them
apart : (name : List ℕ) (rs : List RecordData) (r : RecordData) → IsAmong r rs
    → below_all name_cmp name (by_name rs) ≡ true → eq_by_cmp name_cmp r.name name ≡ false
apart name [] r among below = absurd among
apart name (x ∷ rs) r (inl same) below =
    subst (λ (z : RecordData). eq_by_cmp name_cmp z.name name ≡ false) same
    (above name x.name (less_from_lt (name_cmp name x.name) (and_parts _ _ below).0))
apart name (x ∷ rs) r (inr among) below = apart name rs r among (and_parts _ _ below).1

-- each record of a list whose names rise is found by its name
found : (rs : List RecordData) (r : RecordData) → is_sorted name_cmp (by_name rs) ≡ true → IsAmong r rs
    → record_named r.name rs ≡ Some r
found [] r sorted among = absurd among
found (x ∷ rs) r sorted (inl same) =
    subst (λ (z : RecordData). record_named z.name (x ∷ rs) ≡ Some z) same (at_head x rs)
found (x ∷ rs) r sorted (inr among) =
    let parts = and_parts (below_all name_cmp x.name (by_name rs)) (is_sorted name_cmp (by_name rs)) sorted in
    ap (λ b. cond b (Some x) (record_named r.name rs)) (apart x.name rs r among parts.0)
    ∙ found rs r parts.1 among

-- a record that is found by a name is among the records
pub among_by : (rs : List RecordData) (r : RecordData) (name : List ℕ) → record_named name rs ≡ Some r → IsAmong r rs
among_by [] r name is = absurd (cc is)
among_by (x ∷ rs) r name is = at (eq_by_cmp name_cmp name x.name) is (among_by rs r name)
  where
    at : (b : Bool) → cond b (Some x) (record_named name rs) ≡ Some r
        → (record_named name rs ≡ Some r → IsAmong r rs) → IsAmong r (x ∷ rs)
    at true is later = inl (same_Some x r is)
    at false is later = inr (later is)

-- a record that passes a test is among those that do
pub among_kept : (test : RecordData → Bool) (rs : List RecordData) (r : RecordData) → IsAmong r rs → test r ≡ true
    → IsAmong r (filter test rs)
among_kept test [] r among is = absurd among
among_kept test (x ∷ rs) r (inl same) is =
    subst (λ b. IsAmong r (if b then x ∷ filter test rs else filter test rs)) (sym (ap test same ∙ is)) (inl same)
among_kept test (x ∷ rs) r (inr among) is = at (test x) (among_kept test rs r among is)
  where
    at : (b : Bool) → IsAmong r (filter test rs) → IsAmong r (if b then x ∷ filter test rs else filter test rs)
    at true more = inr more
    at false more = more

-- a record among those that pass a test passes it
pub passes : (test : RecordData → Bool) (rs : List RecordData) (r : RecordData) → IsAmong r (filter test rs)
    → test r ≡ true
passes test [] r among = absurd among
passes test (x ∷ rs) r among = at (test x) refl among (passes test rs r)
  where
    at : (b : Bool) → test x ≡ b → IsAmong r (if b then x ∷ filter test rs else filter test rs)
        → (IsAmong r (filter test rs) → test r ≡ true) → test r ≡ true
    at true is (inl same) later = ap test (sym same) ∙ is
    at true is (inr more) later = later more
    at false is more later = later more

-- each record of a view is the one that the history gives its name
pub given : (history : History) (view : ViewData) (r : RecordData) → IsViewOf history view → IsAmong r view.records
    → record_of history r.name ≡ Some r
given history view r is among =
    sym (is.files r.name) ∙ found view.records r (sorted (is_sorted name_cmp (by_name view.records)) is.ordered) among
  where
    sorted : (b : Bool) → IsTrue b → b ≡ true
    sorted true t = refl
    sorted false t = absurd (cc t)
