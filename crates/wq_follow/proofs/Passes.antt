-- The record of a name over the passes of a history.
use Rattle.std.proofs.Common.{◌≡◌, ◌<◌, ◌≤◌, ℕ, zero, suc, ◌+◌, ℤ, Bool, true, false, not, if◌then◌else◌, nat_le, List, [], ◌∷◌, ◌++◌, length, slice_get, Option, Some, None, is_some, option_map, inl, inr, refl, sym, ap, ◌∙◌, length-append, arith}
use Rattle.std.proofs.lemmas.Option.{same_Some}
use Rattle.std.proofs.lemmas.Bool.Decides.{nat_tests}
use Rattle.std.specs.FinMap.{get}
use Rattle.std.specs.Option.{option_and_then}
use Rattle.wq_view.specs.History.{History, stat_at, second_of, same_observation, greatest, is_seen, has_come, has_changed, record_from, record_of}
use Rattle.wq_view.proofs.Stats.{one_stat}
use Rattle.wq_view.proofs.Histories.{record_alike, greatest_le, seen_now}
use Rattle.wq_record.specs.RecordData.{RecordData}
use Rattle.wq_record.specs.Seen.{Stat, same_stat}
use Rattle.wq_follow.specs.Interval.{AreReached}
use Rattle.wq_follow.specs.Missing.{IsAmong, ViewsAreReached}
use Rattle.wq_follow.proofs.Views.{given}

-- the tick of a record from so many passes is that of its last change
changed_in : (name : List ℕ) (stats : ℕ → Option Stat) (seconds : ℕ → ℤ) (n : ℕ) (r : RecordData)
    → record_from name stats seconds n ≡ Some r → r.otick ≡ greatest (has_changed stats) n
changed_in name stats seconds n r is = at (stats (greatest (is_seen stats) n)) is
  where
    made : Stat → RecordData
    made last = record {
      name = name;
      kind = last.kind;
      size = last.size;
      mtime_ms = last.mtime_ms;
      exists = is_some (stats n);
      ctick = greatest (has_come stats) n;
      otick = greatest (has_changed stats) n;
      csec = seconds (greatest (has_come stats) n);
      osec = seconds (greatest (has_changed stats) n);
    }

    at : (o : Option Stat) → option_map made o ≡ Some r → r.otick ≡ greatest (has_changed stats) n
    at None is = absurd (cc is)
    at (Some last) is = ap (λ (z : RecordData). z.otick) (sym (same_Some (made last) r is))

-- ticks that each record of a list has reached
reached_by : (tick : ℕ) (rs : List RecordData) → ((r : RecordData) → IsAmong r rs → r.otick ≤ tick) → AreReached tick rs
reached_by tick [] each = tt
reached_by tick (r ∷ rs) each =
    (test r.otick tick (each r (inl refl)), reached_by tick rs (λ x among. each x (inr among)))
  where
    test : (a b : ℕ) → a ≤ b → nat_le a b ≡ true
    test a b low = grind (arith, nat_tests, low)

-- the first law
pub views_are_reached : ViewsAreReached
views_are_reached history view is = reached_by view.tick view.records (λ r among. low r among)
  where
    low : (r : RecordData) → IsAmong r view.records → r.otick ≤ view.tick
    low r among =
        let at = changed_in r.name (stat_at history r.name) (second_of history) (length history) r (given history view r is among) in
        let most = greatest_le (has_changed (stat_at history r.name)) (length history) in
        omega (arith, at, most, is.tick)

-- a pass that is no change of a name leaves its record
stays : (name : List ℕ) (stats : ℕ → Option Stat) (seconds : ℕ → ℤ) (n : ℕ) → has_changed stats (suc n) ≡ false
    → record_from name stats seconds (suc n) ≡ record_from name stats seconds n
stays name stats seconds n same = at (stats (suc n)) (stats n) refl refl same
  where
    at : (a b : Option Stat) → stats (suc n) ≡ a → stats n ≡ b → not (same_observation b a) ≡ false
        → record_from name stats seconds (suc n) ≡ record_from name stats seconds n
    at None None ea eb quiet = simp (ea, eb)
    at None (Some t) ea eb quiet = absurd (cc quiet)
    at (Some s) None ea eb quiet = absurd (cc quiet)
    at (Some s) (Some t) ea eb quiet = seen (same_stat t s) refl quiet
      where
        seen : (b : Bool) → same_stat t s ≡ b → not b ≡ false
            → record_from name stats seconds (suc n) ≡ record_from name stats seconds n
        seen false h quiet = absurd (cc quiet)
        seen true h quiet =
            let again : stats (suc n) ≡ Some t = ea ∙ ap Some (sym (one_stat t s h)) in
            let last = seen_now name stats seconds n t eb in
            let itself : same_stat t t ≡ true = ap (same_stat t) (one_stat t s h) ∙ h in
            simp (again, eb, last, itself)

-- so many passes later
abbrev later_by : ℕ → ℕ → ℕ
later_by zero early = early
later_by (suc more) early = suc (later_by more early)

later_by_is : (more early : ℕ) → later_by more early ≡ early + more
later_by_is zero early = omega arith
later_by_is (suc more) early = omega (arith, later_by_is more early)

-- a record stays from its last change on
record_stays : (name : List ℕ) (stats : ℕ → Option Stat) (seconds : ℕ → ℤ) (early more : ℕ)
    → greatest (has_changed stats) (later_by more early) ≤ early
    → record_from name stats seconds (later_by more early) ≡ record_from name stats seconds early
record_stays name stats seconds early zero low = refl
record_stays name stats seconds early (suc more) low =
    at (has_changed stats (suc (later_by more early))) refl low (record_stays name stats seconds early more)
  where
    last : ℕ
    last = later_by more early

    at : (b : Bool) → has_changed stats (suc last) ≡ b
        → (if b then suc last else greatest (has_changed stats) last) ≤ early
        → (greatest (has_changed stats) last ≤ early
        → record_from name stats seconds last ≡ record_from name stats seconds early)
        → record_from name stats seconds (suc last) ≡ record_from name stats seconds early
    at true h low rest = absurd (omega (arith, low, later_by_is more early))
    at false h low rest = stays name stats seconds last h ∙ rest low

-- the first passes of a history are those of its front
pass_front : (early later : History) (i : ℕ) → i < length early → slice_get (early ++ later) i ≡ slice_get early i
pass_front [] later i low = absurd (omega (arith, low))
pass_front (p ∷ early) later zero low = refl
pass_front (p ∷ early) later (suc i) low = pass_front early later i (omega (arith, low))

stat_front : (early later : History) (name : List ℕ) (i : ℕ) → i ≤ length early
    → stat_at (early ++ later) name i ≡ stat_at early name i
stat_front early later name zero low = refl
stat_front early later name (suc i) low =
    ap (option_and_then (λ pass. get pass.stats name)) (pass_front early later i (omega (arith, low)))

second_front : (early later : History) (i : ℕ) → i ≤ length early → second_of (early ++ later) i ≡ second_of early i
second_front early later zero low = refl
second_front early later (suc i) low = rw (pass_front early later i (omega (arith, low))) refl

-- a name had its record since its last change
pub since_change : (early later : History) (name : List ℕ) (r : RecordData)
    → record_of (early ++ later) name ≡ Some r → r.otick ≤ length early → record_of early name ≡ Some r
since_change early later name r is low =
    let all = early ++ later in
    let last = later_by (length later) (length early) in
    let count : length all ≡ last = omega (arith, length-append early later, later_by_is (length later) (length early)) in
    let stats = stat_at all name in
    let seconds = second_of all in
    let there : record_from name stats seconds last ≡ Some r =
    ap (record_from name stats seconds) (sym count) ∙ is in
    let changed = changed_in name stats seconds last r there in
    let least : greatest (has_changed stats) last ≤ length early = omega (arith, low, changed) in
    sym (record_alike name stats (stat_at early name) seconds (second_of early) (length early) (stat_front early later name) (second_front early later))
    ∙ sym (record_stays name stats seconds (length early) (length later) least) ∙ there
