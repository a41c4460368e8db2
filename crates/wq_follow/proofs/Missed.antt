-- Each change between two batches is in exactly one of those between.
use Rattle.std.proofs.Common.{◌≡◌, ◌<◌, ◌≤◌, ℕ, Bool, true, false, ◌&&◌, nat_le, nat_lt, List, [], ◌∷◌, ◌++◌, Some, if◌then◌else◌, inl, inr, refl, sym, ap, subst, ◌∙◌, arith}
use Rattle.std.proofs.lemmas.Bool.Decides.{nat_tests}
use Rattle.std.proofs.lemmas.Bool.{and_parts}
use Rattle.wq_view.specs.History.{History, record_of}
use Rattle.wq_record.specs.RecordData.{RecordData}
use Rattle.wq_follow.specs.Batch.{FollowerData, polled, told_up_to}
use Rattle.wq_follow.specs.Interval.{Adjoin, HaveReached, LookData, ToldData, changed_in, is_matched, later_tick, told_at}
use Rattle.wq_follow.specs.Missing.{AreOf, IsAmong, IsNeverTold, IsOf, IsToldOnce, NothingIsMissed, end_of}
use Rattle.wq_follow.proofs.Intervals.{intervals_adjoin}
use Rattle.wq_follow.proofs.Passes.{since_change, views_are_reached}
use Rattle.wq_follow.proofs.Views.{among_by, among_kept, given, passes}

-- the views of batches that were told show a history at some of its passes
abbrev AreToldOf : History → List ToldData → Type 0
AreToldOf history [] = Unit {0}
AreToldOf history (t ∷ later) = IsOf history t.view × AreToldOf history later

told_of : (history : History) (looks : List LookData) (f : FollowerData) → AreOf history looks
    → AreToldOf history (told_at looks f)
told_of history [] f of = tt
told_of history (look ∷ looks) f of =
    at look.tells (told_of history looks (told_up_to (polled f look.view).now f) of.1) (told_of history looks f of.1)
  where
    at : (b : Bool) → AreToldOf history (told_at looks (told_up_to (polled f look.view).now f))
        → AreToldOf history (told_at looks f)
        → AreToldOf history (if b
        then record { batch = polled f look.view; view = look.view } ∷ told_at looks (told_up_to (polled f look.view).now f)
        else told_at looks f)
    at true next same = (of.0, next)
    at false next same = same

-- the views that were looked at have reached its last changes
reached : (history : History) (looks : List LookData) → AreOf history looks → HaveReached looks
reached history [] of = tt
reached history (look ∷ looks) of =
    (views_are_reached (of.0).0 look.view (of.0).2, reached history looks of.1)

-- a file that passes the test of a batch changed in its interval
within : (from now : ℕ) (matches : RecordData → Bool) (r : RecordData) → (changed_in from now r && matches r) ≡ true
    → (from < r.otick) × (r.otick ≤ now)
within from now matches r is =
    let parts = and_parts (nat_lt from r.otick) (nat_le r.otick now) (and_parts (changed_in from now r) (matches r) is).0 in
    (less from r.otick parts.0, low r.otick now parts.1)
  where
    less : (a b : ℕ) → nat_lt a b ≡ true → a < b
    less a b e = grind (arith, nat_tests, e)

    low : (a b : ℕ) → nat_le a b ≡ true → a ≤ b
    low a b e = grind (arith, nat_tests, e)

-- a file that changed in an interval and matches passes the test of its batch
changed : (from now : ℕ) (matches : RecordData → Bool) (r : RecordData) → from < r.otick → r.otick ≤ now → matches r ≡ true
    → (changed_in from now r && matches r) ≡ true
changed from now matches r after low is = rw (less from r.otick after, least r.otick now low, is) refl
  where
    less : (a b : ℕ) → a < b → nat_lt a b ≡ true
    less a b h = grind (arith, nat_tests, h)

    least : (a b : ℕ) → a ≤ b → nat_le a b ≡ true
    least a b h = grind (arith, nat_tests, h)

-- no batch has a file that changed last before they all
never : (r : RecordData) (matches : RecordData → Bool) (from : ℕ) (told : List ToldData) → Adjoin from matches told
    → r.otick ≤ from → IsNeverTold r told
never r matches from [] adjoin low = tt
never r matches from (t ∷ later) adjoin low = (
  λ among. not_here (passes (λ x. changed_in from (t.batch).now x && matches x) (t.view).records r (subst (IsAmong r) (adjoin.0).files among)),
  never r matches (t.batch).now later adjoin.1 (omega (arith, low, (adjoin.0).forth)),
)
  where
    not_here : (changed_in from (t.batch).now r && matches r) ≡ true → ⊥
    not_here is = let parts = within from (t.batch).now matches r is in omega (arith, low, parts.0)

-- a change in the interval of a batch was seen at its view
at_view : (last tick now changed : ℕ) → now ≡ later_tick last tick → last < changed → changed ≤ now → changed ≤ tick
at_view last tick now changed is after low = at (nat_le tick last) is
  where
    at : (b : Bool) → now ≡ (if b then last else tick) → changed ≤ tick
    at true is = absurd (omega (arith, is, after, low))
    at false is = omega (arith, is, low)

module _ (r : RecordData) (matches : RecordData → Bool) (history : History) (is : matches r ≡ true) (now_is : record_of history r.name ≡ Some r) where
  -- the batch whose interval has the last change of a file has the file
  here : (last : ℕ) (t : ToldData) (later : List ToldData) → Adjoin last matches (t ∷ later) → IsOf history t.view
      → last < r.otick → r.otick ≤ (t.batch).now → IsAmong r (t.batch).files
  here last t later adjoin of after low =
      let early = of.0 in
      let rest = (of.1).0 in
      let all : early ++ rest ≡ history = (of.1).1 in
      let seen = at_view last (t.view).tick (t.batch).now r.otick (adjoin.0).now after low in
      let was = since_change early rest r.name r (ap (λ h. record_of h r.name) all ∙ now_is) (omega (arith, seen, (of.2).tick)) in
      let there = among_by (t.view).records r r.name ((of.2).files r.name ∙ was) in
      subst (IsAmong r) (sym (adjoin.0).files)
      (among_kept (λ x. changed_in last (t.batch).now x && matches x) (t.view).records r there (changed last (t.batch).now matches r after low is))

  once : (last : ℕ) (told : List ToldData) → Adjoin last matches told → AreToldOf history told → last < r.otick
      → r.otick ≤ end_of last told → IsToldOnce r told
  once last [] adjoin of after low = absurd (omega (arith, after, low))
  once last (t ∷ later) adjoin of after low =
      at (nat_le r.otick (t.batch).now) refl (once (t.batch).now later adjoin.1 of.1)
    where
      least : (a b : ℕ) → nat_le a b ≡ true → a ≤ b
      least a b e = grind (arith, nat_tests, e)

      more : (a b : ℕ) → nat_le a b ≡ false → b < a
      more a b e = grind (arith, nat_tests, e)

      not_here : (t.batch).now < r.otick → IsAmong r (t.batch).files → ⊥
      not_here past among =
          let passed = passes (λ x. changed_in last (t.batch).now x && matches x) (t.view).records r (subst (IsAmong r) (adjoin.0).files among) in
          omega (arith, past, (within last (t.batch).now matches r passed).1)

      at : (b : Bool) → nat_le r.otick (t.batch).now ≡ b
          → ((t.batch).now < r.otick → r.otick ≤ end_of (t.batch).now later → IsToldOnce r later) → IsToldOnce r (t ∷ later)
      at true e rest =
          let low_here = least r.otick (t.batch).now e in
          inl (here last t later adjoin of.0 after low_here, never r matches (t.batch).now later adjoin.1 low_here)
      at false e rest =
          let past = more r.otick (t.batch).now e in
          inr (not_here past, rest past low)

-- the law
pub nothing_is_missed : NothingIsMissed
nothing_is_missed f last history looks view plain of is r among matches after low =
    once r (is_matched f.plan) history matches (given history view r is among) last (told_at looks (told_up_to last f))
    (intervals_adjoin f last looks plain (reached history looks of)) (told_of history looks (told_up_to last f) of) after low
