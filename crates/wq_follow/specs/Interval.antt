-- All batches that were told, together: their intervals adjoin, and each has the matching files
-- whose last change lies in its interval.
-- From Watchman's documentation of `subscribe`; the ticks are this server's own.
use Rattle.std.specs.Prelude.{◌≡◌, ◌≤◌, ℕ, Bool, true, false, ◌&&◌, nat_le, nat_lt}
use Rattle.std.specs.Prelude.{List, [], ◌∷◌, filter, None, if◌then◌else◌}
use Rattle.wq_clock.specs.declared.bound.Bound.TheVariants.{Tick}
use Rattle.wq_reply.specs.Listing.{is_meant}
use Rattle.wq_reply.specs.Plan.{PlanData}
use Rattle.wq_record.specs.RecordData.{RecordData}
use Rattle.wq_view.specs.View.{ViewData}
use Rattle.wq_follow.specs.Batch.{BatchData, FollowerData, polled, told_up_to}

-- a look at a view, and whether the batch that was polled there was told
pub record LookData : Type 0 where
  pub view : ViewData
  pub tells : Bool

-- a batch that was told, and the view at which it was told
pub record ToldData : Type 0 where
  pub batch : BatchData
  pub view : ViewData

-- the batches that are told at some looks, one after the other
abbrev pub told_at : List LookData → FollowerData → List ToldData
told_at [] f = []
told_at (look ∷ looks) f =
    if look.tells
    then record { batch = polled f look.view; view = look.view }
    ∷ told_at looks (told_up_to (polled f look.view).now f)
    else told_at looks f

-- whether the last change of a file lies in an interval: after the first tick, and no later than
-- the second
abbrev pub changed_in : ℕ → ℕ → RecordData → Bool
changed_in from now r = nat_lt from r.otick && nat_le r.otick now

-- whether the plan's program or expression matches a file
abbrev pub is_matched : PlanData → RecordData → Bool
is_matched plan r = is_meant plan.program (plan.query).expression r

-- the later of two ticks
abbrev pub later_tick : ℕ → ℕ → ℕ
later_tick a b = if nat_le b a then a else b

-- a batch tells an interval that begins at this tick, and ends at the tick of its view, unless that
-- is earlier. It has the files of its view that match and whose last change lies in the interval,
-- deleted ones too. Each is there once, in the order of the view
pub record TellsFrom (last : ℕ) (matches : RecordData → Bool) (t : ToldData) : Type 0 where
  pub from : (t.batch).from ≡ Tick last
  pub fresh : (t.batch).fresh ≡ false
  pub forth : last ≤ (t.batch).now
  pub now : (t.batch).now ≡ later_tick last (t.view).tick
  pub files : (t.batch).files
      ≡ filter (λ r. changed_in last (t.batch).now r && matches r) (t.view).records

-- each interval begins at the end of the one before it, the first at this tick
abbrev pub Adjoin : ℕ → (RecordData → Bool) → List ToldData → Type 0
Adjoin last matches [] = Unit {0}
Adjoin last matches (t ∷ later) = TellsFrom last matches t × Adjoin (t.batch).now matches later

-- the plan has no generators but its bound, as those of subscriptions and triggers
abbrev pub HasNoGenerators : PlanData → Type 0
HasNoGenerators plan =
    ((plan.query).suffix ≡ None) × ((plan.query).path ≡ None) × ((plan.query).glob ≡ None)

-- no file changed last at a later tick
abbrev pub AreReached : ℕ → List RecordData → Type 0
AreReached tick [] = Unit {0}
AreReached tick (r ∷ rs) = (nat_le r.otick tick ≡ true) × AreReached tick rs

-- no file of the view of a look changed last at a tick that the view has not reached
abbrev pub HaveReached : List LookData → Type 0
HaveReached [] = Unit {0}
HaveReached (look ∷ looks) =
    AreReached (look.view).tick (look.view).records × HaveReached looks

-- once a batch was told that ended at a tick, the intervals of all that are told then adjoin it
abbrev pub IntervalsAdjoin : Type 0
IntervalsAdjoin = (f : FollowerData) (last : ℕ) (looks : List LookData) → HasNoGenerators f.plan
    → HaveReached looks → Adjoin last (is_matched f.plan) (told_at looks (told_up_to last f))
