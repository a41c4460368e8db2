-- The batch that a look tells a subscription or a trigger: files, and the tick of its end. From
-- Watchman's documentation of `subscribe` and `trigger`; the ticks are this server's own.
use Rattle.std.specs.Prelude.{ℕ, Bool, false, nat_le, List, [], Option, Some, None, if◌then◌else◌}
use Rattle.std.specs.Option.{option_map_or}
use Rattle.wq_clock.specs.declared.bound.Bound.{Bound}
use Rattle.wq_clock.specs.declared.bound.Bound.TheVariants.{Tick}
use Rattle.wq_reply.specs.Following.{with_bound}
use Rattle.wq_clock.specs.Bound.{is_fresh}
use Rattle.wq_reply.specs.Listing.{files_of}
use Rattle.wq_reply.specs.Plan.{PlanData}
use Rattle.wq_record.specs.RecordData.{RecordData}
use Rattle.wq_view.specs.View.{ViewData}

-- a batch: whether nothing was known before it, the bound from which it tells changes, the tick of
-- its end, and its files in name order
pub record BatchData : Type 0 where
  pub fresh : Bool
  pub from : Bound
  pub now : ℕ
  pub files : List RecordData

-- a follower: a plan, whose bound is the begin of the next batch; and the tick of the last batch's
-- end, if there was one
pub record FollowerData : Type 0 where
  pub plan : PlanData
  pub last : Option ℕ

-- whether the last batch ended at this tick or a later one, so that there is nothing to tell
abbrev pub is_told : Option ℕ → ℕ → Bool
is_told last tick = option_map_or (λ t. nat_le tick t) last false

-- the tick of the last batch; this one if there was none
abbrev pub last_or : ℕ → Option ℕ → ℕ
last_or tick None = tick
last_or tick (Some last) = last

-- the batch of a plan at a view: the list of the plan there
abbrev pub listing : PlanData → ViewData → BatchData
listing plan view = record {
  fresh = is_fresh plan.bound;
  from = plan.bound;
  now = view.tick;
  files = files_of plan view.records;
}

-- the batch without files that ends at this tick
abbrev pub nothing : PlanData → ℕ → BatchData
nothing plan tick = record {
  fresh = is_fresh plan.bound;
  from = plan.bound;
  now = tick;
  files = [];
}

-- the batch at a view; an older view than that of the last batch has nothing to tell
abbrev pub polled : FollowerData → ViewData → BatchData
polled f view =
    if is_told f.last view.tick then nothing f.plan (last_or view.tick f.last)
    else listing f.plan view

-- a follower, once a batch that ends at this tick was told: the next one begins there
abbrev pub told_up_to : ℕ → FollowerData → FollowerData
told_up_to tick f = record { plan = with_bound (Tick tick) f.plan; last = Some tick }

-- a new follower with this plan
abbrev pub untold : PlanData → FollowerData
untold plan = record { plan = plan; last = None }
