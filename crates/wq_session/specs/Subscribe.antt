-- The beginnings of `subscribe` and `unsubscribe` while the shelf is held. They leave the shelf.
-- From Watchman's documentation of these commands.
use Rattle.std.specs.Prelude.{ℕ, List, Option, Result, Ok}
use Rattle.serde_json.specs.Data.{Data}
use Rattle.wq_base.specs.Fault.{or_fault, or_its_fault, or_own_fault, unless_fault}
use Rattle.wq_clock.specs.declared.bound.Bound.{Bound}
use Rattle.wq_clock.specs.declared.bound.Bound.TheVariants.{Fresh}
use Rattle.wq_code.specs.declared.raw.Raw.{Raw}
use Rattle.wq_follow.specs.Subscription.{subscribed}
use Rattle.wq_query.specs.Query.{QueryData, SinceData, at_bound, at_cursor}
use Rattle.wq_reply.specs.Plan.{PlanData}
use Rattle.wq_query.specs.Subscribed.{subscribes as subscription_of}
use Rattle.wq_ask.specs.Program.{is_name}
use Rattle.wq_ask.specs.declared.refusal.Refusal.{Refusal}
use Rattle.wq_ask.specs.declared.refusal.Refusal.TheVariants.{NotWatched, BadName, Query}
use Rattle.wq_crawl.specs.At.{AtData}
use Rattle.wq_session.specs.At.{ShelfNow}
use Rattle.wq_session.specs.Query.{program_for}
use Rattle.wq_session.specs.Work.{BegunData, begins, drops}

-- the bound of its first list; a subscription has no cursor
abbrev pub first_bound : SinceData → Bound
first_bound (at_bound bound) = bound
first_bound (at_cursor name) = Fresh

-- the plan of its first list, by the program that it names, if it names one
abbrev pub first_plan : QueryData → Option Raw → PlanData
first_plan q program = record { query = q; bound = first_bound q.since; program = program }

-- a subscription to the files that a query asks for, of a root with this text and number, begins
abbrev pub begun_read_subscribe : List ℕ → List ℕ → ℕ → QueryData → ShelfNow
    → Result BegunData Refusal
begun_read_subscribe root name number q shelf =
    or_own_fault (program_for q shelf) (λ program.
    Ok (record {
      work = begins (subscribed name root number (first_plan q program));
      shelf = shelf;
    }))

-- the beginning of `subscribe` at its root
abbrev pub begun_subscribe : List ℕ → List ℕ → Data → AtData → ShelfNow → Result BegunData Refusal
begun_subscribe root name d at shelf =
    or_fault NotWatched at.view (λ view.
    unless_fault BadName (is_name name) (
    or_its_fault Query (subscription_of at.instance d) (λ q.
    begun_read_subscribe root name (at.instance).root q shelf)))

-- the beginning of `unsubscribe` at its root
abbrev pub begun_unsubscribe : List ℕ → AtData → ShelfNow → Result BegunData Refusal
begun_unsubscribe name at shelf =
    unless_fault BadName (is_name name) (
    Ok (record { work = drops (at.instance).root name; shelf = shelf }))
