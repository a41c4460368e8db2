-- The asks that begin a subscription: `subscribe` alone, at the root that is looked at.
use Rattle.std.proofs.Common.{◌≡◌, ℕ, Bool, true, false, not, cond, List, Option, Some, None, Result, Ok, Err, refl}
use Rattle.serde_json.specs.Data.{Data}
use Rattle.serde_json.specs.View.{view as data_of}
use Rattle.wq_base.specs.Fault.{or_fault, or_its_fault, or_own_fault, unless_fault}
use Rattle.wq_ask.specs.Program.{is_name}
use Rattle.wq_ask.specs.declared.ask.Ask.{Ask}
use Rattle.wq_ask.specs.declared.ask.Ask.TheVariants.{Alone, OfRoot, OfShelf, Unwatch, Watch}
use Rattle.wq_ask.specs.declared.ask.LoneAsk.{LoneAsk}
use Rattle.wq_ask.specs.declared.ask.LoneAsk.TheVariants.{Leave, Nothing, Refused, ShutDown, Version}
use Rattle.wq_ask.specs.declared.ask.RootAsk.{RootAsk}
use Rattle.wq_ask.specs.declared.ask.RootAsk.TheVariants.{AddTrigger, DeleteTrigger, Query as AsksQuery, Reads as ReadsRoot, Subscribe, Unsubscribe}
use Rattle.wq_ask.specs.declared.ask.ShelfAsk.{ShelfAsk}
use Rattle.wq_ask.specs.declared.ask.ShelfAsk.TheVariants.{AddProgram, DeleteProgram, Reads as ReadsShelf}
use Rattle.wq_ask.specs.declared.refusal.Refusal.{Refusal}
use Rattle.wq_ask.specs.declared.refusal.Refusal.TheVariants.{BadName, NotWatched, Query, ShelfFull, TooManyRoots, TooManyTriggers}
use Rattle.wq_code.specs.declared.raw.Raw.{Raw}
use Rattle.wq_follow.specs.Subscription.{SubscriptionData, subscribed}
use Rattle.wq_query.specs.Query.{QueryData}
use Rattle.wq_query.specs.Reading.{asks as query_of}
use Rattle.wq_query.specs.Subscribed.{subscribes as subscription_of}
use Rattle.wq_crawl.specs.At.{AtData}
use Rattle.wq_session.specs.At.{ShelfNow, is_watched, watched}
use Rattle.wq_session.specs.Begun.{begun_ask, begun_alone, begun_on_shelf, begun_there, or_refused, reply_at, taken_ask}
use Rattle.wq_registry.specs.ByName.{has_no_place}
use Rattle.wq_registry.specs.Limit.{max_programs}
use Rattle.wq_registry.specs.Shelf.{root_has_no_place}
use Rattle.wq_session.specs.Query.{has_place, program_for}
use Rattle.wq_session.specs.Subscribe.{first_plan, begun_subscribe}
use Rattle.wq_session.specs.Trigger.{defined_by, defined_name, has_no_trigger_place}
use Rattle.wq_session.specs.Work.{BegunData, WorkData, begins, drops, evaluates, prints, says}

-- the subscription that an object asks for, at the root that is looked at
pub record BeginsOne (at : Option AtData) (s : SubscriptionData) : Type 0 where
  pub here : AtData
  pub there : at ≡ Some here
  pub object : Data
  pub query : QueryData
  pub program : Option Raw
  pub name : List ℕ
  pub root : List ℕ
  pub asks : subscription_of here.instance object ≡ Ok query
  pub is : s ≡ subscribed name root (here.instance).root (first_plan query program)

-- if work begins a subscription, it is such a one
abbrev pub BeginsSo : Option AtData → WorkData → Type 0
BeginsSo at (begins s) = BeginsOne at s
BeginsSo at (says out) = Unit {0}
BeginsSo at (prints d) = Unit {0}
BeginsSo at (evaluates plan cursor) = Unit {0}
BeginsSo at (drops number name) = Unit {0}

abbrev BegunSo : Option AtData → Result BegunData Refusal → Type 0
BegunSo at (Ok b) = BeginsSo at b.work
BegunSo at (Err refusal) = Unit {0}

module _ (at : Option AtData) where
  unless_so : (refusal : Refusal) (test : Bool) (next : Result BegunData Refusal) → BegunSo at next → BegunSo at (unless_fault refusal test next)
  unless_so refusal false next so = tt
  unless_so refusal true next so = so

  or_so : {A : Type 0} (refusal : Refusal) (found : Option A) (next : A → Result BegunData Refusal) → ((a : A) → BegunSo at (next a)) → BegunSo at (or_fault refusal found next)
  or_so refusal None next so = tt
  or_so refusal (Some a) next so = so a

  or_its : {A F : Type 0} (of : F → Refusal) (found : Result A F) (next : A → Result BegunData Refusal) → ((a : A) → found ≡ Ok a → BegunSo at (next a))
      → BegunSo at (or_its_fault of found next)
  or_its of (Err fault) next so = tt
  or_its of (Ok a) next so = so a refl

  or_own : {A : Type 0} (found : Result A Refusal) (next : A → Result BegunData Refusal) → ((a : A) → BegunSo at (next a)) → BegunSo at (or_own_fault found next)
  or_own (Err fault) next so = tt
  or_own (Ok a) next so = so a

  subscribes : (name root : List ℕ) (d : Data) (here : AtData) (shelf : ShelfNow) → at ≡ Some here → BegunSo at (begun_subscribe root name d here shelf)
  subscribes name root d here shelf there =
      or_so NotWatched here.view _ (λ view.
      unless_so BadName (is_name name) _ (
      or_its Query (subscription_of here.instance d) _ (λ q asks.
      or_own (program_for q shelf) _ (λ program. record {
        here = here;
        there = there;
        object = d;
        query = q;
        program = program;
        name = name;
        root = root;
        asks = asks;
        is = refl;
      }))))

  there_so : (what : RootAsk) (root : List ℕ) (here : AtData) (shelf : ShelfNow) → at ≡ Some here → BegunSo at (begun_there what root here shelf)
  there_so (ReadsRoot what) root here shelf there = or_own (reply_at what here shelf) _ (λ d. tt)
  there_so (AsksQuery q) root here shelf there =
      or_so NotWatched here.view _ (λ view. or_its Query (query_of here.instance (data_of q)) _ (λ q asks. or_own (program_for q shelf) _ (λ program.
      unless_so ShelfFull (has_place (here.instance).root q.since shelf) _ tt)))
  there_so (Subscribe name q) root here shelf there = subscribes name root (data_of q) here shelf there
  there_so (Unsubscribe name) root here shelf there = unless_so BadName (is_name name) _ tt
  there_so (AddTrigger t) root here shelf there =
      or_so NotWatched here.view _ (λ view. or_own (defined_by here.instance (data_of t)) _ (λ d. or_own (program_for d.query shelf) _ (λ program.
      unless_so TooManyTriggers (not (has_no_trigger_place (here.instance).root (defined_name d) shelf)) _ tt)))
  there_so (DeleteTrigger name) root here shelf there = unless_so BadName (is_name name) _ tt

  on_so : (what : ShelfAsk) (shelf : ShelfNow) → BegunSo at (begun_on_shelf what shelf)
  on_so (ReadsShelf what) shelf = tt
  on_so (AddProgram name program) shelf = unless_so ShelfFull (not (has_no_place max_programs name shelf.programs)) _ tt
  on_so (DeleteProgram name) shelf = tt

  alone_so : (what : LoneAsk) (shelf : ShelfNow) → BegunSo at (begun_alone what shelf)
  alone_so (Refused refusal) shelf = tt
  alone_so Version shelf = tt
  alone_so ShutDown shelf = tt
  alone_so Leave shelf = tt
  alone_so Nothing shelf = tt

  refused_so : (begun : Result BegunData Refusal) (shelf : ShelfNow) → BegunSo at begun → BeginsSo at (or_refused begun shelf).work
  refused_so (Ok b) shelf so = so
  refused_so (Err refusal) shelf so = tt

-- what is watched is what is looked at
watched_so : (at : Option AtData) (root : List ℕ) (shelf : ShelfNow) (next : AtData → Result BegunData Refusal) → ((here : AtData) → at ≡ Some here → BegunSo at (next here))
    → BegunSo at (or_fault NotWatched (watched root at shelf) next)
watched_so None root shelf next so = tt
watched_so (Some here) root shelf next so = by (is_watched root here shelf)
  where
    by : (b : Bool) → BegunSo (Some here) (or_fault NotWatched (cond b (Some here) None) next)
    by true = so here refl
    by false = tt

begun_so : (ask : Ask) (at : Option AtData) (shelf : ShelfNow) → BegunSo at (begun_ask ask at shelf)
begun_so (Watch root) at shelf = or_so at NotWatched at _ (λ here. unless_so at TooManyRoots (not (root_has_no_place root (here.instance).root shelf)) _ tt)
begun_so (Unwatch root) at shelf = or_so at NotWatched (watched root at shelf) _ (λ here. tt)
begun_so (OfRoot root crawl what) at shelf = watched_so at root shelf _ (λ here there. there_so at what root here shelf there)
begun_so (OfShelf what) at shelf = on_so at what shelf
begun_so (Alone what) at shelf = alone_so at what shelf

pub begins_so : (ask : Ask) (at : Option AtData) (shelf : ShelfNow) → BeginsSo at (taken_ask ask at shelf).work
begins_so ask at shelf = refused_so at (begun_ask ask at shelf) shelf (begun_so ask at shelf)
