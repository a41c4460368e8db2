-- The replies of a world to lines that ask for files.
use Rattle.std.proofs.Common.{◌≡◌, ◌⊎◌, ℕ, ℤ, Bool, true, false, List, Option, Some, None, option_map, Ok, cond, inl, inr, refl, ap, sym, subst, ◌∙◌}
use Rattle.serde_json.specs.Data.{Data}
use Rattle.serde_json.specs.View.{view as data_of}
use Rattle.serde_json.specs.declared.value.Value.{Value}
use Rattle.wq_ask.specs.Argument.{queries}
use Rattle.wq_crawl.specs.Need.{crawl as crawl_of, none}
use Rattle.wq_session.specs.Need.{need_of}
use Rattle.wq_session.specs.Out.{OutData, runs_out}
use Rattle.wq_ask.specs.Query.{IsQuerying}
use Rattle.wq_ask.specs.Reading.{Asks, IsRequested, requested}
use Rattle.wq_ask.specs.declared.ask.Ask.{Ask}
use Rattle.wq_ask.specs.declared.ask.Ask.TheVariants.{Alone, OfRoot, OfShelf, Unwatch, Watch}
use Rattle.wq_ask.specs.declared.ask.LoneAsk.TheVariants.{Refused}
use Rattle.wq_ask.specs.declared.ask.RootAsk.TheVariants.{AddTrigger, DeleteTrigger, Query as AsksQuery, Reads, Subscribe, Unsubscribe}
use Rattle.wq_ask.specs.declared.refusal.Refusal.TheVariants.{NoMemory}
use Rattle.wq_clock.specs.Run.{RunData}
use Rattle.wq_code.specs.declared.raw.Raw.{Raw}
use Rattle.wq_crawl.specs.declared.fault.CrawlFault.{CrawlFault}
use Rattle.wq_follow.specs.Subscription.{SubscriptionData}
use Rattle.wq_live.specs.Table.{IsTableOf, RootView, TableData, has_text, root_by_text}
use Rattle.wq_live.specs.declared.event.RootEvent.{RootEvent}
use Rattle.wq_registry.specs.ByName.{under}
use Rattle.wq_crawl.specs.Meets.{Meets, MeetsFor, at_root, fault_for, refused_fault}
use Rattle.wq_replay.specs.Valid.{ProgramsAreValid}
use Rattle.wq_crawl.specs.Meets.{shows_root}
use Rattle.wq_replay.specs.World.{WorldData}
use Rattle.wq_session.specs.Answer.{AnswersAsk}
use Rattle.wq_crawl.specs.At.{AtData}
use Rattle.wq_session.specs.At.{ShelfNow}
use Rattle.wq_session.specs.Desk.{stand}
use Rattle.wq_crawl.specs.Views.{ReadyData}
use Rattle.wq_session.specs.Desk.{Replies}
use Rattle.wq_stream.specs.declared.event.Event.TheVariants.{Line}
use Rattle.wq_verify.specs.Typing.{IsValid}
use Rattle.wq_headline.specs.Exact.{IsReplyAt, IsReplyIn, RepliesAreExact, Shows}
use Rattle.wq_headline.proofs.Lists.{found_view, number_by}
use Rattle.wq_headline.proofs.Queries.{query_reply}

-- the ask of a line that asks for files: it asks so, or memory ran out
abbrev pub AsksFiles : List ℕ → Bool → Data → Ask → Type 0
AsksFiles root crawl d ask = ((q : Value) × (ask ≡ OfRoot root crawl (AsksQuery q)) × (data_of q ≡ d)) ⊎ (ask ≡ Alone (Refused NoMemory))

query_asked : (root : List ℕ) (crawl : Bool) (d : Data) (ask : Ask) → IsQuerying root crawl d ask
    → (q : Value) × (ask ≡ OfRoot root crawl (AsksQuery q)) × (data_of q ≡ d)
query_asked root crawl d (OfRoot r c (AsksQuery q)) (same, first, is) =
    (q, ap (λ x. OfRoot x c (AsksQuery q)) same ∙ ap (λ x. OfRoot root x (AsksQuery q)) first, is)
query_asked root crawl d (OfRoot r c (Reads what)) other = absurd other
query_asked root crawl d (OfRoot r c (Subscribe name q)) other = absurd other
query_asked root crawl d (OfRoot r c (Unsubscribe name)) other = absurd other
query_asked root crawl d (OfRoot r c (AddTrigger t)) other = absurd other
query_asked root crawl d (OfRoot r c (DeleteTrigger name)) other = absurd other
query_asked root crawl d (Watch r) other = absurd other
query_asked root crawl d (Unwatch r) other = absurd other
query_asked root crawl d (OfShelf what) other = absurd other
query_asked root crawl d (Alone what) other = absurd other

pub line_asks : (line root : List ℕ) (crawl : Bool) (d : Data) (ask : Ask) → requested line ≡ Ok (queries root crawl d) → Asks (Line line) ask
    → AsksFiles root crawl d ask
line_asks line root crawl d ask is (inl asks) = inl (query_asked root crawl d ask (subst (λ r. IsRequested r ask) is asks))
line_asks line root crawl d ask is (inr short) = inr short

-- a line for which memory ran out is refused for that
pub short_reply : (at : Option AtData) (shelf after : ShelfNow) (follows left : List SubscriptionData) (out : OutData)
    → AnswersAsk false (Alone (Refused NoMemory)) at shelf follows out after left → out ≡ runs_out None
short_reply at shelf after follows left out (inl is) = ap (λ a. (a.done).out) (sym is)
short_reply at shelf after follows left out (inr (inl (takes, is, same, stays))) = is
short_reply at shelf after follows left out (inr (inr (plan, cursor, work, is, unset, stays))) = is

-- what a world looks at is what its history shows
shows_looked : (run : RunData) (root : List ℕ) (events : List RootEvent) (table : TableData) (is : IsTableOf events table) (found : Option RootView)
    → root_by_text root table ≡ found → Shows run root events (option_map (at_root run) found)
shows_looked run root events table is None found = sym (number_by events table is root) ∙ ap (option_map (λ (r : RootView). r.number)) found
shows_looked run root events table is (Some r) found = (
  r.number,
  r.view,
  sym (number_by events table is root) ∙ ap (option_map (λ (r : RootView). r.number)) found,
  found_view events table is (has_text root) r found,
  refl,
)

-- a crawl that was refused for an ask is the last one
crawl_refused : (root : List ℕ) (world : WorldData) (table : TableData) (fault : CrawlFault) → fault_for (crawl_of root) table world.refused ≡ Some fault
    → refused_fault root world.refused ≡ Some fault
crawl_refused root world table fault is = by (shows_root root table) is
  where
    by : (b : Bool) → cond b (refused_fault root world.refused) None ≡ Some fault → refused_fault root world.refused ≡ Some fault
    by true is = is
    by false is = absurd cc

module _ (world : WorldData) (valid : (name : List ℕ) (raw : Raw) → under name (world.shelf).programs ≡ Some raw → IsValid raw)
    (client : ℤ) (root : List ℕ) (d : Data) (out : OutData) (shelf : ShelfNow) (left : List SubscriptionData) where
  -- the reply to an ask that is ready
  abbrev Reply : ReadyData → Ask → Type 0
  Reply ready ask = Replies false ready ask (stand (Some world.shelf) (world.follows client)) out (stand (Some shelf) left)

  -- at what is looked at
  reply_at : (crawl : Bool) (q : Value) (table : TableData) (is : IsTableOf world.events table) (ready : ReadyData) → data_of q ≡ d
      → ready ≡ Ok (option_map (at_root world.run) (root_by_text root table)) → Reply ready (OfRoot root crawl (AsksQuery q)) → IsReplyIn world root d out
  reply_at crawl q table is ready same there replies =
      let at = option_map (at_root world.run) (root_by_text root table) in
      let answers = subst (λ r. Reply r (OfRoot root crawl (AsksQuery q))) there replies in
      inr (inl (
        at,
        shows_looked world.run root world.events table is (root_by_text root table) refl,
        subst (λ e. IsReplyAt root e at world.shelf out) same (query_reply world.shelf valid root crawl q at (world.follows client) left out answers.0 answers.1),
      ))

  -- or the crawl was refused
  crawled : (q : Value) (table : TableData) (is : IsTableOf world.events table) (fault : Option CrawlFault) (ready : ReadyData) (later : List RootEvent) → data_of q ≡ d
      → fault_for (crawl_of root) table world.refused ≡ fault → MeetsFor fault (crawl_of root) world.run table world.events ready later
      → Reply ready (OfRoot root true (AsksQuery q)) → IsReplyIn world root d out
  crawled q table is None ready later same had meets replies = reply_at true q table is ready same meets.0 replies
  crawled q table is (Some fault) ready later same had meets replies =
      inl (fault, crawl_refused root world table fault had, (subst (λ r. Reply r (OfRoot root true (AsksQuery q))) meets.0 replies).0)

  asked_files : (crawl : Bool) (q : Value) (ready : ReadyData) (later : List RootEvent) → data_of q ≡ d
      → Meets (need_of (OfRoot root crawl (AsksQuery q))) world.run world.refused world.events ready later → Reply ready (OfRoot root crawl (AsksQuery q))
      → IsReplyIn world root d out
  asked_files false q ready later same (table, is, meets) replies = reply_at false q table is ready same meets.0 replies
  asked_files true q ready later same (table, is, meets) replies = crawled q table is (fault_for (crawl_of root) table world.refused) ready later same refl meets replies

  asked : (crawl : Bool) (ask : Ask) (ready : ReadyData) (later : List RootEvent) → AsksFiles root crawl d ask
      → Meets (need_of ask) world.run world.refused world.events ready later → Reply ready ask → IsReplyIn world root d out
  asked crawl ask ready later (inl (q, is, same)) meets replies =
      asked_files crawl q ready later same (subst (λ a. Meets (need_of a) world.run world.refused world.events ready later) is meets) (subst (Reply ready) is replies)
  asked crawl ask ready later (inr is) meets replies =
      let met : Meets none world.run world.refused world.events ready later = subst (λ a. Meets (need_of a) world.run world.refused world.events ready later) is meets in
      let answers = subst (λ r. Reply r (Alone (Refused NoMemory))) met.2.0 (subst (Reply ready) is replies) in
      inr (inr (short_reply None world.shelf answers.0 (world.follows client) left out answers.1))

-- the law
pub replies_are_exact : ProgramsAreValid → RepliesAreExact
replies_are_exact programs run sockname earlier lines sent world after client line root crawl d ask runs of_events is asks
    (out, (ready, later, meets, (shelf, left, replies, same)), sends) = (
      out,
      sends,
      asked world (λ name raw. programs run sockname earlier lines world name raw runs of_events) client root d out shelf left crawl ask ready later
          (line_asks line root crawl d ask is asks) meets replies,
    )
