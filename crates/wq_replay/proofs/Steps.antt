-- The effects of the lines of a script, and the steps of the code.
use Rattle.std.proofs.Common.{◌≡◌, ◌≢◌, ℕ, ℤ, Bool, true, false, not, if◌then◌else◌, List, [], ◌∷◌, ◌++◌, Option, Some, None, option_map, is_none, Result, Ok, Err, refl, sym, ap, subst, ◌∙◌}
use mathlib.Core.Bool.{false≢true}
use Rattle.wq_stream.specs.declared.event.Event.{Event}
use Rattle.wq_session.specs.Need.{need_of}
use Rattle.wq_ask.specs.Reading.{Asks}
use Rattle.wq_ask.specs.declared.ask.Ask.{Ask}
use Rattle.wq_crawl.specs.declared.fault.CrawlFault.{CrawlFault}
use Rattle.wq_record.specs.Seen.{SeenData}
use Rattle.wq_view.specs.Listing.{PassData, listing_fault, listing_of}
use Rattle.wq_replay.specs.Numbers.{answers_for}
use Rattle.wq_replay.specs.Replay.{DoesAll, DoesLine, IsHeard, StopsAll, StopsWriting, crawled, ends_of, moments, needed, rounds, sent_lines, shuts}
use Rattle.wq_replay.specs.Sending.{Sends}
use Rattle.wq_replay.specs.Stage.{DraftData, StageData, Turn, drafts, lists, hears, rests, fires, finishes, given_out, malformed, turn_at_end}
use Rattle.wq_replay.specs.Stands.{Stands}
use Rattle.wq_replay.specs.Step.{IsAt, TakesAll, TakesTurn, draft_data}
use Rattle.wq_replay.specs.Playing.{Runs}
use Rattle.wq_replay.specs.World.{WorldData, HappeningData, SentData, asked, crawl, root_text}
use Rattle.wq_replay.specs.declared.fault.StepFault.{StepFault}
use Rattle.wq_replay.specs.declared.fault.StepFault.TheVariants.{Malformed, Write, NoMemory}
use Rattle.wq_replay.specs.declared.stage.Stage.{Stage}
use Rattle.wq_base.proofs.Fronts.{appends_none}

-- a draft of these parts
abbrev pub draft_with : Bool → ℤ → List SeenData → DraftData
draft_with crawls second rows = record { crawls = crawls; second = second; rows = rows }

-- drafts with the same rows are the same
pub rows_are : (crawls : Bool) (second : ℤ) (rows others : List SeenData) → rows ≡ others
    → Some (draft_with crawls second rows) ≡ Some (draft_with crawls second others)
rows_are crawls second rows others is = ap (λ all. Some (draft_with crawls second all)) is

-- a listing is open after a line
pub draft_open : (at : StageData) (draft : DraftData) (code : Stage) (known : Option (List ℕ))
    → Stands at.world code.world → at.tree ≡ code.tree → Some draft ≡ option_map draft_data code.draft → at.next ≡ code.next
    → TakesTurn at (drafts draft) known known (Ok true) code
draft_open at draft code known stands tree drafted next = (
  [],
  record at { draft = Some draft },
  appends_none known,
  (refl, refl),
  record { world = stands; tree = tree; draft = drafted; next = next },
)

-- the end of a listing that has no fault, or has one
pub end_well : (draft : DraftData) → listing_fault draft.rows draft.second ≡ None
    → turn_at_end draft ≡ lists draft.crawls (listing_of draft.rows draft.second)
end_well draft none = ap (λ fault. if is_none fault then lists draft.crawls (listing_of draft.rows draft.second) else malformed) none

-- the root lists this from now on
pub listed_now : (at : StageData) (draft : DraftData) (tree : PassData) (world : WorldData) (code : Stage) (known : Option (List ℕ))
    → listing_fault draft.rows draft.second ≡ None → tree ≡ listing_of draft.rows draft.second
    → Runs at.world (crawled draft.crawls tree) [] world → Stands world code.world → tree ≡ code.tree
    → None ≡ option_map draft_data code.draft → at.next ≡ code.next → TakesTurn at (turn_at_end draft) known known (Ok true) code
listed_now at draft tree world code known none is runs stands listed closed next =
    subst (λ turn. TakesTurn at turn known known (Ok true) code) (sym (end_well draft none ∙ ap (lists draft.crawls) (sym is))) (
      [],
      record at { world = world; tree = tree; draft = None },
      appends_none known,
      (world, runs, refl, refl),
      record { world = stands; tree = listed; draft = closed; next = next },
    )

-- a crawl sends nothing
crawl_silent : (before after : WorldData) (root : List ℕ) (seen : Result PassData CrawlFault) (sent : List SentData)
    → Runs before (crawl root seen ∷ []) sent after → Runs before (crawl root seen ∷ []) [] after
crawl_silent before after root seen sent (next, first, rest, does, is, (nothing, same)) = (next, [], [], (refl, does.1), refl, (refl, same))

-- a crawl of `/r`, as it was played
pub crawl_runs : (before after : WorldData) (root : List ℕ) (tree : PassData) (happenings : List HappeningData) (sent : List SentData)
    → happenings ≡ crawl root (Ok tree) ∷ [] → root ≡ root_text → Runs before happenings sent after
    → Runs before (crawled true tree) [] after
crawl_runs before after root tree happenings sent is named runs =
    subst (λ r. Runs before (crawl r (Ok tree) ∷ []) [] after) named
    (crawl_silent before after root (Ok tree) sent (subst (λ all. Runs before all sent after) is runs))

-- the happenings at the end of a listing, with which `/r` is crawled or not
pub crawled_runs : (before after : WorldData) (tree : PassData) (crawls said : Bool) → crawls ≡ said
    → Runs before (crawled said tree) [] after → Runs before (crawled crawls tree) [] after
crawled_runs before after tree crawls said is runs = subst (λ b. Runs before (crawled b tree) [] after) (sym is) runs

-- a client was heard, if its ask and the crawl or watching that it needs first were played
pub heard_of : (at : StageData) (client : ℤ) (event : Event) (ask : Ask) (tree : PassData) (happenings : List HappeningData)
    (sent : List SentData) (after : WorldData) → Asks event ask → at.tree ≡ tree
    → happenings ≡ needed tree (need_of ask) ++ asked client ask ∷ [] → Runs at.world happenings sent after
    → IsHeard at client event sent after
heard_of at client event ask tree happenings sent after asks same is runs = record {
  ask = ask;
  asks = asks;
  runs = subst (λ all. Runs at.world all sent after)
      (is ∙ ap (λ t. needed t (need_of ask) ++ asked client ask ∷ []) (sym same)) runs;
}

-- whether the server ends, from whether it goes on
shuts_not : (b : Bool) → true ≡ not b → b ≡ false
shuts_not true said = absurd (false≢true (sym said))
shuts_not false said = refl

shuts_so : (b : Bool) → false ≡ not b → b ≡ true
shuts_so true said = refl
shuts_so false said = absurd (false≢true said)

-- a client was heard
pub heard : (at : StageData) (client : ℤ) (event : Event) (sent : List SentData) (world : WorldData)
    (before after : Option (List ℕ)) (result : Result Bool StepFault) (code : Stage)
    → IsHeard at client event sent world → IsAt code (record at { world = world }) → Sends sent before after result
    → TakesTurn at (hears client event) before after result code
heard at client event sent world before after (Ok goes_on) code heard_so is (said, appends) = by goes_on said
  where
    by : (goes_on : Bool) → goes_on ≡ not (shuts sent) → TakesTurn at (hears client event) before after (Ok goes_on) code
    by true said = (sent_lines sent, record at { world = world }, appends, (sent, world, heard_so, shuts_not (shuts sent) said, refl, refl), is)
    by false said = (sent, world, heard_so, shuts_so (shuts sent) said, appends)
heard at client event sent world before after (Err Malformed) code heard_so is sends = absurd sends
heard at client event sent world before after (Err Write) code heard_so is sends = (sent, world, heard_so, sends)
heard at client event sent world before after (Err NoMemory) code heard_so is sends = absurd sends

-- all happened
pub happened : (at : StageData) (happenings : List HappeningData) (sent : List SentData) (world : WorldData)
    (before after : Option (List ℕ)) (went : Bool) (code : Stage) → Runs at.world happenings sent world
    → IsAt code (record at { world = world }) → Sends sent before after (Ok went) → TakesAll at happenings before after (Ok true) code
happened at happenings sent world before after went code runs stands (said, appends) =
    (sent_lines sent, record at { world = world }, appends, (sent, world, runs, refl, refl), stands)

-- a line that plays all these happenings
takes_all : (at : StageData) (turn : Turn) (happenings : List HappeningData) (before after : Option (List ℕ)) (result : Result Bool StepFault) (code : Stage)
    → ((written : List ℕ) (next : StageData) → DoesAll at happenings written next → DoesLine at turn written next)
    → (StopsAll at happenings before after → StopsWriting at turn before after)
    → turn ≢ malformed → TakesAll at happenings before after result code → TakesTurn at turn before after result code
takes_all at turn happenings before after (Ok true) code does stops well (written, next, appends, all, is) =
    (written, next, appends, does written next all, is)
takes_all at turn happenings before after (Ok false) code does stops well takes = absurd takes
takes_all at turn happenings before after (Err Malformed) code does stops well takes = absurd takes
takes_all at turn happenings before after (Err Write) code does stops well takes = stops takes
takes_all at turn happenings before after (Err NoMemory) code does stops well takes = (well, takes)

-- a client had idle moments
pub rested : (at : StageData) (client : ℤ) (happenings : List HappeningData) (before after : Option (List ℕ)) (result : Result Bool StepFault) (code : Stage)
    → happenings ≡ moments client at.world → TakesAll at happenings before after result code → TakesTurn at (rests client) before after result code
rested at client happenings before after result code is takes =
    takes_all at (rests client) (moments client at.world) before after result code (λ written next all. all) (λ stops. stops) (λ h. cc)
    (subst (λ all. TakesAll at all before after result code) is takes)

-- triggers had a round
pub fired_round : (at : StageData) (succeeds : Bool) (happenings : List HappeningData) (before after : Option (List ℕ)) (result : Result Bool StepFault) (code : Stage)
    → happenings ≡ rounds (answers_for succeeds at.next) → TakesAll (given_out succeeds at) happenings before after result code
    → TakesTurn at (fires succeeds) before after result code
fired_round at succeeds happenings before after (Ok true) code is (written, next, appends, all, stands) =
    (written, next, appends, subst (λ hs. DoesAll (given_out succeeds at) hs written next) is all, stands)
fired_round at succeeds happenings before after (Ok false) code is takes = absurd takes
fired_round at succeeds happenings before after (Err Malformed) code is takes = absurd takes
fired_round at succeeds happenings before after (Err Write) code is takes = subst (λ hs. StopsAll at hs before after) is takes
fired_round at succeeds happenings before after (Err NoMemory) code is takes = ((λ h. cc), takes)

-- a command has ended
pub finished_run : (at : StageData) (name : List ℕ) (happenings : List HappeningData) (before after : Option (List ℕ)) (result : Result Bool StepFault) (code : Stage)
    → happenings ≡ ends_of name at.world → TakesAll at happenings before after result code → TakesTurn at (finishes name) before after result code
finished_run at name happenings before after result code is takes =
    takes_all at (finishes name) (ends_of name at.world) before after result code (λ written next all. all) (λ stops. stops) (λ h. cc)
    (subst (λ all. TakesAll at all before after result code) is takes)
