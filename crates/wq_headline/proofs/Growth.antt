-- The history of a world goes on: each happening leaves it or adds events.
use Rattle.std.proofs.Common.{◌≡◌, ℕ, List, [], ◌∷◌, ◌++◌, Option, Some, None, Result, Ok, Err, inl, inr, ap, sym, ◌∙◌, append-nil}
use mathlib.Core.List.{IsPrefix}
use Rattle.std.proofs.lemmas.List.Elements.{filter_map-append}
use Rattle.wq_crawl.specs.Need.{NeedData}
use Rattle.wq_session.specs.Need.{need_of}
use Rattle.wq_crawl.specs.declared.fault.CrawlFault.{CrawlFault}
use Rattle.wq_crawl.specs.declared.place.Place.{Place}
use Rattle.wq_crawl.specs.declared.place.Place.TheVariants.{Shown, Full, Free}
use Rattle.wq_clock.specs.Run.{RunData}
use Rattle.wq_live.specs.Event.{number_of, pass_in, passes_over}
use Rattle.wq_live.specs.Table.{RootView, root_by_text}
use Rattle.wq_live.specs.declared.event.RootEvent.{RootEvent}
use Rattle.wq_live.specs.declared.event.RootEvent.TheVariants.{Ended, Passed}
use Rattle.wq_crawl.specs.Meets.{Meets, MeetsAt, MeetsFor, ending, fault_for}
use Rattle.wq_replay.specs.Playing.{Happens}
use Rattle.wq_replay.specs.Rounds.{RoundsFound}
use Rattle.wq_crawl.specs.Meets.{RefusedData}
use Rattle.wq_replay.specs.World.{Crawls, CrawlsAt, HappeningData, SentData, Starts, WatchesAt, WorldData, asked, crawl, ended, idle, round, watching}
use Rattle.wq_crawl.specs.Views.{ReadyData}
use Rattle.wq_view.specs.Listing.{PassData}

-- a list begins itself
pub begins_itself : {A : Type 0} (xs ys : List A) → ys ≡ xs → IsPrefix xs ys
begins_itself xs ys same = ([], append-nil xs ∙ sym same)

-- a list with more begins with it
begins_with : {A : Type 0} (xs more ys : List A) → ys ≡ xs ++ more → IsPrefix xs ys
begins_with xs more ys is = (more, sym is)

-- the passes over a root go on with the events
pub passes_go_on : (number : ℕ) (events later : List RootEvent) → IsPrefix events later → IsPrefix (passes_over number events) (passes_over number later)
passes_go_on number events later (more, is) =
    (passes_over number more, sym (filter_map-append (pass_in number) events more) ∙ ap (passes_over number) is)

crawls_at : (number : Option ℕ) (world : WorldData) (root : List ℕ) (pass : PassData) (after : WorldData) → CrawlsAt number world root pass after → IsPrefix world.events after.events
crawls_at None world root pass after is = begins_itself world.events after.events (ap (λ w. w.events) is)
crawls_at (Some number) world root pass after (inl (events, inl (stays, same), is)) = begins_itself world.events after.events (ap (λ w. w.events) is ∙ same)
crawls_at (Some number) world root pass after (inl (events, inr (news, room, added), is)) =
    begins_with world.events (Passed number pass ∷ []) after.events (ap (λ w. w.events) is ∙ added)
crawls_at (Some number) world root pass after (inr (spent, is)) = begins_itself world.events after.events (ap (λ w. w.events) is)

crawls : (world : WorldData) (root : List ℕ) (seen : Result PassData CrawlFault) (after : WorldData) → Crawls world root seen after → IsPrefix world.events after.events
crawls world root (Ok pass) after goes = crawls_at (number_of root world.events) world root pass after goes
crawls world root (Err fault) after is = begins_itself world.events after.events (ap (λ w. w.events) is)

starts : (world : WorldData) (root : List ℕ) (seen : Result PassData CrawlFault) (after : WorldData) → Starts world root seen after → IsPrefix world.events after.events
starts world root (Ok pass) after is = begins_with world.events _ after.events (ap (λ w. w.events) is)
starts world root (Err fault) after is = begins_itself world.events after.events (ap (λ w. w.events) is)

watches : (place : Place) (world : WorldData) (root : List ℕ) (seen : Result PassData CrawlFault) (after : WorldData) → WatchesAt place world root seen after
    → IsPrefix world.events after.events
watches (Shown number) world root seen after is = begins_itself world.events after.events (ap (λ w. w.events) is)
watches Full world root seen after is = begins_itself world.events after.events (ap (λ w. w.events) is)
watches Free world root seen after goes = starts world root seen after goes

-- the history after a need was met
pub meets : (need : NeedData) (run : RunData) (refused : Option RefusedData) (events : List RootEvent) (ready : ReadyData) (later : List RootEvent)
    → Meets need run refused events ready later → IsPrefix events later
meets need run refused events ready later (table, is, met) = unless (fault_for need table refused) met
  where
    at : (number : Option ℕ) → MeetsAt number need run table events ready later → IsPrefix events later
    at None (so, same) = begins_itself events later same
    at (Some number) (inl (so, ends)) = begins_with events (Ended number ∷ []) later ends
    at (Some number) (inr (so, same)) = begins_itself events later same

    unless : (fault : Option CrawlFault) → MeetsFor fault need run table events ready later → IsPrefix events later
    unless (Some fault) (so, same) = begins_itself events later same
    unless None met = at (ending need table) met

-- the history after any happening
pub happens : (world : WorldData) (happening : HappeningData) (sent : List SentData) (next : WorldData) → Happens world happening sent next → IsPrefix world.events next.events
happens world (crawl root seen) sent next (none, goes) = crawls world root seen next goes
happens world (watching root seen) sent next (none, (place, found, goes)) = watches place world root seen next goes
happens world (asked client ask) sent next (out, (ready, later, met, (shelf, left, replies, is)), same) =
    let goes = meets (need_of ask) world.run world.refused world.events ready later met in
    (goes.0, goes.1 ∙ sym (ap (λ w. w.events) is))
happens world (idle client root) sent next (out, (table, left, found, idles, is), same) = begins_itself world.events next.events (ap (λ w. w.events) is)
happens world (round root answers) sent next (table, found, goes) = at (root_by_text root table) goes
  where
    at : (shown : Option RootView) → RoundsFound shown answers world sent next → IsPrefix world.events next.events
    at None (none, is) = begins_itself world.events next.events (ap (λ w. w.events) is)
    at (Some shown) had = begins_itself world.events next.events (ap (λ w. w.events) had.is)
happens world (ended run) sent next (none, is) = begins_itself world.events next.events (ap (λ w. w.events) is)
