-- The programs on a shelf of a world are those that asks handed in.
use Rattle.std.proofs.Common.{◌≡◌, ◌⊎◌, ℕ, ℤ, false, List, [], ◌∷◌, ◌++◌, Option, Some, None, inl, inr, sym, ap, subst, ◌∙◌}
use Rattle.wq_code.specs.declared.raw.Raw.{Raw}
use Rattle.wq_crawl.specs.declared.fault.CrawlFault.{CrawlFault}
use Rattle.wq_live.specs.Table.{RootView, TableData, root_by_text}
use Rattle.wq_registry.specs.ByName.{under}
use Rattle.wq_registry.specs.History.{AddsOne, adds_root}
use Rattle.wq_registry.proofs.Added.{programs_were_added}
use Rattle.wq_ask.specs.HandedIn.{AsksHandInValid, HandsInValid}
use Rattle.wq_session.specs.Need.{need_of}
use Rattle.wq_session.specs.Out.{OutData}
use Rattle.wq_ask.specs.declared.ask.Ask.{Ask}
use Rattle.wq_ask.specs.declared.ask.Ask.TheVariants.{OfShelf}
use Rattle.wq_ask.specs.declared.ask.ShelfAsk.TheVariants.{AddProgram}
use Rattle.wq_session.specs.Accepted.{AddedAreAsked, CallNow}
use Rattle.wq_session.proofs.Adding.{one_of, turns_none}
use Rattle.wq_verify.specs.Typing.{IsValid}
use Rattle.wq_replay.specs.Accepted.{AcceptsAt, AcceptsOf, AcceptsRound, AcceptsUnless, RunsWith, ShelvesAreCalls}
use Rattle.wq_crawl.specs.Meets.{ending, fault_for}
use Rattle.wq_replay.specs.Valid.{AreAsksOfEvents, IsOfEvent, ProgramsAreValid}
use Rattle.wq_replay.specs.World.{crawl, watching, asked, idle, round, ended, HappeningData, SentData, WorldData, new_world, root_text}

module _ (added_are_asked : AddedAreAsked) (hand_in_valid : AsksHandInValid) (raw : Raw) where
  -- a program that an ask hands in may run
  handed : (ask : Ask) → (name : List ℕ) × (ask ≡ OfShelf (AddProgram name raw)) → HandsInValid ask → IsValid raw
  handed ask it good = subst HandsInValid it.1 good

  -- a program that the calls of an ask add
  at_end : (number : Option ℕ) (table : TableData) (client : ℤ) (world : WorldData) (ask : Ask) (out : OutData) (calls : List CallNow)
      → AcceptsAt number table client world ask out calls → HandsInValid ask → AddsOne raw calls → IsValid raw
  at_end None table client world ask out calls accepts good one = handed ask (added_are_asked false ask _ world.shelf (world.follows client) out calls raw accepts one) good
  at_end (Some number) table client world ask out calls (inl accepts) good one = handed ask (added_are_asked false ask _ world.shelf (world.follows client) out calls raw accepts one) good
  at_end (Some number) table client world ask out calls (inr (may, none)) good one = absurd (subst (AddsOne raw) none one)

  unless : (fault : Option CrawlFault) (table : TableData) (client : ℤ) (world : WorldData) (ask : Ask) (out : OutData) (calls : List CallNow)
      → AcceptsUnless fault table client world ask out calls → HandsInValid ask → AddsOne raw calls → IsValid raw
  unless (Some fault) table client world ask out calls (may, none) good one = absurd (subst (AddsOne raw) none one)
  unless None table client world ask out calls accepts good one = at_end (ending (need_of ask) table) table client world ask out calls accepts good one

  -- a round adds none
  round_none : (root : Option RootView) (answers : List (Option ℕ)) (world : WorldData) (sent : List SentData) (calls : List CallNow)
      → AcceptsRound root answers world sent calls → AddsOne raw calls → ⊥
  round_none None answers world sent calls none one = subst (AddsOne raw) none one
  round_none (Some root) answers world sent calls (after, had, same) one =
      turns_none raw root.number (had.round).turns (subst (AddsOne raw) same one)

  -- a program that the calls of a happening add may run
  here : (world : WorldData) (happening : HappeningData) (sent : List SentData) (calls : List CallNow)
      → AcceptsOf world happening sent calls → IsOfEvent happening → AddsOne raw calls → IsValid raw
  here world (crawl root seen) sent calls none good one = absurd (subst (AddsOne raw) none one)
  here world (watching root seen) sent calls none good one = absurd (subst (AddsOne raw) none one)
  here world (asked client ask) sent calls (out, (table, is, accepts), same) good one =
      unless (fault_for (need_of ask) table world.refused) table client world ask out calls accepts (hand_in_valid good.0 ask good.1) one
  here world (idle client root) sent calls none good one = absurd (subst (AddsOne raw) none one)
  here world (round root answers) sent calls (table, is, accepts) good one =
      absurd (round_none (root_by_text root table) answers world sent calls accepts one)
  here world (ended run) sent calls none good one = absurd (subst (AddsOne raw) none one)

  -- and so may one that the calls of happenings add
  each : (world : WorldData) (happenings : List HappeningData) (sent : List SentData) (after : WorldData) (calls : List CallNow)
      → RunsWith world happenings sent after calls → AreAsksOfEvents happenings → AddsOne raw calls → IsValid raw
  each world [] sent after calls (none, is, empty) good one = absurd (subst (AddsOne raw) empty one)
  each world (happening ∷ later) sent after calls (next, first, rest, now, behind, does, accepts, leads, same, parts, more) good one =
      at (each next later rest after behind more good.1) (one_of raw now behind (subst (AddsOne raw) parts one))
    where
      at : (AddsOne raw behind → IsValid raw) → AddsOne raw now ⊎ AddsOne raw behind → IsValid raw
      at further (inl mine) = here world happening first now accepts good.0 mine
      at further (inr others) = further others

-- the law
pub programs_are_valid : ShelvesAreCalls → AddedAreAsked → AsksHandInValid → ProgramsAreValid
programs_are_valid shelves added valid run sockname happenings sent after name raw runs good is =
    let it = shelves run sockname happenings sent after runs in
    by it.0 it.1 (programs_were_added (adds_root root_text 1 ∷ it.0) sockname name raw (sym (ap (λ s. under name s.programs) it.2) ∙ is))
  where
    by : (calls : List CallNow) → RunsWith (new_world run sockname) happenings sent after calls → ⊥ ⊎ AddsOne raw calls → IsValid raw
    by calls goes (inl none) = absurd none
    by calls goes (inr one) = each added valid raw (new_world run sockname) happenings sent after calls goes good one
