-- The events that may be added to the one list of events of all roots, and the refusals of a pass
-- or a start. A crawler publishes by these definitions, and a replay of a script uses them. No
-- public document defines it.
use Rattle.std.specs.Prelude.{◌≡◌, ◌<◌, ◌⊎◌, ◌+◌, true, false, ℕ, List, [], ◌∷◌, ◌++◌, length}
use Rattle.std.specs.Prelude.{None, Some}
use Rattle.wq_record.specs.Limit.{max_tick}
use Rattle.wq_view.specs.Listing.{PassData}
use Rattle.wq_live.specs.Event.{IsFull, is_shown, number_of, passes_over, start_events, started}
use Rattle.wq_live.specs.Table.{IsNews, IsNoNews, WantsForTicks}
use Rattle.wq_live.specs.declared.event.RootEvent.{RootEvent}
use Rattle.wq_live.specs.declared.event.RootEvent.TheVariants.{Ended, Passed}
use Rattle.wq_crawl.specs.declared.fault.CrawlFault.{CrawlFault}
use Rattle.wq_crawl.specs.declared.fault.CrawlFault.TheVariants.{NoMemory, TicksSpent}
use Rattle.wq_crawl.specs.declared.place.Place.{Place}
use Rattle.wq_crawl.specs.declared.place.Place.TheVariants.{Shown, Full, Free}

-- the state in which a root of this text is found: it is shown under this number; or it is not, and
-- no more root can be started, or one can
abbrev pub IsPlace : List ℕ → List RootEvent → Place → Type 0
IsPlace text events (Shown number) = number_of text events ≡ Some number
IsPlace text events Full = (number_of text events ≡ None) × IsFull events
IsPlace text events Free = (number_of text events ≡ None) × (IsFull events → ⊥)

-- a pass over the root of this number is added if it is news, and the root then has a tick left for
-- it
abbrev pub Passes : List RootEvent → ℕ → PassData → List RootEvent → Type 0
Passes before number pass after =
    (IsNoNews before number pass × (after ≡ before))
    ⊎ (IsNews before number pass × (length (passes_over number before) < max_tick)
    × (after ≡ before ++ Passed number pass ∷ []))

-- the reason for which a pass over a root is not added: the pass is news, and the root has no tick
-- left for it; or that is not so, and memory ran out
abbrev pub IsNotTakenIn : List RootEvent → ℕ → PassData → CrawlFault → Type 0
IsNotTakenIn events number pass fault =
    ((fault ≡ TicksSpent) × WantsForTicks events number pass)
    ⊎ ((fault ≡ NoMemory) × (WantsForTicks events number pass → ⊥))

-- the list after the start of a root with this pass
abbrev pub with_start : List ℕ → PassData → List RootEvent → List RootEvent
with_start text pass events = events ++ start_events (length (started events) + 1) text pass

-- the end of the root of this number is added, if it is shown
abbrev pub EndsRoot : List RootEvent → ℕ → List RootEvent → Type 0
EndsRoot before number after =
    ((is_shown before number ≡ false) × (after ≡ before))
    ⊎ ((is_shown before number ≡ true) × (after ≡ before ++ Ended number ∷ []))

-- each root but the one of this number is shown as before, with the same passes
abbrev pub OthersStay : ℕ → List RootEvent → List RootEvent → Type 0
OthersStay number before after =
    (other : ℕ) → (other ≡ number → ⊥)
    → (is_shown after other ≡ is_shown before other)
    × (passes_over other after ≡ passes_over other before)
