-- The events of roots, in order: their starts, the passes over them and their ends. They determine
-- the roots that are shown, and the passes over each. No public document defines it.
use Rattle.std.specs.Prelude.{◌≡◌, ◌≤◌, ◌⊎◌, ◌==◌, ℕ, Bool, false, not, if◌then◌else◌, All, List, [], ◌∷◌, length, map, filter, find, bytes_eq, Option, Some, None, option_map}
use Rattle.std.specs.FinMap.{len}
use Rattle.std.specs.List.{filter_map, list_any, range_with_len}
use Rattle.wq_base.specs.Limit.{max_number, max_roots}
use Rattle.wq_view.specs.Listing.{PassData}
use Rattle.wq_view.specs.History.{History, Differ}
use Rattle.wq_live.specs.declared.event.RootEvent.{RootEvent}
use Rattle.wq_live.specs.declared.event.RootEvent.TheVariants.{Started, Passed, Ended}

-- a root that was started: the number that it was given, and its text
pub record Root : Type 0 where
  pub number : ℕ
  pub text : List ℕ

-- the root that an event starts
abbrev pub start_in : RootEvent → Option Root
start_in (Started number text) = Some (record { number = number; text = text })
start_in _ = None

-- the pass over the root of this number, if the event is such a pass
abbrev pub pass_in : ℕ → RootEvent → Option PassData
pass_in root (Passed number pass) = if number == root then Some pass else None
pass_in root _ = None

-- whether the event is the end of the root of this number
abbrev pub is_end_of : ℕ → RootEvent → Bool
is_end_of root (Ended number) = root == number
is_end_of root _ = false

-- the number of the root that an event is about
abbrev pub number_in : RootEvent → ℕ
number_in (Started number _) = number
number_in (Passed number _) = number
number_in (Ended number) = number

-- the roots that were started, in the order of their starts
abbrev pub started : List RootEvent → List Root
started events = filter_map start_in events

-- whether the root of this number has ended
abbrev pub has_ended : List RootEvent → ℕ → Bool
has_ended events number = list_any (is_end_of number) events

-- the roots that are shown: those that were started and have not ended
abbrev pub shown : List RootEvent → List Root
shown events = filter (λ root. not (has_ended events root.number)) (started events)

-- whether the root of this number is shown
abbrev pub is_shown : List RootEvent → ℕ → Bool
is_shown events number = list_any (λ root. root.number == number) (shown events)

-- the root of this text, if it is shown
abbrev pub shown_root : List ℕ → List RootEvent → Option Root
shown_root text events = find (λ root. bytes_eq root.text text) (shown events)

-- the number of the root of this text, if it is shown
abbrev pub number_of : List ℕ → List RootEvent → Option ℕ
number_of text events = option_map (λ root. root.number) (shown_root text events)

-- no more root can be started, because the most roots are shown or the last number was given
abbrev pub IsFull : List RootEvent → Type 0
IsFull events = (length (shown events) ≡ max_roots) ⊎ (length (started events) ≡ max_number)

-- the passes over the root of this number
abbrev pub passes_over : ℕ → List RootEvent → History
passes_over number events = filter_map (pass_in number) events

-- the facts of each list that the server makes. The roots got the numbers 1, 2, 3 and so on, and no
-- event has a number beyond the last one. Each pass over a root saw something else than the one
-- before
pub record IsLawfulList (events : List RootEvent) : Type 0 where
  pub numbers : map (λ root. root.number) (started events)
      ≡ range_with_len 1 (length (started events))
  pub known : All (λ event. number_in event ≤ length (started events)) events
  pub differ : (number : ℕ) → Differ (passes_over number events)

-- the passes over a root that starts with this pass: none if the pass saw no file
abbrev pub first_history : PassData → History
first_history pass = if len pass.stats == 0 then [] else pass ∷ []

-- the events that the start of a root adds: its start, and its first pass unless that saw no file
abbrev pub start_events : ℕ → List ℕ → PassData → List RootEvent
start_events number text pass =
    Started number text ∷ map (λ first. Passed number first) (first_history pass)
