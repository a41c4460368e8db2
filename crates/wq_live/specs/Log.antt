-- A beginning of the one list of events of all roots, as a thread knows it. No public document
-- defines it.
use Rattle.std.specs.Prelude.{◌≡◌, ◌==◌, MatchBool, ℕ, Bool, true, nat_lt, if◌then◌else◌, List, [], ◌∷◌, ◌++◌, length, refl}
use Rattle.std.specs.Prelude.{Option, Some, None}
use Rattle.std.specs.Coded.{Coded, code_by, coded×, coded_list}
use mathlib.Core.List.{IsPrefix}
use Rattle.logbook.specs.Pages.{Book, Cell, Named, Step, View, book_coded}
use Rattle.wq_live.specs.contracts.event.RootEvent.{the_row}
use Rattle.wq_live.specs.declared.event.RootEvent.{RootEvent}

-- lists of events are told apart by their events
abbrev pub events_code : Coded (List RootEvent)
events_code = coded_list the_row.coded

-- the identity of the list, and the events of it that are known
pub record LogData : Type 0 where
  pub book : Book
  pub log : List RootEvent

-- a log as the pair of its parts
abbrev pub log_code : Coded LogData
log_code =
    code_by (Book × List RootEvent) (coded× book_coded events_code)
    (λ log. (log.book, log.log))
    (λ (book, log). record { book = book; log = log }) (λ _. refl)

-- the first log begins the second, which is of the same list
abbrev pub BeginsLog : LogData → LogData → Type 0
BeginsLog a b = (a.book ≡ b.book) × IsPrefix a.log b.log

-- the relation of two logs of one list: the shorter begins the other
abbrev pub Compared : LogData → LogData → Type 0
Compared a b = MatchBool (nat_lt (length a.log) (length b.log)) (BeginsLog a b) (BeginsLog b a)

-- the first list begins the second if it is the shorter one, and else the second begins it
abbrev pub AgreeAs : Bool → List RootEvent → List RootEvent → Type 0
AgreeAs is_shorter a b = MatchBool is_shorter (IsPrefix a b) (IsPrefix b a)

-- the longer of two logs
abbrev pub longer_log : LogData → LogData → LogData
longer_log a b = if nat_lt (length a.log) (length b.log) then b else a

-- a log that a seat learned is longer than the log that it saw, which begins it; or none is kept
abbrev pub IsAhead : LogData → Option LogData → Type 0
IsAhead seen None = Unit {0}
IsAhead seen (Some told) = BeginsLog seen told

-- the list with which a look begins: the log that was learned, if it is longer than the one that
-- was seen
abbrev pub begun_with : LogData → Option LogData → List RootEvent
begun_with seen None = seen.log
begun_with seen (Some told) = told.log

-- the word that threads share is the length of the list
abbrev pub IsCount : List Cell → List RootEvent → Type 0
IsCount cells log = cells ≡ (length log, true) ∷ (0, true) ∷ []

-- the shared word of this list
abbrev pub head_of : Book → Named
head_of book = record { tracked = true; key = 0; book = book }

-- the event was added to a log that knew all; or the list was longer, and the log knows it now
abbrev pub AddsEvent : Step RootEvent → View RootEvent ℕ → ℕ → View RootEvent ℕ → Type 0
AddsEvent step before found after =
    MatchBool (found == step.old) (after.0 ≡ before.0 ++ step.ask ∷ []) (length after.0 ≡ found)
