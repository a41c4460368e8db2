-- The answer to a crawl of a root. No public document defines it.
use Rattle.std.specs.Prelude.{◌≡◌, ◌≤◌, ℕ, List, Option, Some, None, Result, Ok, Err, option_map}
use Rattle.std.specs.Prelude.{refl}
use Rattle.std.specs.Coded.{Coded, code_by, coded×, coded_ℕ, coded_option}
use Rattle.wq_live.specs.Event.{number_of}
use Rattle.wq_live.specs.Log.{events_code}
use Rattle.wq_live.specs.declared.event.RootEvent.{RootEvent}
use Rattle.wq_crawl.specs.declared.fault.CrawlFault.{CrawlFault}

-- a list of events that has what a crawl of a root found: the list, the number of the root, and how
-- many crawls began before that one
pub record CrawlData : Type 0 where
  pub told : List RootEvent
  pub number : ℕ
  pub count : ℕ

-- an answer as the tuple of its parts, if there is a list
abbrev pub answer_code : Coded (Option CrawlData)
answer_code =
    coded_option (code_by (List RootEvent × (ℕ × ℕ)) (coded× events_code (coded× coded_ℕ coded_ℕ))
    (λ c. (c.told, (c.number, c.count)))
    (λ (told, (number, count)). record { told = told; number = number; count = count })
    (λ _. refl))

-- the list of an answer, unless the crawl was refused
abbrev pub told_list : Result (Option CrawlData) CrawlFault
    → Result (Option (List RootEvent)) CrawlFault
told_list (Ok crawl) = Ok (option_map (λ c. c.told) crawl)
told_list (Err fault) = Err fault

-- this list, unless the crawl was refused
abbrev pub list_or_fault : List RootEvent → Result (Option CrawlData) CrawlFault
    → Result (List RootEvent) CrawlFault
list_or_fault told (Ok crawl) = Ok told
list_or_fault told (Err fault) = Err fault

-- an answer to a crawl of the root of this text: a list that was published shows the root under the
-- number that was crawled; or one does not show the root
abbrev pub IsAnswer : (List RootEvent → Type 0) → List ℕ → Option CrawlData → Type 0
IsAnswer published text None =
    (events : List RootEvent) × published events × (number_of text events ≡ None)
IsAnswer published text (Some crawl) =
    published crawl.told × (number_of text crawl.told ≡ Some crawl.number)

-- the crawl began when somebody asked, or later
abbrev pub BeganSince : ℕ → Option CrawlData → Type 0
BeganSince asked None = Unit {0}
BeganSince asked (Some crawl) = asked ≤ crawl.count
