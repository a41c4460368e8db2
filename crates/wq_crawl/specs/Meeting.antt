-- The results of the parts of meeting a need.
-- It is this server's own.
use Rattle.std.specs.Prelude.{◌≡◌, ◌⊎◌, ℕ, List, Option, Some, None, option_map}
use Rattle.std.specs.Prelude.{Result, Ok, Err}
use mathlib.Core.List.{IsPrefix}
use Rattle.wq_clock.specs.Instance.{InstanceData}
use Rattle.wq_crawl.specs.declared.fault.CrawlFault.{CrawlFault}
use Rattle.wq_crawl.specs.declared.fault.CrawlFault.TheVariants.{NoMemory}
use Rattle.wq_live.specs.declared.event.RootEvent.{RootEvent}
use Rattle.wq_crawl.specs.Basis.{Basis}
use Rattle.wq_crawl.specs.Ready.{KnownData, Learns, Readies, ended}
use Rattle.wq_crawl.specs.Run.{ShowsAt}
use Rattle.wq_crawl.specs.Need.{NeedData}
use Rattle.wq_crawl.specs.At.{AtData}
use Rattle.wq_crawl.specs.Views.{ReadyData, SaysReady, root_at_data}
use Rattle.wq_crawl.specs.declared.views.RootAt.{RootAt}

-- the result of code for a need
abbrev pub Met : Type 0
Met = Result (Option RootAt) CrawlFault

-- the session did what an ask needs, with this result
abbrev pub IsMet : Basis → NeedData → KnownData → Met → KnownData → Type 0
IsMet basis need before result after =
    (ready : ReadyData) × Readies basis need before ready after × SaysReady need ready result

-- the session looks at the root of a text, or the look is refused
abbrev pub SeesText : Basis → List ℕ → List RootEvent → Option AtData → List RootEvent → Type 0
SeesText basis root before at after =
    (IsPrefix before after × ShowsAt basis.run root after at × basis.published after)
    ⊎ ((after ≡ before) × (at ≡ None) × basis.refused before)

-- the code has a root that is looked at, with a share of its view; or memory ran out for the share
abbrev pub IsShared : Option AtData → Met → Type 0
IsShared at (Ok root) = at ≡ option_map root_at_data root
IsShared at (Err fault) = fault ≡ NoMemory

-- the session looks at the root of a text, with this result
abbrev pub SeesRoot : Basis → List ℕ → List RootEvent → Met → List RootEvent → Type 0
SeesRoot basis root before result after =
    (at : Option AtData) × SeesText basis root before at after × IsShared at result

-- the roots told this; then the session looks at the root
abbrev pub LearnsAndSees : Basis → List ℕ → Result (Option (List RootEvent)) CrawlFault
    → List RootEvent → Met → List RootEvent → Type 0
LearnsAndSees basis root (Ok told) before result after =
    (heard : List RootEvent) × Learns before (Ok told) heard
    × SeesRoot basis root heard result after
LearnsAndSees basis root (Err fault) before result after =
    (result ≡ Err fault) × (after ≡ before)

-- the session looks for the number of the root of a text
abbrev pub SeesNumber : Basis → List ℕ → List RootEvent → Option InstanceData → List RootEvent
    → Type 0
SeesNumber basis root before instance after =
    (at : Option AtData) × SeesText basis root before at after
    × (instance ≡ option_map (λ at. at.instance) at)

-- the code's result is this root
abbrev pub IsAtEnd : InstanceData → Met → Type 0
IsAtEnd instance (Ok root) = option_map root_at_data root ≡ Some (ended instance)
IsAtEnd instance (Err fault) = ⊥

-- the end of a root of this number was told, or refused
abbrev pub EndsAtEnd : InstanceData → Result (List RootEvent) CrawlFault → List RootEvent → Met
    → List RootEvent → Type 0
EndsAtEnd instance (Ok told) before result after =
    Learns before (Ok (Some told)) after × IsAtEnd instance result
EndsAtEnd instance (Err fault) before result after = (result ≡ Err fault) × (after ≡ before)
