-- The root that is looked at, in a run of the server.
-- It is this server's own.
use Rattle.std.specs.Prelude.{◌≡◌, ℕ, true, false, List, Option, Some, None}
use Rattle.wq_clock.specs.Run.{instance_of, run_data}
use Rattle.wq_clock.specs.declared.run.Run.{Run}
use Rattle.wq_view.specs.View.{IsViewOf, ViewData}
use Rattle.wq_live.specs.Event.{IsLawfulList, Root, is_shown, shown_root, passes_over}
use Rattle.wq_live.specs.declared.event.RootEvent.{RootEvent}
use Rattle.wq_crawl.specs.At.{AtData}
use Rattle.wq_clock.specs.Instance.{InstanceData, instance_data}
use Rattle.wq_crawl.specs.declared.found_root.FoundRoot.{FoundRoot}

-- the root that a look found: the run of the server, and the number of the root there
abbrev pub found_data : FoundRoot → InstanceData
found_data shown = instance_data shown.instance

-- the root of this text in a list of events: with the view of the passes over it, if it is shown
-- there
abbrev pub ShowsRoot : Run → List ℕ → List RootEvent → Option AtData → Type 0
ShowsRoot run text events None = shown_root text events ≡ None
ShowsRoot run text events (Some at) =
    (root : Root) × (shown_root text events ≡ Some root)
    × (at.instance ≡ instance_of (run_data run) root.number)
    × (view : ViewData) × (at.view ≡ Some view)
    × IsViewOf (passes_over root.number events) view

-- the root of this text that is looked at: the list of the look is lawful, as each that is
-- published, and shows this root
abbrev pub ShowsAt : Run → List ℕ → List RootEvent → Option AtData → Type 0
ShowsAt run text events at = IsLawfulList events × ShowsRoot run text events at

-- the root of this number in a list of events: the view of the passes over it, if it is shown there
abbrev pub ShowsRootOf : Run → ℕ → List RootEvent → Option AtData → Type 0
ShowsRootOf run number events None = is_shown events number ≡ false
ShowsRootOf run number events (Some at) =
    (is_shown events number ≡ true) × (at.instance ≡ instance_of (run_data run) number)
    × (view : ViewData) × (at.view ≡ Some view) × IsViewOf (passes_over number events) view

-- the root of this number that is looked at: the list of the look is lawful, and shows this root
abbrev pub ShowsNumber : Run → ℕ → List RootEvent → Option AtData → Type 0
ShowsNumber run number events at = IsLawfulList events × ShowsRootOf run number events at
