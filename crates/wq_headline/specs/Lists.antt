-- What a list of events says of its roots, beside its table. A session looks at roots in the list,
-- and a world has them in the table.
-- No public document defines it.
use Rattle.std.specs.Prelude.{◌≡◌, ℕ, List, Option, option_map}
use Rattle.wq_clock.specs.Run.{run_data}
use Rattle.wq_clock.specs.declared.run.Run.{Run}
use Rattle.wq_live.specs.Table.{IsTableOf, TableData, root_by_text}
use Rattle.wq_live.specs.declared.event.RootEvent.{RootEvent}
use Rattle.wq_crawl.specs.Meets.{at_root, numbered}
use Rattle.wq_crawl.specs.Run.{ShowsAt, ShowsNumber}
use Rattle.wq_crawl.specs.At.{AtData}

-- the root of a text that a look finds in a list is the one that the list's table has
abbrev pub LooksFindRoots : Type 0
LooksFindRoots = (run : Run) (text : List ℕ) (events : List RootEvent) (table : TableData)
    (at : Option AtData) → IsTableOf events table → ShowsAt run text events at
    → at ≡ option_map (at_root (run_data run)) (root_by_text text table)

-- the same by the number of a root
abbrev pub NumbersFindRoots : Type 0
NumbersFindRoots = (run : Run) (number : ℕ) (events : List RootEvent) (table : TableData)
    (at : Option AtData) → IsTableOf events table → ShowsNumber run number events at
    → at ≡ numbered number (run_data run) table
