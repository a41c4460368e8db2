-- The results of the parts of meeting a need at the table of a world.
-- It is this server's own.
use Rattle.std.specs.Prelude.{◌≡◌, ℕ, true, List, [], ◌∷◌, ◌++◌, Option, Some, option_map}
use Rattle.std.specs.Prelude.{Result, Ok, Err}
use Rattle.wq_clock.specs.Run.{RunData}
use Rattle.wq_crawl.specs.declared.fault.CrawlFault.{CrawlFault}
use Rattle.wq_crawl.specs.declared.fault.CrawlFault.TheVariants.{NoMemory}
use Rattle.wq_live.specs.Table.{IsTableOf, TableData}
use Rattle.wq_live.specs.declared.event.RootEvent.{RootEvent}
use Rattle.wq_live.specs.declared.event.RootEvent.TheVariants.{Ended}
use Rattle.wq_crawl.specs.Need.{NeedData}
use Rattle.wq_crawl.specs.Views.{is_of_root, root_at_data}
use Rattle.wq_crawl.specs.declared.views.RootAt.{RootAt}
use Rattle.wq_crawl.specs.Meets.{at_end, looked}
use Rattle.wq_crawl.specs.Meets.{RefusedData}
use Rattle.wq_crawl.specs.declared.refused.Refused.{Refused}

-- a crawl or a watching that was refused
abbrev pub refused_data : Refused → RefusedData
refused_data refused = record { root = refused.root; fault = refused.fault }

-- the code found the root that an ask is answered at; or memory ran out for a share of its view
abbrev pub Finds : NeedData → RunData → TableData → Result (Option RootAt) CrawlFault → Type 0
Finds need run table (Ok root) = option_map root_at_data root ≡ looked need run table
Finds need run table (Err fault) = (fault ≡ NoMemory) × (is_of_root need ≡ true)

-- the root of this number has ended in the table; or memory ran out, and the table stays
abbrev pub EndsTable : ℕ → RunData → TableData → Result (Option RootAt) CrawlFault → TableData
    → Type 0
EndsTable number run before (Ok root) after =
    (option_map root_at_data root ≡ Some (at_end run number))
    × ((events : List RootEvent) → IsTableOf events before
    → IsTableOf (events ++ Ended number ∷ []) after)
EndsTable number run before (Err fault) after = (fault ≡ NoMemory) × (after ≡ before)
