-- The meaning of the world of the code.
-- It is this server's own.
use Rattle.std.specs.Prelude.{◌≡◌, ℤ, false, List, [], ◌∷◌, ◌++◌, map, Option, Some, None, option_map}
use Rattle.std.specs.Prelude.{Result, Ok, Err}
use Rattle.std.specs.Borrow.{Bor}
use Rattle.wq_live.specs.Table.{IsTableOf}
use Rattle.wq_crawl.specs.declared.fault.CrawlFault.{CrawlFault}
use Rattle.wq_view.specs.Listing.{PassData}
use Rattle.wq_clock.specs.Run.{run_data}
use Rattle.wq_session.specs.Shelved.{shelf_data}
use Rattle.wq_replay.specs.Client.{follows_in}
use Rattle.wq_replay.specs.Launched.{runs_data}
use Rattle.wq_replay.specs.Playing.{Runs, sent_to}
use Rattle.wq_replay.specs.Rounds.{sent_note}
use Rattle.wq_crawl.specs.Tables.{refused_data}
use Rattle.wq_replay.specs.World.{WorldData, HappeningData, crawl, watching, asked}
use Rattle.wq_replay.specs.World.{idle, round, ended, SentData}
use Rattle.wq_replay.specs.declared.happening.Happening.{Happening}
use Rattle.wq_replay.specs.declared.happening.Happening.TheVariants.{Crawl, Watch, Asked, Idle}
use Rattle.wq_replay.specs.declared.happening.Happening.TheVariants.{Round, Ended}
use Rattle.wq_replay.specs.declared.sent.Sent.{Sent}
use Rattle.wq_replay.specs.declared.sent.Sent.TheVariants.{ToClient, OfRound}
use Rattle.wq_replay.specs.declared.world.World.{World}

-- the code means this world, and no call of it failed
pub record Stands (world : WorldData) (code : World) : Type 0 where
  pub run : world.run ≡ run_data code.views.run
  pub roots : IsTableOf world.events code.views.table
  pub shelf : world.shelf ≡ shelf_data code.shelf
  pub follows : (client : ℤ) → world.follows client ≡ follows_in client code.clients.items
  pub runs : world.runs ≡ runs_data code.runs
  pub refused : world.refused ≡ option_map refused_data code.views.refused
  pub whole : code.spent ≡ false

-- the listing of a root, or the fault of its reading
abbrev pub crawl_data : Result (Bor PassData) CrawlFault → Result PassData CrawlFault
crawl_data (Ok seen) = Ok seen.now
crawl_data (Err fault) = Err fault

-- a happening
abbrev pub happening_data : Happening → HappeningData
happening_data (Crawl root seen) = crawl root (crawl_data seen)
happening_data (Watch root seen) = watching root (crawl_data seen)
happening_data (Asked client ask) = asked client ask
happening_data (Idle client root) = idle client root
happening_data (Round root answers) = round root answers.items
happening_data (Ended run) = ended run

-- the lines that the server sends for one happening
abbrev pub sent_of : Sent → List SentData
sent_of (ToClient told) = sent_to told.client told.out
sent_of (OfRound lines) = map sent_note lines

-- the lines that the server sends for these happenings, in turn
abbrev pub all_sent : List Sent → List SentData
all_sent [] = []
all_sent (sent ∷ later) = sent_of sent ++ all_sent later

-- the lines that the server sends, if there are any
abbrev pub sent_if : Option Sent → List SentData
sent_if None = []
sent_if (Some sent) = sent_of sent

-- these happenings led a world to the one that the code means, and the server sent these lines
abbrev pub Leads : WorldData → List HappeningData → List SentData → World → Type 0
Leads first happenings sent code =
    (world : WorldData) × Runs first happenings sent world × Stands world code
