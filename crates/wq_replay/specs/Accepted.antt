-- The accepted calls of the shelf for the happenings in a world. The shelf of the world is the
-- result of these calls.
-- It is this server's own.
use Rattle.std.specs.Prelude.{◌≡◌, ◌⊎◌, List, [], ◌∷◌, ◌++◌, false, Option, Some, None, ℕ, ℤ}
use Rattle.wq_clock.specs.Run.{RunData, instance_of}
use Rattle.wq_live.specs.Table.{RootView, TableData, IsTableOf, root_by_text}
use Rattle.wq_registry.specs.History.{adds_root, after_all}
use Rattle.wq_registry.specs.Shelf.{blank}
use Rattle.wq_session.specs.Out.{MayRefuse, OutData}
use Rattle.wq_session.specs.Need.{need_of}
use Rattle.wq_ask.specs.declared.ask.Ask.{Ask}
use Rattle.wq_session.specs.Accepted.{CallNow, Accepts}
use Rattle.wq_session.specs.Crawl.{crawl_refusal}
use Rattle.wq_session.specs.Round.{turn_calls}
use Rattle.wq_crawl.specs.declared.fault.CrawlFault.{CrawlFault}
use Rattle.wq_ask.specs.declared.refusal.Refusal.TheVariants.{NoMemory}
use Rattle.wq_crawl.specs.Meets.{at_end, ending, fault_for, looked}
use Rattle.wq_replay.specs.Playing.{Happens, Runs, sent_to}
use Rattle.wq_replay.specs.Rounds.{HasRound}
use Rattle.wq_replay.specs.World.{WorldData, HappeningData, crawl, watching, asked, idle, round}
use Rattle.wq_replay.specs.World.{ended, SentData, new_world, root_text}

-- these are the accepted calls of a client's ask that ends the root of this number, or none. They
-- are the calls of its answer, at the root that it names or at the end of the root that it ends. If
-- memory ran out over that end, there are none
abbrev pub AcceptsAt : Option ℕ → TableData → ℤ → WorldData → Ask → OutData → List CallNow → Type 0
AcceptsAt None table client world ask out calls =
    Accepts false ask (looked (need_of ask) world.run table) world.shelf (world.follows client)
    out calls
AcceptsAt (Some number) table client world ask out calls =
    Accepts false ask (Some (at_end world.run number)) world.shelf (world.follows client) out calls
    ⊎ (MayRefuse NoMemory out × (calls ≡ []))

-- these are the accepted calls of an ask: none, if its crawl or watching was refused
abbrev pub AcceptsUnless : Option CrawlFault → TableData → ℤ → WorldData → Ask → OutData
    → List CallNow → Type 0
AcceptsUnless (Some fault) table client world ask out calls =
    MayRefuse (crawl_refusal fault) out × (calls ≡ [])
AcceptsUnless None table client world ask out calls =
    AcceptsAt (ending (need_of ask) table) table client world ask out calls

-- these are the accepted calls of a client's ask that got this in a world
abbrev pub AcceptsFor : ℤ → WorldData → Ask → OutData → List CallNow → Type 0
AcceptsFor client world ask out calls = (table : TableData) × IsTableOf world.events table
    × AcceptsUnless (fault_for (need_of ask) table world.refused) table client world ask out calls

-- these are the accepted calls of a round of a root, if it is shown. They put each trigger that had
-- a turn under its name again
abbrev pub AcceptsRound : Option RootView → List (Option ℕ) → WorldData → List SentData
    → List CallNow → Type 0
AcceptsRound None answers world sent calls = calls ≡ []
AcceptsRound (Some root) answers world sent calls = (after : WorldData)
    × (had : HasRound (instance_of world.run root.number) root.view answers world sent after)
    × (calls ≡ turn_calls root.number (had.round).turns)

-- these are the accepted calls of one happening
abbrev pub AcceptsOf : WorldData → HappeningData → List SentData → List CallNow → Type 0
AcceptsOf world (crawl root seen) sent calls = calls ≡ []
AcceptsOf world (watching root seen) sent calls = calls ≡ []
AcceptsOf world (asked client ask) sent calls =
    (out : OutData) × AcceptsFor client world ask out calls × (sent ≡ sent_to client out)
AcceptsOf world (idle client root) sent calls = calls ≡ []
AcceptsOf world (round root answers) sent calls = (table : TableData)
    × IsTableOf world.events table
    × AcceptsRound (root_by_text root table) answers world sent calls
AcceptsOf world (ended run) sent calls = calls ≡ []

-- these happenings come in turn, and these are the accepted calls of all of them. The calls of each
-- happening lead from the shelf before it to the shelf after it
abbrev pub RunsWith : WorldData → List HappeningData → List SentData → WorldData
    → List CallNow → Type 0
RunsWith world [] sent after calls = (sent ≡ []) × (after ≡ world) × (calls ≡ [])
RunsWith world (happening ∷ later) sent after calls =
    (next : WorldData) × (first rest : List SentData)
    × (now : List CallNow) × (behind : List CallNow)
    × Happens world happening first next × AcceptsOf world happening first now
    × (next.shelf ≡ after_all now world.shelf) × (sent ≡ first ++ rest)
    × (calls ≡ now ++ behind) × RunsWith next later rest after behind

-- the shelf of a world is the result of the accepted calls of all happenings, after the call for
-- the root of a new world
abbrev pub ShelvesAreCalls : Type 0
ShelvesAreCalls = (run : RunData) (sockname : List ℕ) (happenings : List HappeningData)
    (sent : List SentData) (after : WorldData) → Runs (new_world run sockname) happenings sent after
    → (calls : List CallNow) × RunsWith (new_world run sockname) happenings sent after calls
    × (after.shelf ≡ after_all (adds_root root_text 1 ∷ calls) (blank sockname))
