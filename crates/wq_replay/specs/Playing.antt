-- The happenings of a world in turn, and the lines that the server sends for them.
-- It is this server's own.
use Rattle.std.specs.Prelude.{◌≡◌, ℕ, ℤ, Bool, false, List, [], ◌∷◌, ◌++◌, map}
use Rattle.std.specs.Prelude.{Option, Some, None}
use Rattle.wq_session.specs.Out.{OutData}
use Rattle.wq_replay.specs.Gets.{Gets, Rests}
use Rattle.wq_replay.specs.Rounds.{Rounds, without_running}
use Rattle.wq_replay.specs.World.{WorldData, HappeningData, crawl, watching, asked, idle, round}
use Rattle.wq_replay.specs.World.{ended, SentData, Crawls, Watches}

-- the line of a reply, if there is one
abbrev pub sent_for : ℤ → Bool → Option (List ℕ) → List SentData
sent_for client shuts None = []
sent_for client shuts (Some text) =
    record { client = Some client; text = text; shuts = shuts } ∷ []

-- a list that the server sends. It never ends the server
abbrev pub sent_list : ℤ → List ℕ → SentData
sent_list client text = record { client = Some client; text = text; shuts = false }

-- the lines to a client: the reply, if there is one, and then each list
abbrev pub sent_to : ℤ → OutData → List SentData
sent_to client out = sent_for client out.shuts out.reply ++ map (sent_list client) out.lists

-- a happening comes: the server sends these lines, and this is the world after it
abbrev pub Happens : WorldData → HappeningData → List SentData → WorldData → Type 0
Happens world (crawl root seen) sent after = (sent ≡ []) × Crawls world root seen after
Happens world (watching root seen) sent after = (sent ≡ []) × Watches world root seen after
Happens world (asked client ask) sent after =
    (out : OutData) × Gets client world ask out after × (sent ≡ sent_to client out)
Happens world (idle client root) sent after =
    (out : OutData) × Rests client root world out after × (sent ≡ sent_to client out)
Happens world (round root answers) sent after = Rounds root answers world sent after
Happens world (ended run) sent after = (sent ≡ []) × (after ≡ without_running run world)

-- these happenings come in turn
abbrev pub Runs : WorldData → List HappeningData → List SentData → WorldData → Type 0
Runs world [] sent after = (sent ≡ []) × (after ≡ world)
Runs world (happening ∷ later) sent after =
    (next : WorldData) × (first rest : List SentData) × Happens world happening first next
    × (sent ≡ first ++ rest) × Runs next later rest after

-- two runs, one after the other, are one run
abbrev pub RunsGoOn : Type 0
RunsGoOn = (world between after : WorldData) (first later : List HappeningData)
    (sent rest : List SentData) → Runs world first sent between → Runs between later rest after
    → Runs world (first ++ later) (sent ++ rest) after
