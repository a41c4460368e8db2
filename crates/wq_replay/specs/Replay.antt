-- The lines that the replay of a script writes, and its end.
-- It is this server's own.
use Rattle.std.specs.Prelude.{◌≡◌, ◌≢◌, ◌≤◌, ◌<◌, ◌⊎◌, ℕ, suc, ◌+◌, ℤ, Bool, true, false, List, [], ◌∷◌, ◌++◌}
use Rattle.std.specs.Prelude.{length, map, codes, bytes_eq, All, if◌then◌else◌, Option, Some, None, Result, Ok, Err}
use Rattle.std.specs.Fmt.{signed_decimal}
use Rattle.std.specs.List.{list_any}
use Rattle.std.specs.Io.KnownBytes.{Appends}
use Rattle.std.specs.Str.{is_utf8}
use Rattle.wq_base.specs.Byte.{newline}
use Rattle.wq_base.specs.Writing.{WritesFront}
use Rattle.wq_stream.specs.declared.event.Event.{Event}
use Rattle.wq_live.specs.Event.{IsLawfulList}
use Rattle.wq_crawl.specs.Need.{NeedData, crawl as crawl_of, watch as watch_of}
use Rattle.wq_session.specs.Need.{need_of}
use Rattle.wq_ask.specs.Reading.{Asks}
use Rattle.wq_ask.specs.declared.ask.Ask.{Ask}
use Rattle.wq_crawl.specs.declared.fault.CrawlFault.{CrawlFault}
use Rattle.wq_crawl.specs.declared.fault.CrawlFault.TheVariants.{Tree}
use Rattle.wq_patch.specs.declared.tree.TreeFault.TheVariants.{Unreadable}
use Rattle.wq_view.specs.Listing.{PassData}
use Rattle.wq_replay.specs.Limit.{max_script}
use Rattle.wq_replay.specs.Line.{lines_of}
use Rattle.wq_replay.specs.Numbers.{answers_for}
use Rattle.wq_replay.specs.Client.{root_numbers_of}
use Rattle.wq_replay.specs.Rounds.{trigger_run}
use Rattle.wq_replay.specs.Stage.{StageData, Turn, drafts, lists, hears, rests, fires, finishes}
use Rattle.wq_replay.specs.Stage.{given_out, malformed, start, turn_of}
use Rattle.wq_replay.specs.World.{WorldData, HappeningData, crawl, watching, asked, idle, round}
use Rattle.wq_replay.specs.World.{ended, SentData}
use Rattle.wq_replay.specs.Playing.{Runs}
use Rattle.wq_replay.specs.World.{root_text}
use Rattle.wq_replay.specs.declared.fault.ReplayFault.{ReplayFault}
use Rattle.wq_replay.specs.declared.fault.ReplayFault.TheVariants.{Line, Read, Write, Memory}

-- the line that is written for one that is sent: the client's number with a space, if there is a
-- client, and the text
abbrev pub sent_line : Option ℤ → List ℕ → List ℕ
sent_line (Some client) text = signed_decimal client ++ (codes " " ++ (text ++ codes "\n"))
sent_line None text = text ++ codes "\n"

-- the lines that are written for those that are sent
abbrev pub sent_lines : List SentData → List ℕ
sent_lines [] = []
sent_lines (sent ∷ later) = sent_line sent.client sent.text ++ sent_lines later

-- whether the server is to end
abbrev pub shuts : List SentData → Bool
shuts = list_any (λ sent. sent.shuts)

-- the happenings at the end of a listing of `/r`: a crawl of it, or none
abbrev pub crawled : Bool → PassData → List HappeningData
crawled crawls tree = if crawls then crawl root_text (Ok tree) ∷ [] else []

-- the listing of a root, if `/r` lists this: for `/r` it is this, and no other root can be read
abbrev pub listed_root : PassData → List ℕ → Result PassData CrawlFault
listed_root tree root = if bytes_eq root root_text then Ok tree else Err (Tree Unreadable)

-- the happenings before an ask, if `/r` lists this: the crawl or the watching that the ask needs,
-- if any
abbrev pub needed : PassData → NeedData → List HappeningData
needed tree (crawl_of root) = crawl root (listed_root tree root) ∷ []
needed tree (watch_of root) = watching root (listed_root tree root) ∷ []
needed tree _ = []

-- a client is heard: the server sends these lines, and this is the world after it
pub record IsHeard (stage : StageData) (client : ℤ) (event : Event) (sent : List SentData)
    (after : WorldData) : Type 0 where
  pub ask : Ask
  pub asks : Asks event ask
  pub runs : Runs stage.world (needed stage.tree (need_of ask) ++ asked client ask ∷ []) sent after

-- the happenings if a client has an idle moment of each root that it is subscribed to
abbrev pub moments : ℤ → WorldData → List HappeningData
moments client world = map (idle client) (root_numbers_of (world.follows client))

-- the happenings if the triggers of `/r` have a round with these answers of the launcher
abbrev pub rounds : List (Option ℕ) → List HappeningData
rounds answers = round root_text answers ∷ []

-- the happening that a run has ended, if there is a run
abbrev pub end_if : Option ℕ → List HappeningData
end_if None = []
end_if (Some run) = ended run ∷ []

-- the happenings if the command of the trigger of `/r` of this name has ended. There are none if
-- the name is no text, or if there is no run
abbrev pub ends_of : List ℕ → WorldData → List HappeningData
ends_of name world = if is_utf8 name then end_if (trigger_run root_text name world) else []

-- all these happenings come at a stage: these lines are written, and this is the stage after them
abbrev pub DoesAll : StageData → List HappeningData → List ℕ → StageData → Type 0
DoesAll stage happenings written after = (sent : List SentData) × (world : WorldData)
    × Runs stage.world happenings sent world
    × (written ≡ sent_lines sent) × (after ≡ record stage { world = world })

-- a line takes the script from a stage to the next, these lines are written, and the server goes
-- on. A malformed line leads nowhere
abbrev pub DoesLine : StageData → Turn → List ℕ → StageData → Type 0
DoesLine stage (drafts draft) written after =
    (written ≡ []) × (after ≡ record stage { draft = Some draft })
DoesLine stage (lists crawls tree) written after =
    (world : WorldData) × Runs stage.world (crawled crawls tree) [] world
    × (written ≡ []) × (after ≡ record stage { world = world; tree = tree; draft = None })
DoesLine stage (hears client event) written after =
    (sent : List SentData) × (world : WorldData) × IsHeard stage client event sent world
    × (shuts sent ≡ false) × (written ≡ sent_lines sent) × (after ≡ record stage { world = world })
DoesLine stage (rests client) written after =
    DoesAll stage (moments client stage.world) written after
DoesLine stage (fires succeeds) written after =
    DoesAll (given_out succeeds stage) (rounds (answers_for succeeds stage.next)) written after
DoesLine stage (finishes name) written after =
    DoesAll stage (ends_of name stage.world) written after
DoesLine stage malformed written after = ⊥

-- these lines take the script in turn from a stage to another, and this is written
abbrev pub Plays : StageData → List (List ℕ) → List ℕ → StageData → Type 0
Plays stage [] written after = (written ≡ []) × (after ≡ stage)
Plays stage (line ∷ lines) written after = (next : StageData) × (first later : List ℕ)
    × DoesLine stage (turn_of stage line) first next × (written ≡ first ++ later)
    × Plays next lines later after

-- the lines of a script make one run of its world, and each reply of that run is written
abbrev pub ScriptsAreRuns : Type 0
ScriptsAreRuns = (stage after : StageData) (lines : List (List ℕ)) (written : List ℕ)
    → Plays stage lines written after → (happenings : List HappeningData) × (sent : List SentData)
    × Runs stage.world happenings sent after.world × (written ≡ sent_lines sent)

-- so many first lines of a script were played, and their replies were written. The script is at
-- this stage now, and these lines are left
pub record FirstLines (script : List ℕ) (before after : Option (List ℕ)) (count : ℕ)
    (at : StageData) (left : List (List ℕ)) : Type 0 where
  pub first : List (List ℕ)
  pub written : List ℕ
  pub lines : lines_of script ≡ first ++ left
  pub count_is : length first ≡ count
  pub plays : Plays start first written at
  pub appends : Appends before after written
  pub lawful : IsLawfulList (at.world).events

-- a reader was left within the first line of some bytes: the bytes that were taken have no newline
abbrev pub StopsWithin : List ℕ → Option (List ℕ) → Type 0
StopsWithin bytes rest = (taken left : List ℕ) × (rest ≡ Some left) × (bytes ≡ taken ++ left)
    × All (λ byte. byte ≢ newline) taken

-- a client was heard, and the server is to end: its reply was written
abbrev pub Shuts : StageData → Turn → Option (List ℕ) → Option (List ℕ) → Type 0
Shuts stage (hears client event) before after =
    (sent : List SentData) × (world : WorldData) × IsHeard stage client event sent world
    × (shuts sent ≡ true) × Appends before after (sent_lines sent)
Shuts _ _ _ _ = ⊥

-- all these happenings came at a stage, and a front of the lines to send was written, but not all
abbrev pub StopsAll : StageData → List HappeningData → Option (List ℕ) → Option (List ℕ) → Type 0
StopsAll stage happenings before after = (sent : List SentData) × (world : WorldData)
    × Runs stage.world happenings sent world × WritesFront before after (sent_lines sent)

-- a line was played, and a front of the lines to send was written, but not all
abbrev pub StopsWriting : StageData → Turn → Option (List ℕ) → Option (List ℕ) → Type 0
StopsWriting stage (hears client event) before after =
    (sent : List SentData) × (world : WorldData) × IsHeard stage client event sent world
    × WritesFront before after (sent_lines sent)
StopsWriting stage (rests client) before after =
    StopsAll stage (moments client stage.world) before after
StopsWriting stage (fires succeeds) before after =
    StopsAll stage (rounds (answers_for succeeds stage.next)) before after
StopsWriting stage (finishes name) before after =
    StopsAll stage (ends_of name stage.world) before after
StopsWriting _ _ _ _ = ⊥

-- all lines were played, the script is within its limit, and was read to its end
abbrev pub EndsAll : List ℕ → Option (List ℕ) → Option (List ℕ) → Option (List ℕ) → Type 0
EndsAll script before after rest =
    (length script ≤ max_script) × (count : ℕ) × (at : StageData)
    × FirstLines script before after count at [] × (rest ≡ Some [])

-- some first lines were played, and the next one ends the server. Nothing after that line was read
abbrev pub EndsServer : List ℕ → Option (List ℕ) → Option (List ℕ) → Option (List ℕ) → Type 0
EndsServer script before after rest =
    (count : ℕ) × (at : StageData) × (line : List ℕ) × (left : List ℕ)
    × (between : Option (List ℕ)) × (rest ≡ Some left)
    × FirstLines script before between count at (line ∷ lines_of left)
    × Shuts at (turn_of at line) between after

-- the lines before the one of this number were played, and it is malformed
abbrev pub EndsAtLine : ℕ → List ℕ → Option (List ℕ) → Option (List ℕ) → Type 0
EndsAtLine n script before after =
    (count : ℕ) × (at : StageData) × (line : List ℕ) × (later : List (List ℕ)) × (n ≡ suc count)
    × FirstLines script before after count at (line ∷ later) × (turn_of at line ≡ malformed)

-- some first lines were played, up to which the script is within its limit. The next one takes it
-- over the limit, and nothing after that line was read
abbrev pub EndsTooLong : List ℕ → Option (List ℕ) → Option (List ℕ) → Option (List ℕ) → Type 0
EndsTooLong script before after rest =
    (count : ℕ) × (at : StageData) × (bytes left : List ℕ) × (rest ≡ Some left)
    × FirstLines script before after count at (lines_of bytes)
    × (length script ≤ max_script + length bytes) × (max_script + length left < length script)

-- some first lines were played, and the next one was not taken to its end
abbrev pub EndsReading : List ℕ → Option (List ℕ) → Option (List ℕ) → Option (List ℕ) → Type 0
EndsReading script before after rest = (count : ℕ) × (at : StageData) × (bytes : List ℕ)
    × FirstLines script before after count at (lines_of bytes) × StopsWithin bytes rest

-- some first lines were played. A front of the lines to send for the next one was written, but not
-- all
abbrev pub EndsWriting : List ℕ → Option (List ℕ) → Option (List ℕ) → Type 0
EndsWriting script before after =
    (count : ℕ) × (at : StageData) × (line : List ℕ) × (later : List (List ℕ))
    × (between : Option (List ℕ)) × FirstLines script before between count at (line ∷ later)
    × StopsWriting at (turn_of at line) between after

-- some first lines were played, and the next one, which is not malformed, wrote nothing
abbrev pub EndsDoing : List ℕ → Option (List ℕ) → Option (List ℕ) → Type 0
EndsDoing script before after =
    (count : ℕ) × (at : StageData) × (line : List ℕ) × (later : List (List ℕ))
    × FirstLines script before after count at (line ∷ later) × (turn_of at line ≢ malformed)

-- the end of a replay, by the bytes that the writer held before and after, and by the bytes that
-- are left to read
abbrev pub Ends : List ℕ → Option (List ℕ) → Option (List ℕ) → Option (List ℕ)
    → Result (Unit {0}) ReplayFault → Type 0
Ends script before after rest (Ok _) =
    EndsAll script before after rest ⊎ EndsServer script before after rest
Ends script before after rest (Err (Line n)) = EndsAtLine n script before after
Ends script before after rest (Err Read) =
    EndsReading script before after rest ⊎ EndsTooLong script before after rest
Ends script before after rest (Err Write) = EndsWriting script before after
Ends script before after rest (Err Memory) =
    EndsReading script before after rest ⊎ EndsDoing script before after
