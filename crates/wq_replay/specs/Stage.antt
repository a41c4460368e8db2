-- The stage of a script, and the effect of its next line there.
-- It is this server's own.
use Rattle.std.specs.Prelude.{ℕ, ◌+◌, ℤ, pos, Bool, true, false, nat_le, if◌then◌else◌, List, [], ◌∷◌, ◌++◌, length, codes, Option, Some, None, is_none}
use Rattle.wq_stream.specs.Stream.{event_of}
use Rattle.wq_stream.specs.declared.event.Event.{Event}
use Rattle.wq_stream.specs.declared.event.Event.TheVariants.{End}
use Rattle.wq_record.specs.Seen.{SeenData}
use Rattle.wq_view.specs.Listing.{PassData, listing_of, listing_fault}
use Rattle.wq_replay.specs.Limit.{max_script_line}
use Rattle.wq_replay.specs.Numbers.{numbers_for}
use Rattle.wq_replay.specs.Script.{LineData, pass, tree, row, end, ask, leave, idle, fire, done}
use Rattle.wq_replay.specs.Script.{line_of}
use Rattle.wq_replay.specs.World.{WorldData, new_world}

-- a listing of `/r` that is open, and whether the root is crawled at its end
pub record DraftData : Type 0 where
  pub crawls : Bool
  pub second : ℤ
  pub rows : List SeenData

-- the world, the listing that a crawl of `/r` would give, the listing that is open, and the number
-- of the next run
pub record StageData : Type 0 where
  pub world : WorldData
  pub tree : PassData
  pub draft : Option DraftData
  pub next : ℕ

-- the effect of a line
pub data Turn : Type 0 where
  -- this is the open listing now
  drafts : DraftData → Turn
  -- `/r` lists this from now on, and is crawled or not
  lists : (crawls : Bool) → PassData → Turn
  -- a client is heard
  hears : (client : ℤ) → Event → Turn
  -- a client has an idle moment of each root that it is subscribed to
  rests : (client : ℤ) → Turn
  -- the triggers of `/r` have a round, in which each start succeeds, or each fails
  fires : (succeeds : Bool) → Turn
  -- the command of the trigger of `/r` of this name has ended
  finishes : (name : List ℕ) → Turn
  -- the line is malformed, and leads nowhere
  malformed : Turn

-- the server that a script plays: one that started at second 7 as process 9, and its socket
abbrev pub first_world : WorldData
first_world = new_world (record { start = 7; pid = 9 }) (codes "replay")

-- the listing of `/r` before a script gives one
abbrev pub no_tree : PassData
no_tree = listing_of [] (pos 0)

-- the first stage of a script
abbrev pub start : StageData
start = record { world = first_world; tree = no_tree; draft = None; next = 1 }

-- the stage after the numbers for a round were given out
abbrev pub given_out : Bool → StageData → StageData
given_out succeeds stage = record stage { next = stage.next + numbers_for succeeds stage.next }

-- a listing that begins
abbrev pub empty_draft : Bool → ℤ → DraftData
empty_draft crawls second = record { crawls = crawls; second = second; rows = [] }

-- a line outside of a listing
abbrev pub turn_outside : LineData → Turn
turn_outside (pass second) = drafts (empty_draft true second)
turn_outside (tree second) = drafts (empty_draft false second)
turn_outside (ask client line) = hears client (event_of line)
turn_outside (leave client) = hears client End
turn_outside (idle client) = rests client
turn_outside (fire succeeds) = fires succeeds
turn_outside (done name) = finishes name
turn_outside _ = malformed

-- the end of a listing. Unless it has a fault, `/r` lists it from now on
abbrev pub turn_at_end : DraftData → Turn
turn_at_end draft =
    if is_none (listing_fault draft.rows draft.second)
    then lists draft.crawls (listing_of draft.rows draft.second) else malformed

-- a line of a listing
abbrev pub turn_inside : DraftData → LineData → Turn
turn_inside draft (row r) = drafts (record draft { rows = draft.rows ++ r ∷ [] })
turn_inside draft end = turn_at_end draft
turn_inside _ _ = malformed

-- a line, with a listing open or none
abbrev pub turn_in : Option DraftData → LineData → Turn
turn_in None line = turn_outside line
turn_in (Some draft) line = turn_inside draft line

-- the bytes that were read of a line, if it was read
abbrev pub turn_at : Option DraftData → Option LineData → Turn
turn_at draft None = malformed
turn_at draft (Some line) = turn_in draft line

-- the effect of a line at a stage. A line over the limit is malformed
abbrev pub turn_of : StageData → List ℕ → Turn
turn_of stage line =
    if nat_le (length line) max_script_line then turn_at stage.draft (line_of line) else malformed
