-- The output of a session for an event.
-- A reply to each line is from Watchman's documentation of its socket interface; the rest is this
-- server's own.
use Rattle.std.specs.Prelude.{◌≡◌, ◌⊎◌, ℕ, Bool, true, false, not, List, [], ◌∷◌}
use Rattle.std.specs.Prelude.{Option, Some, None}
use Rattle.serde_json.specs.Data.{Data}
use Rattle.serde_json.specs.Written.{compact_text}
use Rattle.wq_ask.specs.Reply.{error_data}
use Rattle.wq_base.specs.declared.asker.Unanswered.{Unanswered}
use Rattle.wq_base.specs.declared.asker.Unanswered.TheVariants.{Gone, NoMemory}
use Rattle.wq_session.specs.declared.cursor.Cursor.{Cursor}
use Rattle.wq_ask.specs.declared.refusal.Refusal.{Refusal}
use Rattle.wq_ask.specs.declared.refusal.Refusal.TheVariants.{NoMemory as ShortOfMemory}
use Rattle.wq_ask.specs.Refusal.{ends_session}

-- the output
pub record OutData : Type 0 where
  -- the text of the reply, without a newline
  pub reply : Option (List ℕ)
  -- the texts of the lists of subscriptions, which follow the reply
  pub lists : List (List ℕ)
  -- whether the session goes on
  pub goes_on : Bool
  -- whether the server is to end
  pub shuts : Bool
  -- the cursor that was moved for a reply, if memory ran out for that reply
  pub unset : Option Cursor

-- a text, and then the session goes on
abbrev pub saying_text : List ℕ → OutData
saying_text text = record {
  reply = Some text;
  lists = [];
  goes_on = true;
  shuts = false;
  unset = None;
}

-- a reply, and then the session goes on
abbrev pub replies : Data → OutData
replies d = saying_text (compact_text d)

-- the last reply of a session that ends the server
abbrev pub shuts_with : Data → OutData
shuts_with d = record {
  reply = Some (compact_text d);
  lists = [];
  goes_on = false;
  shuts = true;
  unset = None;
}

-- the reply that refuses a line
abbrev pub refuses : Refusal → OutData
refuses refusal = record {
  reply = Some (compact_text (error_data refusal));
  lists = [];
  goes_on = not (ends_session refusal);
  shuts = false;
  unset = None;
}

-- no reply, and whether the session goes on
abbrev pub silence : Bool → OutData
silence goes_on =
    record { reply = None; lists = []; goes_on = goes_on; shuts = false; unset = None }

-- memory ran out, with the cursor that was moved
abbrev pub runs_out : Option Cursor → OutData
runs_out cursor = record {
  reply = Some (compact_text (error_data ShortOfMemory));
  lists = [];
  goes_on = true;
  shuts = false;
  unset = cursor;
}

-- the client has gone: nothing is written for it, and its session ends; with the cursor that was
-- moved
abbrev pub gone : Option Cursor → OutData
gone cursor = record {
  reply = None;
  lists = [];
  goes_on = false;
  shuts = false;
  unset = cursor;
}

-- the possible outputs of a listing without a reply: memory ran out; or the client has gone, if it
-- may go
abbrev pub EndsListing : Bool → Option Cursor → OutData → Type 0
EndsListing false cursor out = out ≡ runs_out cursor
EndsListing true cursor out = (out ≡ runs_out cursor) ⊎ (out ≡ gone cursor)

-- the output for the reason why a search has no answer, with the cursor that was moved
abbrev pub unanswered : Unanswered → Option Cursor → OutData
unanswered Gone cursor = gone cursor
unanswered NoMemory cursor = runs_out cursor

-- a text and the list that follows it, and then the session goes on
abbrev pub saying_with : List ℕ → List ℕ → OutData
saying_with text list = record {
  reply = Some text;
  lists = list ∷ [];
  goes_on = true;
  shuts = false;
  unset = None;
}

-- a reply and the list that follows it, and then the session goes on
abbrev pub replies_with : Data → Data → OutData
replies_with d list = saying_with (compact_text d) (compact_text list)

-- lists alone, and then the session goes on
abbrev pub tells_lists : List (List ℕ) → OutData
tells_lists lists = record {
  reply = None;
  lists = lists;
  goes_on = true;
  shuts = false;
  unset = None;
}

-- the output with no cursor to unset
abbrev pub settled : OutData → OutData
settled out = record {
  reply = out.reply;
  lists = out.lists;
  goes_on = out.goes_on;
  shuts = out.shuts;
  unset = None;
}

-- the possible results of a refusal: the reply says it; or memory ran out, but not if the session
-- ends with it
abbrev pub MayRefuse : Refusal → OutData → Type 0
MayRefuse refusal out =
    (out ≡ refuses refusal) ⊎ ((ends_session refusal ≡ false) × (out ≡ runs_out None))
