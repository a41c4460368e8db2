-- The lines about the starts of commands.
-- They are this server's own.
use Rattle.std.specs.Prelude.{ℕ, List, [], ◌∷◌, ◌++◌, map, codes, Option, Some, None}
use Rattle.json.specs.Token.{Token, key, string as string_token}
use Rattle.serde_json.specs.Data.{Data, string, array, object, Members, no_members, member}
use Rattle.serde_json.specs.View.{items_of}
use Rattle.serde_json.specs.Written.{compact_text}
use Rattle.wq_follow.specs.Launcher.{TriedData}
use Rattle.wq_follow.specs.Start.{StartData, vars_of}

-- texts as a JSON list
abbrev pub texts_data : List (List ℕ) → Data
texts_data texts = array (items_of (map string texts))

-- variables as the members of an object
abbrev pub vars_members : List (List ℕ × List ℕ) → Members
vars_members [] = no_members
vars_members (v ∷ vars) = member v.0 (string v.1) (vars_members vars)

-- the tokens of these members of an object
abbrev pub var_tokens : List (List ℕ × List ℕ) → List Token
var_tokens [] = []
var_tokens (v ∷ vars) = key v.0 ∷ string_token v.1 ∷ var_tokens vars

-- a start as an object, whose keys are in byte order
abbrev pub start_object : StartData → Data
start_object start =
    object (member (codes "args") (texts_data start.args)
    (member (codes "env") (object (vars_members (vars_of start.env)))
    (member (codes "name") (string (start.env).trigger)
    (member (codes "stdin") (string start.input) no_members))))

-- the text about a start that succeeded
abbrev pub started_text : StartData → List ℕ
started_text start = codes "start " ++ compact_text (start_object start)

-- the text about a start that failed
abbrev pub failed_text : StartData → List ℕ
failed_text start = codes "failed " ++ (start.env).trigger

-- the text about a start with this run, or without one
abbrev pub text_about : StartData → Option ℕ → List ℕ
text_about start (Some run) = started_text start
text_about start None = failed_text start

-- the text about a start that was tried
abbrev pub tried_text : TriedData → List ℕ
tried_text tried = text_about tried.start tried.run
