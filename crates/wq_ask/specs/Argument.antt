-- The arguments that may follow the name of a command, and the request of a line with them.
-- From Watchman's documentation of its commands.
use Rattle.std.specs.Prelude.{ℕ, Bool, true, false, List, Option, Some, None}
use Rattle.serde_json.specs.Data.{Data, string, object, Items, no_items, item}
use Rattle.wq_ask.specs.declared.ask.Ask.{Ask}

-- the request of a line, before the program that the line adds, if it adds one, is read
pub data RequestData : Type 0 where
  -- this ask, of which nothing is left to read
  complete : Ask → RequestData
  -- the files of a root that an object asks for, and whether the server crawls the root first
  queries : (root : List ℕ) → (crawl : Bool) → Data → RequestData
  -- the server tells the client of the files of a root that an object asks for, under a name
  subscribes : (root : List ℕ) → (name : List ℕ) → Data → RequestData
  -- the server starts a command for the files of a root, as an object says
  triggers : (root : List ℕ) → Data → RequestData
  -- the server keeps the program of a file under a name
  adds : (name : List ℕ) → (file : List ℕ) → RequestData

-- the items after the first
abbrev pub behind : Items → Items
behind no_items = no_items
behind (item d ds) = ds

-- whether there is no argument
abbrev pub are_none : Items → Bool
are_none no_items = true
are_none _ = false

-- whether there is no argument, or one object
abbrev pub are_options : Items → Bool
are_options no_items = true
are_options (item (object _) no_items) = true
are_options _ = false

-- one text
abbrev pub one_text : Items → Option (List ℕ)
one_text (item (string text) no_items) = Some text
one_text _ = None

-- two texts
abbrev pub two_texts : Items → Option (List ℕ × List ℕ)
two_texts (item (string first) (item (string second) no_items)) = Some (first, second)
two_texts _ = None
