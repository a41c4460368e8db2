-- `watch`, `watch-project`, `watch-list` and `watch-del`, by which the server watches roots: their
-- requests and their replies.
-- From Watchman's documentation of these commands.
use Rattle.std.specs.Prelude.{ℕ, true, List, codes, map, Result, Ok}
use Rattle.serde_json.specs.Data.{Data, boolean, string, array, object, Items, no_members, member}
use Rattle.serde_json.specs.View.{items_of}
use Rattle.wq_base.specs.Fault.{or_fault, unless_fault}
use Rattle.wq_base.specs.Version.{version}
use Rattle.wq_ask.specs.Argument.{RequestData, complete, are_none, one_text}
use Rattle.wq_ask.specs.Root.{is_absolute, root_named}
use Rattle.wq_ask.specs.declared.ask.Ask.TheVariants.{OfShelf, Unwatch, Watch}
use Rattle.wq_ask.specs.declared.ask.ShelfAsk.TheVariants.{Reads}
use Rattle.wq_ask.specs.declared.ask.ShelfRead.TheVariants.{ListRoots}
use Rattle.wq_ask.specs.declared.refusal.Refusal.{Refusal}
use Rattle.wq_ask.specs.declared.refusal.Refusal.TheVariants.{WrongArguments, RootNotAbsolute}

-- `watch` and `watch-project` request that the server watches an absolute root
abbrev pub watch_request : Items → Result RequestData Refusal
watch_request arguments =
    or_fault WrongArguments (one_text arguments) (λ root.
    unless_fault RootNotAbsolute (is_absolute root) (
    Ok (complete (Watch (root_named root)))))

-- `watch-list` requests the watched roots
abbrev pub list_request : Items → Result RequestData Refusal
list_request arguments =
    unless_fault WrongArguments (are_none arguments) (Ok (complete (OfShelf (Reads ListRoots))))

-- `watch-del` requests that the server no longer watches a root
abbrev pub unwatch_request : Items → Result RequestData Refusal
unwatch_request arguments =
    or_fault WrongArguments (one_text arguments) (λ root.
    Ok (complete (Unwatch (root_named root))))

-- the reply that a root is watched: the server lists it again and again
abbrev pub watch_data : List ℕ → Data
watch_data root =
    object (member (codes "version") (string version)
    (member (codes "watch") (string root)
    (member (codes "watcher") (string (codes "poll")) no_members)))

-- the reply with the watched roots
abbrev pub roots_data : List (List ℕ) → Data
roots_data roots =
    object (member (codes "roots") (array (items_of (map string roots)))
    (member (codes "version") (string version) no_members))

-- the reply that a root is no longer watched
abbrev pub root_deleted_data : List ℕ → Data
root_deleted_data root =
    object (member (codes "root") (string root)
    (member (codes "version") (string version)
    (member (codes "watch-del") (boolean true) no_members)))
