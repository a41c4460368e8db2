-- `version`, `get-sockname` and `shutdown-server`, the server itself: their requests and their
-- replies.
-- From Watchman's documentation of these commands.
use Rattle.std.specs.Prelude.{ℕ, true, List, codes, Result, Ok}
use Rattle.serde_json.specs.Data.{Data, boolean, string, object, Items, no_members, member}
use Rattle.wq_base.specs.Fault.{unless_fault}
use Rattle.wq_base.specs.Version.{version}
use Rattle.wq_ask.specs.Argument.{RequestData, complete, are_none, are_options}
use Rattle.wq_ask.specs.declared.ask.Ask.TheVariants.{Alone, OfShelf}
use Rattle.wq_ask.specs.declared.ask.LoneAsk.TheVariants.{ShutDown, Version}
use Rattle.wq_ask.specs.declared.ask.ShelfAsk.TheVariants.{Reads}
use Rattle.wq_ask.specs.declared.ask.ShelfRead.TheVariants.{SocketName}
use Rattle.wq_ask.specs.declared.refusal.Refusal.{Refusal}
use Rattle.wq_ask.specs.declared.refusal.Refusal.TheVariants.{WrongArguments}

-- `version` requests the version
abbrev pub version_request : Items → Result RequestData Refusal
version_request arguments =
    unless_fault WrongArguments (are_options arguments) (Ok (complete (Alone Version)))

-- `get-sockname` requests the name of the server's socket
abbrev pub socket_request : Items → Result RequestData Refusal
socket_request arguments =
    unless_fault WrongArguments (are_none arguments) (Ok (complete (OfShelf (Reads SocketName))))

-- `shutdown-server` requests that the server ends
abbrev pub shutdown_request : Items → Result RequestData Refusal
shutdown_request arguments =
    unless_fault WrongArguments (are_none arguments) (Ok (complete (Alone ShutDown)))

-- the reply with the version alone
abbrev pub version_data : Data
version_data = object (member (codes "version") (string version) no_members)

-- the reply with the name of the server's socket
abbrev pub socket_data : List ℕ → Data
socket_data name =
    object (member (codes "sockname") (string name)
    (member (codes "version") (string version) no_members))

-- the reply that the server ends
abbrev pub shutdown_data : Data
shutdown_data =
    object (member (codes "shutdown-server") (boolean true)
    (member (codes "version") (string version) no_members))
