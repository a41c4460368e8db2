-- The reply to `get-sockname`, the name of the server's socket.
-- From Watchman's documentation of this command.
use Rattle.serde_json.specs.Data.{Data}
use Rattle.wq_ask.specs.Server.{socket_data}
use Rattle.wq_session.specs.At.{ShelfNow}

-- the reply to `get-sockname`
abbrev pub socket_on : ShelfNow → Data
socket_on shelf = socket_data shelf.sockname
