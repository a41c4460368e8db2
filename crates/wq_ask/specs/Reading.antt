-- The asks of the lines of a client: each line has a command, or a first reason to refuse it.
-- From Watchman's documentation of its commands. The refusals are this server's own.
use Rattle.std.specs.Prelude.{◌≡◌, ◌⊎◌, ℕ, if◌then◌else◌, List}
use Rattle.std.specs.Prelude.{Option, Some, None, Result, Ok, Err}
use Rattle.std.specs.Str.{is_utf8}
use Rattle.serde_json.specs.Data.{Data, string, array, Items, item}
use Rattle.serde_json.specs.Read.{read as read_text}
use Rattle.serde_json.specs.View.{view as data_of}
use Rattle.serde_json.specs.declared.value.Value.{Value}
use Rattle.wq_base.specs.Fault.{or_fault}
use Rattle.wq_code.specs.File.{file_at}
use Rattle.wq_code.specs.declared.raw.Raw.{Raw}
use Rattle.wq_code.specs.declared.fault.FileFault.{FileFault}
use Rattle.wq_stream.specs.declared.event.Event.{Event}
use Rattle.wq_stream.specs.declared.event.Event.TheVariants.{Line, Long, Binary, Idle, End, Fault}
use Rattle.wq_verify.specs.Typing.{IsFirstFault, IsValid}
use Rattle.wq_ask.specs.Argument.{RequestData, complete, queries, subscribes, triggers, adds}
use Rattle.wq_ask.specs.Clock.{clock_request}
use Rattle.wq_ask.specs.Command.{command_named}
use Rattle.wq_ask.specs.Program.{add_request, names_request, delete_request}
use Rattle.wq_ask.specs.Subscribe.{IsSubscribing, subscribe_request, unsubscribe_request}
use Rattle.wq_ask.specs.Trigger.{IsTriggering, trigger_request, list_triggers_request}
use Rattle.wq_ask.specs.Trigger.{delete_trigger_request}
use Rattle.wq_ask.specs.Query.{query_request, IsQuerying}
use Rattle.wq_ask.specs.Server.{version_request, socket_request, shutdown_request}
use Rattle.wq_ask.specs.Watch.{watch_request, list_request, unwatch_request}
use Rattle.wq_ask.specs.declared.ask.Ask.{Ask}
use Rattle.wq_ask.specs.declared.ask.Ask.TheVariants.{Alone, OfShelf}
use Rattle.wq_ask.specs.declared.ask.LoneAsk.TheVariants.{Refused, Leave, Nothing}
use Rattle.wq_ask.specs.declared.ask.ShelfAsk.TheVariants.{AddProgram as AsksAddProgram}
use Rattle.wq_ask.specs.declared.command.Command.{Command}
use Rattle.wq_ask.specs.declared.command.Command.TheVariants.{Watch, WatchProject, ListRoots}
use Rattle.wq_ask.specs.declared.command.Command.TheVariants.{Unwatch, DeleteProgram, Subscribe}
use Rattle.wq_ask.specs.declared.command.Command.TheVariants.{Query, Clock, Version, SocketName}
use Rattle.wq_ask.specs.declared.command.Command.TheVariants.{ShutDown, AddProgram, ListPrograms}
use Rattle.wq_ask.specs.declared.command.Command.TheVariants.{Unsubscribe, AddTrigger}
use Rattle.wq_ask.specs.declared.command.Command.TheVariants.{ListTriggers, DeleteTrigger}
use Rattle.wq_ask.specs.declared.refusal.Refusal.{Refusal}
use Rattle.wq_ask.specs.declared.refusal.Refusal.TheVariants.{LineTooLong, NotJson, NotACommand}
use Rattle.wq_ask.specs.declared.refusal.Refusal.TheVariants.{UnknownCommand, Bser}
use Rattle.wq_ask.specs.declared.refusal.Refusal.TheVariants.{WrongFile, WrongProgram, NoMemory}

-- a command's name with its arguments
pub record WordsData : Type 0 where
  pub name : List ℕ
  pub arguments : Items

-- the one JSON value of a line in UTF-8
abbrev pub value_of : List ℕ → Option Data
value_of line = if is_utf8 line then read_text line else None

-- the words of a value: an array headed by a text
abbrev pub words_of : Data → Option WordsData
words_of (array (item (string name) arguments)) =
    Some (record { name = name; arguments = arguments })
words_of _ = None

-- the request of a command with these arguments
abbrev pub request_of : Command → Items → Result RequestData Refusal
request_of Watch arguments = watch_request arguments
request_of WatchProject arguments = watch_request arguments
request_of ListRoots arguments = list_request arguments
request_of Unwatch arguments = unwatch_request arguments
request_of Query arguments = query_request arguments
request_of Clock arguments = clock_request arguments
request_of Version arguments = version_request arguments
request_of SocketName arguments = socket_request arguments
request_of ShutDown arguments = shutdown_request arguments
request_of AddProgram arguments = add_request arguments
request_of ListPrograms arguments = names_request arguments
request_of DeleteProgram arguments = delete_request arguments
request_of Subscribe arguments = subscribe_request arguments
request_of Unsubscribe arguments = unsubscribe_request arguments
request_of AddTrigger arguments = trigger_request arguments
request_of ListTriggers arguments = list_triggers_request arguments
request_of DeleteTrigger arguments = delete_trigger_request arguments

-- the request of the value of a line
abbrev pub request_of_value : Data → Result RequestData Refusal
request_of_value value =
    or_fault NotACommand (words_of value) (λ words.
    or_fault UnknownCommand (command_named words.name) (λ command.
    request_of command words.arguments))

-- the request of a line
abbrev pub requested : List ℕ → Result RequestData Refusal
requested line = or_fault NotJson (value_of line) request_of_value

-- the ask if the program of a file is to be kept: a program that may run, or the first fault of the
-- file or of its program
abbrev pub IsAdding : List ℕ → Result Raw FileFault → Ask → Type 0
IsAdding name (Err fault) ask = ask ≡ Alone (Refused (WrongFile fault))
IsAdding name (Ok raw) (OfShelf (AsksAddProgram n program)) =
    (n ≡ name) × (program ≡ raw) × IsValid raw
IsAdding name (Ok raw) (Alone (Refused (WrongProgram fault at))) = IsFirstFault raw fault at
IsAdding name (Ok raw) _ = ⊥

-- the ask of a request
abbrev pub IsRequested : Result RequestData Refusal → Ask → Type 0
IsRequested (Err refusal) ask = ask ≡ Alone (Refused refusal)
IsRequested (Ok (complete asked)) ask = ask ≡ asked
IsRequested (Ok (queries root crawl d)) ask = IsQuerying root crawl d ask
IsRequested (Ok (subscribes root name d)) ask = IsSubscribing root name d ask
IsRequested (Ok (triggers root d)) ask = IsTriggering root d ask
IsRequested (Ok (adds name file)) ask = IsAdding name (file_at file) ask

-- the result is the ask of a request, or memory ran out
abbrev pub Requests : Result RequestData Refusal → Result Ask Refusal → Type 0
Requests request (Ok ask) = IsRequested request ask
Requests request (Err NoMemory) = Unit {0}
Requests request (Err refusal) = IsRequested request (Alone (Refused refusal))

-- the line has this value, or no value; or memory ran out
abbrev pub GivesValue : Result Value Refusal → Option Data → Type 0
GivesValue (Ok value) said = said ≡ Some (data_of value)
GivesValue (Err NoMemory) _ = Unit {0}
GivesValue (Err refusal) said = (said ≡ None) × (refusal ≡ NotJson)

-- the ask of an event; for a line, memory may also run out
abbrev pub Asks : Event → Ask → Type 0
Asks (Line line) ask = IsRequested (requested line) ask ⊎ (ask ≡ Alone (Refused NoMemory))
Asks Long ask = ask ≡ Alone (Refused LineTooLong)
Asks Binary ask = ask ≡ Alone (Refused Bser)
Asks (Idle root) ask = ask ≡ Alone Nothing
Asks End ask = ask ≡ Alone Leave
Asks Fault ask = ask ≡ Alone Leave
