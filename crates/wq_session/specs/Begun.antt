-- The beginnings of asks while the shelf is held: the tables of the commands.
-- From Watchman's documentation of its commands; those of programs are this server's own.
use Rattle.std.specs.Prelude.{ℕ, List, Bool, true, false, not, Option, Result, Ok, Err}
use Rattle.serde_json.specs.Data.{Data}
use Rattle.serde_json.specs.View.{view as data_of}
use Rattle.wq_base.specs.Fault.{or_fault}
use Rattle.wq_session.specs.Out.{refuses, replies, shuts_with, silence}
use Rattle.wq_ask.specs.Refusal.{ends_session}
use Rattle.wq_ask.specs.Server.{shutdown_data, version_data}
use Rattle.wq_ask.specs.declared.ask.Ask.{Ask}
use Rattle.wq_ask.specs.declared.ask.Ask.TheVariants.{Alone, OfRoot, OfShelf, Unwatch, Watch}
use Rattle.wq_ask.specs.declared.ask.LoneAsk.{LoneAsk}
use Rattle.wq_ask.specs.declared.ask.LoneAsk.TheVariants.{Leave, Nothing, Refused, ShutDown, Version}
use Rattle.wq_ask.specs.declared.ask.RootAsk.{RootAsk}
use Rattle.wq_ask.specs.declared.ask.RootAsk.TheVariants.{AddTrigger, DeleteTrigger, Query}
use Rattle.wq_ask.specs.declared.ask.RootAsk.TheVariants.{Reads as ReadsRoot, Subscribe, Unsubscribe}
use Rattle.wq_ask.specs.declared.ask.RootRead.{RootRead}
use Rattle.wq_ask.specs.declared.ask.RootRead.TheVariants.{Clock, ListTriggers}
use Rattle.wq_ask.specs.declared.ask.ShelfAsk.{ShelfAsk}
use Rattle.wq_ask.specs.declared.ask.ShelfAsk.TheVariants.{AddProgram, DeleteProgram}
use Rattle.wq_ask.specs.declared.ask.ShelfAsk.TheVariants.{Reads as ReadsShelf}
use Rattle.wq_ask.specs.declared.ask.ShelfRead.{ShelfRead}
use Rattle.wq_ask.specs.declared.ask.ShelfRead.TheVariants.{ListPrograms, ListRoots, SocketName}
use Rattle.wq_ask.specs.declared.refusal.Refusal.{Refusal}
use Rattle.wq_ask.specs.declared.refusal.Refusal.TheVariants.{NotWatched}
use Rattle.wq_crawl.specs.At.{AtData}
use Rattle.wq_session.specs.At.{ShelfNow, watched}
use Rattle.wq_session.specs.Clock.{clock_at}
use Rattle.wq_session.specs.Program.{begun_add, begun_delete, programs_on}
use Rattle.wq_session.specs.Subscribe.{begun_subscribe, begun_unsubscribe}
use Rattle.wq_session.specs.Query.{begun_query}
use Rattle.wq_session.specs.Trigger.{begun_delete_trigger, begun_trigger, triggers_at}
use Rattle.wq_session.specs.Server.{socket_on}
use Rattle.wq_session.specs.Watch.{begun_unwatch, begun_watch, roots_on}
use Rattle.wq_session.specs.Work.{BegunData, replying, saying}

-- the reply to an ask that reads of the root that is looked at
abbrev pub reply_at : RootRead → AtData → ShelfNow → Result Data Refusal
reply_at Clock at shelf = clock_at at
reply_at ListTriggers at shelf = Ok (triggers_at at shelf)

-- the beginning of an ask of the root with this text, which is the one that is looked at
abbrev pub begun_there : RootAsk → List ℕ → AtData → ShelfNow → Result BegunData Refusal
begun_there (ReadsRoot what) root at shelf = replying (reply_at what at shelf) shelf
begun_there (Query q) root at shelf = begun_query (data_of q) at shelf
begun_there (Subscribe name q) root at shelf = begun_subscribe root name (data_of q) at shelf
begun_there (Unsubscribe name) root at shelf = begun_unsubscribe name at shelf
begun_there (AddTrigger trigger) root at shelf = begun_trigger root (data_of trigger) at shelf
begun_there (DeleteTrigger name) root at shelf = begun_delete_trigger name at shelf

-- the beginning of an ask of a root, which is to be the one that is looked at
abbrev pub begun_of_root : RootAsk → List ℕ → Option AtData → ShelfNow → Result BegunData Refusal
begun_of_root what root at shelf =
    or_fault NotWatched (watched root at shelf) (λ at. begun_there what root at shelf)

-- the reply to an ask that reads the shelf
abbrev pub reply_on : ShelfRead → ShelfNow → Data
reply_on ListRoots shelf = roots_on shelf
reply_on SocketName shelf = socket_on shelf
reply_on ListPrograms shelf = programs_on shelf

-- the beginning of an ask of the shelf
abbrev pub begun_on_shelf : ShelfAsk → ShelfNow → Result BegunData Refusal
begun_on_shelf (ReadsShelf what) shelf = replying (Ok (reply_on what shelf)) shelf
begun_on_shelf (AddProgram name program) shelf = begun_add name program shelf
begun_on_shelf (DeleteProgram name) shelf = begun_delete name shelf

-- the beginning of an ask whose answer is always the same
abbrev pub begun_alone : LoneAsk → ShelfNow → Result BegunData Refusal
begun_alone (Refused refusal) shelf = Err refusal
begun_alone Version shelf = Ok (saying (replies version_data) shelf)
begun_alone ShutDown shelf = Ok (saying (shuts_with shutdown_data) shelf)
begun_alone Leave shelf = Ok (saying (silence false) shelf)
begun_alone Nothing shelf = Ok (saying (silence true) shelf)

-- the beginning of an ask at a root that is looked at and a shelf, or the reason to refuse the line
-- there
abbrev pub begun_ask : Ask → Option AtData → ShelfNow → Result BegunData Refusal
begun_ask (Watch root) at shelf = begun_watch root at shelf
begun_ask (Unwatch root) at shelf = begun_unwatch root at shelf
begun_ask (OfRoot root crawl what) at shelf = begun_of_root what root at shelf
begun_ask (OfShelf what) at shelf = begun_on_shelf what shelf
begun_ask (Alone what) at shelf = begun_alone what shelf

-- the work that was begun, or the refusal of the line, which leaves the shelf
abbrev pub or_refused : Result BegunData Refusal → ShelfNow → BegunData
or_refused (Ok b) shelf = b
or_refused (Err refusal) shelf = saying (refuses refusal) shelf

-- the work of an ask that is taken at a shelf, and the shelf then
abbrev pub taken_ask : Ask → Option AtData → ShelfNow → BegunData
taken_ask ask at shelf = or_refused (begun_ask ask at shelf) shelf

-- whether the beginning of an ask whose answer is always the same takes memory: a refusal may
abbrev pub lone_takes_memory : LoneAsk → Bool
lone_takes_memory (Refused refusal) = not (ends_session refusal)
lone_takes_memory _ = false

-- whether the beginning of an ask takes memory: fixed replies take none
abbrev pub takes_memory : Ask → Bool
takes_memory (Alone what) = lone_takes_memory what
takes_memory _ = true
