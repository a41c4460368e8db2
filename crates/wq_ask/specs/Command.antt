-- The commands that a client may give, by their names.
-- From Watchman's documentation of its commands; those of programs are this server's own.
use Rattle.std.specs.Prelude.{ℕ, List, [], ◌∷◌, codes, Option}
use Rattle.wq_base.specs.Table.{named}
use Rattle.wq_ask.specs.declared.command.Command.{Command}
use Rattle.wq_ask.specs.declared.command.Command.TheVariants.{Watch, WatchProject, ListRoots}
use Rattle.wq_ask.specs.declared.command.Command.TheVariants.{Unwatch, DeleteProgram, Subscribe}
use Rattle.wq_ask.specs.declared.command.Command.TheVariants.{Query, Clock, Version, SocketName}
use Rattle.wq_ask.specs.declared.command.Command.TheVariants.{ShutDown, AddProgram, ListPrograms}
use Rattle.wq_ask.specs.declared.command.Command.TheVariants.{Unsubscribe, AddTrigger}
use Rattle.wq_ask.specs.declared.command.Command.TheVariants.{ListTriggers, DeleteTrigger}

-- every command
abbrev pub all_commands : List Command
all_commands =
    Watch ∷ WatchProject ∷ ListRoots ∷ Unwatch ∷ Query ∷ Clock ∷ Version ∷ SocketName ∷ ShutDown
    ∷ AddProgram ∷ ListPrograms ∷ DeleteProgram ∷ Subscribe ∷ Unsubscribe ∷ AddTrigger
    ∷ ListTriggers ∷ DeleteTrigger ∷ []

-- the name of a command
abbrev pub command_name : Command → List ℕ
command_name Watch = codes "watch"
command_name WatchProject = codes "watch-project"
command_name ListRoots = codes "watch-list"
command_name Unwatch = codes "watch-del"
command_name Query = codes "query"
command_name Clock = codes "clock"
command_name Version = codes "version"
command_name SocketName = codes "get-sockname"
command_name ShutDown = codes "shutdown-server"
command_name AddProgram = codes "program-add"
command_name ListPrograms = codes "program-list"
command_name DeleteProgram = codes "program-del"
command_name Subscribe = codes "subscribe"
command_name Unsubscribe = codes "unsubscribe"
command_name AddTrigger = codes "trigger"
command_name ListTriggers = codes "trigger-list"
command_name DeleteTrigger = codes "trigger-del"

-- the command of a name
abbrev pub command_named : List ℕ → Option Command
command_named = named command_name all_commands
