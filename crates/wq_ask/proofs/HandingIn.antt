-- An event asks to keep no program that may not run.
use Rattle.std.proofs.Common.{◌≡◌, ℕ, Bool, true, false, List, Option, Some, None, Result, Ok, Err, inl, inr, refl, sym, subst}
use Rattle.base64.specs.GeneralPurpose.{decode_of}
use Rattle.base64.specs.Engines.{standard}
use Rattle.serde_json.specs.Data.{Items}
use Rattle.wq_base.specs.Fault.{or_fault, or_its_fault, unless_fault}
use Rattle.wq_code.specs.File.{file_at}
use Rattle.wq_code.specs.declared.raw.Raw.{Raw}
use Rattle.wq_code.specs.declared.fault.FileFault.{FileFault}
use Rattle.wq_stream.specs.declared.event.Event.TheVariants.{Line, Long, Binary, Idle, End, Fault}
use Rattle.wq_verify.specs.Typing.{IsValid}
use Rattle.wq_ask.specs.Argument.{RequestData, complete, queries, subscribes, triggers, adds, are_none, are_options, one_text, two_texts}
use Rattle.wq_ask.specs.Clock.{clock_arguments}
use Rattle.wq_ask.specs.Command.{command_named}
use Rattle.wq_ask.specs.HandedIn.{AsksHandInValid, HandsInValid}
use Rattle.wq_ask.specs.Program.{adding, is_name}
use Rattle.wq_ask.specs.Query.{IsQuerying, query_arguments}
use Rattle.wq_ask.specs.Reading.{IsAdding, IsRequested, request_of, request_of_value, requested, value_of, words_of}
use Rattle.wq_ask.specs.Root.{is_absolute}
use Rattle.wq_ask.specs.Subscribe.{IsSubscribing, subscribe_arguments}
use Rattle.wq_ask.specs.Trigger.{IsTriggering, trigger_arguments}
use Rattle.wq_ask.specs.declared.ask.Ask.{Ask}
use Rattle.wq_ask.specs.declared.ask.Ask.TheVariants.{Alone, OfRoot, OfShelf, Unwatch, Watch}
use Rattle.wq_ask.specs.declared.ask.ShelfAsk.TheVariants.{AddProgram, DeleteProgram, Reads}
use Rattle.wq_ask.specs.declared.command.Command.{Command}
use Rattle.wq_ask.specs.declared.command.Command.TheVariants as command
use Rattle.wq_ask.specs.declared.refusal.Refusal.{Refusal}
use Rattle.wq_ask.specs.declared.refusal.Refusal.TheVariants.{WrongArguments, RootNotAbsolute, BadName, NotBase64, NotJson, NotACommand, UnknownCommand}

-- an ask of which each program that it would hand in may run
by_kind : (a : Ask) → ((name : List ℕ) (program : Raw) → a ≡ OfShelf (AddProgram name program) → IsValid program) → HandsInValid a
by_kind (OfShelf (AddProgram name program)) valid = valid name program refl
by_kind (OfShelf (DeleteProgram name)) valid = tt
by_kind (OfShelf (Reads what)) valid = tt
by_kind (Watch root) valid = tt
by_kind (Unwatch root) valid = tt
by_kind (OfRoot root crawl what) valid = tt
by_kind (Alone what) valid = tt

-- a request that is complete hands in none
abbrev IsGood : Result RequestData Refusal → Type 0
IsGood (Ok (complete asked)) = HandsInValid asked
IsGood _ = Unit {0}

or_good : {A : Type 0} (fault : Refusal) (found : Option A) (next : A → Result RequestData Refusal) → ((a : A) → IsGood (next a))
    → IsGood (or_fault fault found next)
or_good fault None next good = tt
or_good fault (Some a) next good = good a

unless_good : (fault : Refusal) (test : Bool) (next : Result RequestData Refusal) → IsGood next → IsGood (unless_fault fault test next)
unless_good fault false next good = tt
unless_good fault true next good = good

its_good : {A E : Type 0} (of : E → Refusal) (found : Result A E) (next : A → Result RequestData Refusal) → ((a : A) → IsGood (next a))
    → IsGood (or_its_fault of found next)
its_good of (Err fault) next good = tt
its_good of (Ok a) next good = good a

adding_good : (texts : List ℕ × List ℕ) → IsGood (adding texts)
adding_good (name, text) = unless_good BadName (is_name name) _ (its_good (λ _. NotBase64) (decode_of standard text) _ (λ file. tt))

-- so is the request of each command
request_good : (c : Command) (arguments : Items) → IsGood (request_of c arguments)
request_good command.Watch arguments = or_good WrongArguments (one_text arguments) _ (λ root. unless_good RootNotAbsolute (is_absolute root) _ tt)
request_good command.WatchProject arguments = or_good WrongArguments (one_text arguments) _ (λ root. unless_good RootNotAbsolute (is_absolute root) _ tt)
request_good command.ListRoots arguments = unless_good WrongArguments (are_none arguments) _ tt
request_good command.Unwatch arguments = or_good WrongArguments (one_text arguments) _ (λ root. tt)
request_good command.Query arguments = or_good WrongArguments (query_arguments arguments) _ (λ (root, d). tt)
request_good command.Clock arguments = or_good WrongArguments (clock_arguments arguments) _ (λ (root, crawl). tt)
request_good command.Version arguments = unless_good WrongArguments (are_options arguments) _ tt
request_good command.SocketName arguments = unless_good WrongArguments (are_none arguments) _ tt
request_good command.ShutDown arguments = unless_good WrongArguments (are_none arguments) _ tt
request_good command.AddProgram arguments = or_good WrongArguments (two_texts arguments) adding adding_good
request_good command.ListPrograms arguments = unless_good WrongArguments (are_none arguments) _ tt
request_good command.DeleteProgram arguments = or_good WrongArguments (one_text arguments) _ (λ name. unless_good BadName (is_name name) _ tt)
request_good command.Subscribe arguments = or_good WrongArguments (subscribe_arguments arguments) _ (λ (root, (name, d)). tt)
request_good command.Unsubscribe arguments = or_good WrongArguments (two_texts arguments) _ (λ (root, name). tt)
request_good command.AddTrigger arguments = or_good WrongArguments (trigger_arguments arguments) _ (λ (root, d). tt)
request_good command.ListTriggers arguments = or_good WrongArguments (one_text arguments) _ (λ root. tt)
request_good command.DeleteTrigger arguments = or_good WrongArguments (two_texts arguments) _ (λ (root, name). tt)

-- and of each line
line_good : (line : List ℕ) → IsGood (requested line)
line_good line =
    or_good NotJson (value_of line) request_of_value (λ value.
    or_good NotACommand (words_of value) _ (λ words.
    or_good UnknownCommand (command_named words.name) _ (λ c. request_good c words.arguments)))

-- the program of a file is kept only if it may run
file_valid : (name : List ℕ) (file : Result Raw FileFault) (a : Ask) → IsAdding name file a → HandsInValid a
file_valid name (Err fault) a is = subst HandsInValid (sym is) tt
file_valid name (Ok raw) a is = by_kind a (λ n program same.
    let it : (n ≡ name) × (program ≡ raw) × IsValid raw = subst (IsAdding name (Ok raw)) same is in
    subst IsValid (sym it.1) it.2)

-- the ask of a request
ask_valid : (request : Result RequestData Refusal) (a : Ask) → IsGood request → IsRequested request a → HandsInValid a
ask_valid (Err refusal) a good is = subst HandsInValid (sym is) tt
ask_valid (Ok (complete asked)) a good is = subst HandsInValid (sym is) good
ask_valid (Ok (queries root crawl d)) a good is =
    by_kind a (λ n program same. let none : ⊥ = subst (IsQuerying root crawl d) same is in absurd none)
ask_valid (Ok (subscribes root name d)) a good is =
    by_kind a (λ n program same. let none : ⊥ = subst (IsSubscribing root name d) same is in absurd none)
ask_valid (Ok (triggers root d)) a good is =
    by_kind a (λ n program same. let none : ⊥ = subst (IsTriggering root d) same is in absurd none)
ask_valid (Ok (adds name file)) a good is = file_valid name (file_at file) a is

-- the law
pub asks_hand_in_valid : AsksHandInValid
asks_hand_in_valid (Line line) a (inl is) = ask_valid (requested line) a (line_good line) is
asks_hand_in_valid (Line line) a (inr is) = subst HandsInValid (sym is) tt
asks_hand_in_valid Long a is = subst HandsInValid (sym is) tt
asks_hand_in_valid Binary a is = subst HandsInValid (sym is) tt
asks_hand_in_valid (Idle root) a is = subst HandsInValid (sym is) tt
asks_hand_in_valid End a is = subst HandsInValid (sym is) tt
asks_hand_in_valid Fault a is = subst HandsInValid (sym is) tt
