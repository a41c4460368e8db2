-- The texts with which the server refuses lines of clients, each with its number. They are this
-- server's own.
use Rattle.std.specs.Prelude.{ℕ, Bool, true, false, ◌||◌, List, ◌++◌, codes}
use Rattle.std.specs.Fmt.{decimal}
use Rattle.wq_code.specs.FileFault.{file_fault_number as file_number}
use Rattle.wq_verify.specs.ProgramFault.{program_fault_number as program_number}
use Rattle.wq_term.specs.declared.fault.TermFault.{TermFault}
use Rattle.wq_term.specs.declared.fault.TermFault.TheVariants.{UnknownTerm, WrongArguments as WrongTermArguments, TooDeep}
use Rattle.wq_term.specs.declared.fault.TermFault.TheVariants.{BadClockSpec as BadTermClockSpec, CursorInTerm}
use Rattle.wq_term.specs.declared.fault.TermFault.TheVariants.{PatternTooLong, NoMemory as NoTermMemory}
use Rattle.wq_query.specs.declared.fault.QueryFault.{QueryFault}
use Rattle.wq_query.specs.declared.fault.QueryFault.TheVariants.{LeftOutKey, ExpressionAndProgram, Expression}
use Rattle.wq_query.specs.declared.fault.QueryFault.TheVariants.{UnknownField, BadGenerator, BadClockSpec}
use Rattle.wq_query.specs.declared.fault.QueryFault.TheVariants.{PatternTooLong as LongGlob}
use Rattle.wq_query.specs.declared.fault.QueryFault.TheVariants.{WrongValue, NoMemory as NoQueryMemory}
use Rattle.wq_ask.specs.declared.refusal.Refusal.{Refusal}
use Rattle.wq_ask.specs.declared.refusal.Refusal.TheVariants.{LineTooLong, NotJson, NotACommand}
use Rattle.wq_ask.specs.declared.refusal.Refusal.TheVariants.{UnknownCommand, WrongArguments, Bser}
use Rattle.wq_ask.specs.declared.refusal.Refusal.TheVariants.{RootNotAbsolute, UnreadableRoot, TooManyFiles}
use Rattle.wq_ask.specs.declared.refusal.Refusal.TheVariants.{TooManyRoots, TooManySessions, NotWatched}
use Rattle.wq_ask.specs.declared.refusal.Refusal.TheVariants.{TicksSpent, Query, ProgramTooLarge}
use Rattle.wq_ask.specs.declared.refusal.Refusal.TheVariants.{NotBase64, WrongFile, WrongProgram}
use Rattle.wq_ask.specs.declared.refusal.Refusal.TheVariants.{NoSuchProgram, ShelfFull, BadName, NoMemory}
use Rattle.wq_ask.specs.declared.refusal.Refusal.TheVariants.{TooManySubscriptions, BadTrigger}
use Rattle.wq_ask.specs.declared.refusal.Refusal.TheVariants.{TooManyTriggers}

-- the reason to refuse an expression
abbrev pub term_text : TermFault → List ℕ
term_text UnknownTerm = codes "E24: unknown term"
term_text WrongTermArguments = codes "E25: wrong term arguments"
term_text TooDeep = codes "E26: expression too deep"
term_text BadTermClockSpec = codes "E23: bad clockspec"
term_text CursorInTerm = codes "E27: cursor in a term"
term_text PatternTooLong = codes "E28: pattern too long"
term_text NoTermMemory = codes "E60: no memory"

-- the reason to refuse a query
abbrev pub query_text : QueryFault → List ℕ
query_text LeftOutKey = codes "E20: query key is left out"
query_text ExpressionAndProgram = codes "E29: expression and program"
query_text (Expression fault) = term_text fault
query_text UnknownField = codes "E21: unknown field"
query_text BadGenerator = codes "E22: bad generator"
query_text LongGlob = codes "E28: pattern too long"
query_text BadClockSpec = codes "E23: bad clockspec"
query_text WrongValue = codes "E37: wrong query value"
query_text NoQueryMemory = codes "E60: no memory"

-- the reason to refuse a line
abbrev pub refusal_text : Refusal → List ℕ
refusal_text LineTooLong = codes "E1: line too long"
refusal_text NotJson = codes "E2: not JSON"
refusal_text NotACommand = codes "E3: not a command array"
refusal_text UnknownCommand = codes "E4: unknown command"
refusal_text WrongArguments = codes "E5: wrong arguments"
refusal_text Bser = codes "E6: BSER is not spoken here"
refusal_text RootNotAbsolute = codes "E10: root is not absolute"
refusal_text UnreadableRoot = codes "E11: root cannot be read"
refusal_text TooManyFiles = codes "E12: too many files"
refusal_text TooManyRoots = codes "E13: too many roots"
refusal_text NotWatched = codes "E14: root is not watched"
refusal_text TicksSpent = codes "E15: ticks are spent"
refusal_text TooManySessions = codes "E17: too many sessions"
refusal_text (Query fault) = query_text fault
refusal_text ProgramTooLarge = codes "E30: program too large"
refusal_text NotBase64 = codes "E31: not base64"
refusal_text (WrongFile fault) = codes "E32: F" ++ decimal (file_number fault)
refusal_text (WrongProgram fault at) =
    codes "E33: Y" ++ (decimal (program_number fault) ++ (codes " at " ++ decimal at))
refusal_text NoSuchProgram = codes "E34: no such program"
refusal_text ShelfFull = codes "E35: shelf is full"
refusal_text BadName = codes "E36: bad name"
refusal_text TooManySubscriptions = codes "E41: too many subscriptions"
refusal_text TooManyTriggers = codes "E42: too many triggers"
refusal_text BadTrigger = codes "E43: bad trigger"
refusal_text NoMemory = codes "E60: no memory"

-- whether a session ends when it refuses a line so, or there is no session: no more of its stream
-- follows
abbrev pub ends_session : Refusal → Bool
ends_session LineTooLong = true
ends_session Bser = true
ends_session TooManySessions = true
ends_session _ = false

-- whether a refusal is that memory ran out
abbrev pub is_no_memory : Refusal → Bool
is_no_memory NoMemory = true
is_no_memory _ = false

-- whether the line of a refusal is kept in the code, so that it takes no memory
abbrev pub is_fixed : Refusal → Bool
is_fixed refusal = ends_session refusal || is_no_memory refusal
