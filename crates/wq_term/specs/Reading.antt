-- The expression that a JSON value says, or its first fault: depth first, from left to right. The
-- forms of the terms are those of Watchman's documentation of file queries.
use Rattle.std.specs.Prelude.{ℕ, zero, suc, nat_le, length, Result, Ok, Err}
use Rattle.serde_json.specs.Data.{Data, string, Items, no_items, item}
use Rattle.wq_base.specs.Fault.{or_fault, or_own_fault, unless_fault}
use Rattle.wq_clock.specs.Instance.{InstanceData}
use Rattle.wq_glob.specs.Limit.{max_pattern_length}
use Rattle.wq_glob.specs.declared.flag.Flags.{Flags}
use Rattle.wq_base.specs.declared.compare.Case.{Case}
use Rattle.wq_base.specs.declared.compare.Case.TheVariants.{Exact, Folded}
use Rattle.wq_term.specs.declared.expr.Depth.{Depth}
use Rattle.wq_term.specs.declared.expr.Depth.TheVariants.{Any}
use Rattle.wq_term.specs.declared.expr.Scope.{Scope}
use Rattle.wq_term.specs.declared.expr.Scope.TheVariants.{Basename}
use Rattle.wq_term.specs.declared.expr.Since.TheVariants.{Observed, Created, Modified}
use Rattle.wq_term.specs.declared.fault.TermFault.{TermFault}
use Rattle.wq_term.specs.declared.fault.TermFault.TheVariants.{UnknownTerm, WrongArguments, TooDeep}
use Rattle.wq_term.specs.declared.fault.TermFault.TheVariants.{BadClockSpec, PatternTooLong}
use Rattle.wq_term.specs.declared.head.Head.{Head}
use Rattle.wq_term.specs.declared.head.Head.TheVariants.{True, False, Exists, Empty, KindIs}
use Rattle.wq_term.specs.declared.head.Head.TheVariants.{Name, Iname, Match, Imatch, Suffix}
use Rattle.wq_term.specs.declared.head.Head.TheVariants.{Size, Since, Dirname, Idirname}
use Rattle.wq_term.specs.declared.head.Head.TheVariants.{Not, AllOf, AnyOf}
use Rattle.wq_term.specs.declared.parser.word.SinceField.{SinceField}
use Rattle.wq_term.specs.declared.parser.word.SinceField.TheVariants.{Oclock, Cclock, Mtime}
use Rattle.wq_term.specs.Head.{head_named}
use Rattle.wq_term.specs.Argument.{term_parts, text_of, texts_of, epoch_second, bound_in}
use Rattle.wq_term.specs.Argument.{kind_of_letter, scope_of, since_field_of, comparison_of, depth_argument}
use Rattle.wq_term.specs.PatternArgument.{plain_flags, flags_of}
use Rattle.wq_term.specs.Text.{without_end_slashes}
use Rattle.wq_term.specs.Expr.{ExprData, always, never, exists, empty, kind_is, name_is, matches}
use Rattle.wq_term.specs.Expr.{suffix_is, size_is, since, below, negation, all_of, any_of}
use Rattle.wq_term.specs.Expr.{ExprsData, no_terms, term}

-- the outcome of reading an expression: its term, or its first fault
abbrev pub Answer : Type 0
Answer = Result ExprData TermFault

-- a term that has no arguments
abbrev pub read_plain : ExprData → Items → Answer
read_plain t no_items = Ok t
read_plain t _ = Err WrongArguments

-- `type` of one letter
abbrev pub read_kind : Items → Answer
read_kind (item letter no_items) =
    or_fault WrongArguments (kind_of_letter letter) (λ kind. Ok (kind_is kind))
read_kind _ = Err WrongArguments

-- `name` and `iname` of this scope and a text or texts
abbrev pub name_in : Case → Scope → Data → Answer
name_in case scope d =
    or_fault WrongArguments (texts_of d) (λ texts. Ok (name_is case scope texts))

-- the same with the scope after the texts, the basename if none is given
abbrev pub read_name : Case → Items → Answer
read_name case (item texts no_items) = name_in case Basename texts
read_name case (item texts (item d no_items)) =
    or_fault WrongArguments (scope_of d) (λ scope. name_in case scope texts)
read_name case _ = Err WrongArguments

-- `match` and `imatch` of a pattern with these flags; the fault of a long pattern comes last
abbrev pub match_with : Data → Flags → Answer
match_with (string text) flags =
    unless_fault PatternTooLong (nat_le (length text) max_pattern_length)
    (Ok (matches (record { text = text; flags = flags })))
match_with _ flags = Err WrongArguments

-- the same with a scope, the basename if none is given, and flags after the pattern
abbrev pub read_match : Case → Items → Answer
read_match case (item pattern no_items) = match_with pattern (plain_flags case Basename)
read_match case (item pattern (item d no_items)) =
    or_fault WrongArguments (scope_of d) (λ scope. match_with pattern (plain_flags case scope))
read_match case (item pattern (item d (item e no_items))) =
    or_fault WrongArguments (scope_of d) (λ scope.
    or_fault WrongArguments (flags_of (plain_flags case scope) e) (λ flags.
    match_with pattern flags))
read_match case _ = Err WrongArguments

-- `suffix` of a text or texts
abbrev pub read_suffix : Items → Answer
read_suffix (item d no_items) =
    or_fault WrongArguments (texts_of d) (λ texts. Ok (suffix_is texts))
read_suffix _ = Err WrongArguments

-- `size` of a relation and a number
abbrev pub read_size : Items → Answer
read_size arguments =
    or_fault WrongArguments (comparison_of arguments) (λ (relation, n). Ok (size_is relation n))

-- `dirname` and `idirname` of this depth and a text, whose slashes at the end are dropped
abbrev pub below_at : Case → Depth → Data → Answer
below_at case depth d =
    or_fault WrongArguments (text_of d) (λ text. Ok (below case (without_end_slashes text) depth))

-- the same with the depth after the text, any if none is given
abbrev pub read_dirname : Case → Items → Answer
read_dirname case (item dir no_items) = below_at case Any dir
read_dirname case (item dir (item d no_items)) =
    or_fault WrongArguments (depth_argument d) (λ depth. below_at case depth dir)
read_dirname case _ = Err WrongArguments

-- `since` by this field: `mtime` takes a second alone, and the others any clock spec
abbrev pub since_by : InstanceData → Data → SinceField → Answer
since_by instance spec Oclock =
    or_own_fault (bound_in instance spec) (λ bound. Ok (since (Observed bound)))
since_by instance spec Cclock =
    or_own_fault (bound_in instance spec) (λ bound. Ok (since (Created bound)))
since_by instance spec Mtime =
    or_fault BadClockSpec (epoch_second spec) (λ second. Ok (since (Modified second)))

-- the same with the field after the clock spec, `oclock` if none is given
abbrev pub read_since : InstanceData → Items → Answer
read_since instance (item spec no_items) = since_by instance spec Oclock
read_since instance (item spec (item d no_items)) =
    or_fault WrongArguments (since_field_of d) (λ field. since_by instance spec field)
read_since instance _ = Err WrongArguments

-- `not` of one term
abbrev pub read_negation : (Data → Answer) → Items → Answer
read_negation read (item d no_items) = or_own_fault (read d) (λ t. Ok (negation t))
read_negation read _ = Err WrongArguments

-- the terms of a list, read one by one
abbrev pub read_all : (Data → Answer) → Items → Result ExprsData TermFault
read_all read no_items = Ok no_terms
read_all read (item d ds) =
    or_own_fault (read d) (λ t. or_own_fault (read_all read ds) (λ ts. Ok (term t ts)))

-- a term with this head and these arguments at this instance, the terms inside read in this way
abbrev pub read_named : InstanceData → (Data → Answer) → Head → Items → Answer
read_named instance read True ds = read_plain always ds
read_named instance read False ds = read_plain never ds
read_named instance read Exists ds = read_plain exists ds
read_named instance read Empty ds = read_plain empty ds
read_named instance read KindIs ds = read_kind ds
read_named instance read Name ds = read_name Exact ds
read_named instance read Iname ds = read_name Folded ds
read_named instance read Match ds = read_match Exact ds
read_named instance read Imatch ds = read_match Folded ds
read_named instance read Suffix ds = read_suffix ds
read_named instance read Size ds = read_size ds
read_named instance read Since ds = read_since instance ds
read_named instance read Dirname ds = read_dirname Exact ds
read_named instance read Idirname ds = read_dirname Folded ds
read_named instance read Not ds = read_negation read ds
read_named instance read AllOf ds = or_own_fault (read_all read ds) (λ ts. Ok (all_of ts))
read_named instance read AnyOf ds = or_own_fault (read_all read ds) (λ ts. Ok (any_of ts))

-- the expression that a value says, which may be this many terms deep, at this instance
unfoldable pub reads_as : InstanceData → ℕ → Data → Answer
reads_as instance zero d = Err TooDeep
reads_as instance (suc levels) d =
    or_fault WrongArguments (term_parts d) (λ (name, arguments).
    or_fault UnknownTerm (head_named name) (λ head.
    read_named instance (reads_as instance levels) head arguments))
