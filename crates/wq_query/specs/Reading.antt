-- The query that a JSON object asks, or its first fault. The keys are those of Watchman's
-- documentation of file queries.
use Rattle.std.specs.Prelude.{ℕ, Bool, true, false, not, ◌&&◌, ◌||◌, if◌then◌else◌, List, [], ◌∷◌, codes}
use Rattle.std.specs.Prelude.{Option, Some, None, is_some, option_map, Result, Ok}
use Rattle.std.specs.Option.{option_and_then}
use Rattle.std.specs.Result.{result_ok}
use Rattle.std.specs.List.{list_any}
use Rattle.serde_json.specs.Data.{Data, string, array, Items, no_items, item}
use Rattle.serde_json.specs.Find.{get, as_bool}
use Rattle.wq_base.specs.Fault.{is_true, or_fault, or_its_fault, or_own_fault, unless_fault}
use Rattle.wq_base.specs.Fault.{with_first}
use Rattle.wq_clock.specs.Instance.{InstanceData}
use Rattle.wq_clock.specs.ClockSpec.{SpecData, named_cursor, clock_spec_of}
use Rattle.wq_clock.specs.declared.bound.Bound.{Bound}
use Rattle.wq_clock.specs.declared.bound.Bound.TheVariants.{Fresh}
use Rattle.wq_term.specs.declared.fault.TermFault.{TermFault}
use Rattle.wq_term.specs.Limit.{max_depth}
use Rattle.wq_term.specs.Argument.{bound_in, whole_number_of}
use Rattle.wq_term.specs.Expr.{ExprData, always}
use Rattle.wq_term.specs.Reading.{reads_as}
use Rattle.wq_query.specs.declared.fault.QueryFault.{QueryFault}
use Rattle.wq_query.specs.declared.fault.QueryFault.TheVariants.{LeftOutKey, ExpressionAndProgram}
use Rattle.wq_query.specs.declared.fault.QueryFault.TheVariants.{Expression}
use Rattle.wq_query.specs.declared.fault.QueryFault.TheVariants.{UnknownField, BadGenerator}
use Rattle.wq_query.specs.declared.fault.QueryFault.TheVariants.{BadClockSpec, WrongValue}
use Rattle.wq_query.specs.declared.field.Field.{Field}
use Rattle.wq_query.specs.declared.options.Options.{Options}
use Rattle.wq_query.specs.Field.{field_named, default_fields}
use Rattle.wq_query.specs.Generator.{suffixes_of, paths_of}
use Rattle.wq_query.specs.Glob.{glob_flags, globs_of}
use Rattle.wq_query.specs.Query.{QueryData, SinceData, at_bound, at_cursor}

-- the keys that would change the answer and are not there
abbrev pub left_out_keys : List (List ℕ)
left_out_keys =
    codes "relative_root" ∷ codes "settle_period" ∷ codes "settle_timeout" ∷ []

-- whether the query has one of these keys
abbrev pub has_key_of : List (List ℕ) → Data → Bool
has_key_of keys d = list_any (λ key. is_some (get key d)) keys

-- the one value of `case_sensitive` that changes nothing
abbrev pub is_plain_case : Option Data → Bool
is_plain_case None = true
is_plain_case (Some d) = is_true (as_bool d)

-- whether the query has a key that is left out
abbrev pub has_left_out_key : Data → Bool
has_left_out_key d =
    has_key_of left_out_keys d || not (is_plain_case (get (codes "case_sensitive") d))

-- whether an expression and a program are there, of which one can say which files match
abbrev pub has_both : Data → Bool
has_both d = is_some (get (codes "expression") d) && is_some (get (codes "program") d)

-- the expression: every file if there is none
abbrev pub expression_of : InstanceData → Option Data → Result ExprData TermFault
expression_of instance None = Ok always
expression_of instance (Some d) = reads_as instance max_depth d

-- the field of a text
abbrev pub field_of : Data → Option Field
field_of (string name) = field_named name
field_of _ = None

-- the fields of a list of texts
abbrev pub fields_in : Items → Option (List Field)
fields_in no_items = Some []
fields_in (item d ds) = with_first (field_of d) (fields_in ds)

-- the fields: a list of texts that is not empty
abbrev pub fields_of : Option Data → Option (List Field)
fields_of None = Some default_fields
fields_of (Some (array (item d ds))) = fields_in (item d ds)
fields_of (Some _) = None

-- the name of a clock spec that is a cursor
abbrev pub spec_cursor : SpecData → Option (List ℕ)
spec_cursor (named_cursor name) = Some name
spec_cursor _ = None

-- the name of the cursor that a value says
abbrev pub cursor_in : Data → Option (List ℕ)
cursor_in (string text) = option_and_then spec_cursor (clock_spec_of text)
cursor_in _ = None

-- the tick of a cursor, if there is one, or else a bound
abbrev pub since_from : Option (List ℕ) → Option Bound → Option SinceData
since_from (Some name) bound = Some (at_cursor name)
since_from None bound = option_map at_bound bound

-- the point from which `since` asks for changes at an instance: a fresh bound if the key is not
-- there
abbrev pub since_of : InstanceData → Option Data → Option SinceData
since_of instance None = Some (at_bound Fresh)
since_of instance (Some d) = since_from (cursor_in d) (result_ok (bound_in instance d))

-- the name of the program, which is a text of any length; none if it is not there
abbrev pub program_name : Option Data → Option (Option (List ℕ))
program_name None = Some None
program_name (Some (string name)) = Some (Some name)
program_name (Some _) = None

-- true or false; false if the key is not there
abbrev pub flag_of : Option Data → Option Bool
flag_of None = Some false
flag_of (Some d) = as_bool d

-- whether it is true or false, or not there
abbrev pub is_flag_or_absent : Option Data → Bool
is_flag_or_absent d = is_some (flag_of d)

-- whether it is a whole number, or not there
abbrev pub is_whole_or_absent : Option Data → Bool
is_whole_or_absent None = true
is_whole_or_absent (Some d) = is_some (whole_number_of d)

-- the options with this value of `empty_on_fresh_instance`
abbrev pub with_flag : Bool → Options
with_flag flag = record { empty_on_fresh_instance = flag }

-- the options, if their keys are right and the keys that are tested with them
abbrev pub options_of : Data → Option Options
options_of d =
    if is_flag_or_absent (get (codes "glob_includedotfiles") d)
    && is_whole_or_absent (get (codes "sync_timeout") d)
    then option_map with_flag (flag_of (get (codes "empty_on_fresh_instance") d))
    else None

-- the query that an object asks at an instance: its faults are looked for in this order
abbrev pub asks : InstanceData → Data → Result QueryData QueryFault
asks instance d =
    unless_fault LeftOutKey (not (has_left_out_key d)) (
    unless_fault ExpressionAndProgram (not (has_both d)) (
    or_its_fault Expression (expression_of instance (get (codes "expression") d)) (λ expression.
    or_fault UnknownField (fields_of (get (codes "fields") d)) (λ fields.
    or_fault BadGenerator (suffixes_of (get (codes "suffix") d)) (λ suffix.
    or_fault BadGenerator (paths_of (get (codes "path") d)) (λ path.
    or_own_fault (globs_of (glob_flags (get (codes "glob_includedotfiles") d))
    (get (codes "glob") d)) (λ glob.
    or_fault BadClockSpec (since_of instance (get (codes "since") d)) (λ since.
    or_fault WrongValue (program_name (get (codes "program") d)) (λ program.
    or_fault WrongValue (options_of d) (λ options.
    Ok (record {
      expression = expression;
      program = program;
      fields = fields;
      since = since;
      suffix = suffix;
      path = path;
      glob = glob;
      options = options;
    })))))))))))
