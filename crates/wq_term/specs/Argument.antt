-- The meaning of one argument of a term, or of a few: texts, numbers, clock specs and words. From
-- Watchman's documentation of the expression terms; the limits are this server's own.
use Rattle.std.specs.Prelude.{ℕ, ℤ, pos, neg_ℤ, int_le, nat_le, ◌&&◌, bytes_eq, codes, length}
use Rattle.std.specs.Prelude.{List, [], ◌∷◌, if◌then◌else◌, Option, Some, None, Result, Ok}
use Rattle.std.specs.Prelude.{option_map, option_and_then}
use Rattle.std.specs.Option.{option_zip}
use Rattle.serde_json.specs.Data.{Data, number, string, array, Items, no_items, item}
use Rattle.serde_json.specs.Find.{as_i64}
use Rattle.wq_base.specs.Limit.{max_number}
use Rattle.wq_base.specs.Fault.{or_fault, with_first}
use Rattle.wq_clock.specs.Instance.{InstanceData}
use Rattle.wq_clock.specs.ClockSpec.{clock_spec_of}
use Rattle.wq_clock.specs.Bound.{bound_of}
use Rattle.wq_clock.specs.declared.bound.Bound.{Bound}
use Rattle.wq_clock.specs.declared.bound.Bound.TheVariants.{Second}
use Rattle.wq_record.specs.declared.kind.Kind.{Kind}
use Rattle.wq_base.specs.declared.compare.Relation.{Relation}
use Rattle.wq_term.specs.declared.expr.Scope.{Scope}
use Rattle.wq_term.specs.declared.expr.Depth.{Depth}
use Rattle.wq_term.specs.declared.expr.Depth.TheVariants.{Is}
use Rattle.wq_term.specs.declared.parser.word.SinceField.{SinceField}
use Rattle.wq_term.specs.declared.fault.TermFault.{TermFault}
use Rattle.wq_term.specs.declared.fault.TermFault.TheVariants.{BadClockSpec, CursorInTerm}
use Rattle.wq_term.specs.Limit.{max_term_text}
use Rattle.wq_term.specs.Word.{kind_named, scope_named, relation_named, since_field_named}

-- a name and the items after it: an array headed by a text, or the bare text with nothing after it
abbrev pub term_parts : Data → Option (List ℕ × Items)
term_parts (string name) = Some (name, no_items)
term_parts (array (item (string name) arguments)) = Some (name, arguments)
term_parts _ = None

-- a text of at most 4,096 bytes
abbrev pub text_of : Data → Option (List ℕ)
text_of (string text) = if nat_le (length text) max_term_text then Some text else None
text_of _ = None

-- the texts of a list, unless one of its items is no text
abbrev pub all_texts_of : Items → Option (List (List ℕ))
all_texts_of no_items = Some []
all_texts_of (item d ds) = with_first (text_of d) (all_texts_of ds)

-- a list of texts, or one text
abbrev pub texts_of : Data → Option (List (List ℕ))
texts_of (array ds) = all_texts_of ds
texts_of d = option_map (λ text. text ∷ []) (text_of d)

-- an integer that lies between two others
abbrev pub integer_between : ℤ → ℤ → Data → Option ℤ
integer_between low high (number n) =
    option_and_then (λ z. if int_le low z && int_le z high then Some z else None) (as_i64 n)
integer_between low high _ = None

-- a whole number: an integer from -2^62 to 2^62
abbrev pub whole_number_of : Data → Option ℤ
whole_number_of d = integer_between (neg_ℤ (pos max_number)) (pos max_number) d

-- a second of the Unix epoch, from 0 to 2^62
abbrev pub epoch_second : Data → Option ℤ
epoch_second d = integer_between (pos 0) (pos max_number) d

-- the kind of a letter
abbrev pub kind_of_letter : Data → Option Kind
kind_of_letter (string letter) = kind_named letter
kind_of_letter _ = None

-- a scope
abbrev pub scope_of : Data → Option Scope
scope_of (string word) = scope_named word
scope_of _ = None

-- a field of `since`
abbrev pub since_field_of : Data → Option SinceField
since_field_of (string word) = since_field_named word
since_field_of _ = None

-- a relation
abbrev pub relation_of : Data → Option Relation
relation_of (string word) = relation_named word
relation_of _ = None

-- a relation and a whole number, with nothing after them
abbrev pub comparison_of : Items → Option (Relation × ℤ)
comparison_of (item relation (item n no_items)) =
    option_zip (relation_of relation) (whole_number_of n)
comparison_of _ = None

-- a depth: `["depth", relation, number]`
abbrev pub depth_argument : Data → Option Depth
depth_argument (array (item (string word) arguments)) =
    if bytes_eq word (codes "depth")
    then option_map (λ (relation, n). Is relation n) (comparison_of arguments) else None
depth_argument _ = None

-- the bound of a clock spec at this instance: of a text, or else of a second
abbrev pub bound_in : InstanceData → Data → Result Bound TermFault
bound_in instance (string text) =
    or_fault BadClockSpec (clock_spec_of text) (λ spec.
    or_fault CursorInTerm (bound_of spec instance) (λ bound. Ok bound))
bound_in instance d = or_fault BadClockSpec (epoch_second d) (λ second. Ok (Second second))
