-- The patterns of a query, which are a generator: the keys `glob` and `glob_includedotfiles`. From
-- Watchman's documentation of the generator `glob`; the limit is this server's own.
use Rattle.std.specs.Prelude.{Bool, true, false, ◌&&◌, nat_le, List, [], length, if◌then◌else◌}
use Rattle.std.specs.Prelude.{Option, Some, None, Result, Ok, Err}
use Rattle.std.specs.Option.{option_and_then}
use Rattle.serde_json.specs.Data.{Data, string, array, Items, no_items, item}
use Rattle.serde_json.specs.Find.{as_bool}
use Rattle.wq_base.specs.Fault.{is_true, or_fault, unless_fault, with_first}
use Rattle.wq_glob.specs.Limit.{max_pattern_length}
use Rattle.wq_glob.specs.Pattern.{PatternData}
use Rattle.wq_glob.specs.declared.flag.Flags.{Flags}
use Rattle.wq_query.specs.declared.fault.QueryFault.{QueryFault}
use Rattle.wq_query.specs.declared.fault.QueryFault.TheVariants.{BadGenerator, PatternTooLong}

-- the flags of the patterns: they are for whole names, and take dots at the front of names if
-- `glob_includedotfiles` is true
abbrev pub glob_flags : Option Data → Flags
glob_flags dotfiles = record {
  wholename = true;
  dotfiles = is_true (option_and_then as_bool dotfiles);
  noescape = false;
  fold = false;
}

-- whether a value is a text
abbrev pub is_text : Data → Bool
is_text (string text) = true
is_text _ = false

-- whether each value of a list is a text
abbrev pub are_texts : Items → Bool
are_texts no_items = true
are_texts (item d ds) = is_text d && are_texts ds

-- the pattern of a text that is not too long for one
abbrev pub pattern_in : Flags → Data → Option PatternData
pattern_in flags (string text) =
    if nat_le (length text) max_pattern_length
    then Some (record { text = text; flags = flags }) else None
pattern_in flags _ = None

-- the patterns of a list of texts, unless one is too long
abbrev pub patterns_in : Flags → Items → Option (List PatternData)
patterns_in flags no_items = Some []
patterns_in flags (item d ds) = with_first (pattern_in flags d) (patterns_in flags ds)

-- the patterns with these flags: a list of texts, none of which is too long, or no generator if the
-- key is not there
abbrev pub globs_of : Flags → Option Data → Result (Option (List PatternData)) QueryFault
globs_of flags None = Ok None
globs_of flags (Some (array ds)) =
    unless_fault BadGenerator (are_texts ds) (
    or_fault PatternTooLong (patterns_in flags ds) (λ patterns. Ok (Some patterns)))
globs_of flags (Some _) = Err BadGenerator
