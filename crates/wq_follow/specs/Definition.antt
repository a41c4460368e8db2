-- The definition that the object of a trigger says, or its first fault. The keys are those of
-- Watchman's documentation of `trigger`. The order of faults, and that a count of 0 is no limit,
-- are this server's own.
use Rattle.std.specs.Prelude.{ℕ, zero, suc, Bool, true, false, not, ◌&&◌, ◌||◌, ◌==◌, nat_le}
use Rattle.std.specs.Prelude.{List, [], ◌∷◌, length, codes, if◌then◌else◌}
use Rattle.std.specs.Prelude.{Option, Some, None, is_some, option_map, Result, Ok}
use Rattle.std.specs.List.{list_any}
use Rattle.std.specs.Option.{option_and_then}
use Rattle.std.specs.Str.{bytes_eq}
use Rattle.serde_json.specs.Data.{Data, number, unsigned, string, array, object}
use Rattle.serde_json.specs.Data.{Items, no_items, item, Members, no_members, put as with_member}
use Rattle.serde_json.specs.Find.{get}
use Rattle.wq_base.specs.Fault.{or_fault, or_its_fault, or_own_fault, unless_fault, with_first}
use Rattle.wq_base.specs.Limit.{max_number}
use Rattle.wq_clock.specs.Instance.{InstanceData}
use Rattle.wq_query.specs.Query.{QueryData}
use Rattle.wq_query.specs.Reading.{asks, fields_of, flag_of}
use Rattle.wq_follow.specs.Start.{InputData, no_input, names, objects}
use Rattle.wq_follow.specs.declared.fault.TriggerFault.{TriggerFault}
use Rattle.wq_follow.specs.declared.fault.TriggerFault.TheVariants.{BadName, BadShape, Query}

-- the most bytes of a trigger's name
abbrev pub max_trigger_name : ℕ
max_trigger_name = 255

-- whether a text may be the name of a trigger
abbrev pub is_trigger_name : List ℕ → Bool
is_trigger_name name = nat_le 1 (length name) && nat_le (length name) max_trigger_name

-- whether the name is a text, and of a wrong length
abbrev pub has_bad_length : Option Data → Bool
has_bad_length (Some (string name)) = not (is_trigger_name name)
has_bad_length _ = false

-- whether an object has a key that would change the effect and is left out
abbrev pub has_left_out_trigger_key : Data → Bool
has_left_out_trigger_key d =
    is_some (get (codes "stdout") d) || (is_some (get (codes "stderr") d)
    || (is_some (get (codes "chdir") d) || is_some (get (codes "relative_root") d)))

-- the name, which is a text
abbrev pub trigger_name_of : Option Data → Option (List ℕ)
trigger_name_of (Some (string name)) = Some name
trigger_name_of _ = None

-- a text, unless a byte of it is 0
abbrev pub without_byte_0 : List ℕ → Option (List ℕ)
without_byte_0 text = if list_any (λ b. b == 0) text then None else Some text

-- a text that a command may be given
abbrev pub argument_of : Data → Option (List ℕ)
argument_of (string text) = without_byte_0 text
argument_of _ = None

-- the texts of a list
abbrev pub arguments_in : Items → Option (List (List ℕ))
arguments_in no_items = Some []
arguments_in (item d ds) = with_first (argument_of d) (arguments_in ds)

-- whether the first of some texts is there, and not empty
abbrev pub names_program : List (List ℕ) → Bool
names_program [] = false
names_program ([] ∷ texts) = false
names_program ((byte ∷ bytes) ∷ texts) = true

-- texts, if the first of them names a program
abbrev pub with_program : List (List ℕ) → Option (List (List ℕ))
with_program texts = if names_program texts then Some texts else None

-- the command: a list of texts, of which the first names the program
abbrev pub command_of : Option Data → Option (List (List ℕ))
command_of (Some (array ds)) = option_and_then with_program (arguments_in ds)
command_of _ = None

-- the input that a word names
abbrev pub input_named : List ℕ → Option InputData
input_named word =
    if bytes_eq word (codes "/dev/null") then Some no_input
    else if bytes_eq word (codes "NAME_PER_LINE") then Some names else None

-- the files as a JSON list, with the fields that a list names
abbrev pub list_input : Data → Option InputData
list_input d = option_map objects (fields_of (Some d))

-- the input: a word, or the fields of a JSON list; nothing if it is not there
abbrev pub input_of : Option Data → Option InputData
input_of None = Some no_input
input_of (Some (string word)) = input_named word
input_of (Some d) = list_input d

-- a count: a whole number from 0 to 2^62
abbrev pub file_count_of : Data → Option ℕ
file_count_of (number (unsigned n)) = if nat_le n max_number then Some n else None
file_count_of _ = None

-- the limit that a count sets; 0 sets none
abbrev pub limit_from : ℕ → Option ℕ
limit_from zero = None
limit_from (suc n) = Some (suc n)

-- the greatest count of files on the input: none if it is not there
abbrev pub limit_of : Option Data → Option (Option ℕ)
limit_of None = Some None
limit_of (Some d) = option_map limit_from (file_count_of d)

-- whether the program is a text, or not there
abbrev pub is_text_or_absent : Option Data → Bool
is_text_or_absent None = true
is_text_or_absent (Some (string text)) = true
is_text_or_absent (Some _) = false

-- the command that an object describes, apart from the files that matter
pub record ShapeData : Type 0 where
  pub name : List ℕ
  pub command : List (List ℕ)
  pub appends : Bool
  pub input : InputData
  pub limit : Option ℕ

-- the command that an object describes, if its keys have values of these kinds
abbrev pub shape_of : Data → Result ShapeData TriggerFault
shape_of d =
    unless_fault BadShape (not (has_left_out_trigger_key d)) (
    unless_fault BadShape (is_text_or_absent (get (codes "program") d)) (
    or_fault BadShape (trigger_name_of (get (codes "name") d)) (λ name.
    or_fault BadShape (flag_of (get (codes "append_files") d)) (λ appends.
    or_fault BadShape (limit_of (get (codes "max_files_stdin") d)) (λ limit.
    or_fault BadShape (command_of (get (codes "command") d)) (λ command.
    or_fault BadShape (input_of (get (codes "stdin") d)) (λ input.
    Ok (record {
      name = name;
      command = command;
      appends = appends;
      input = input;
      limit = limit;
    }))))))))

-- the keys that are known, in byte order
abbrev pub known_keys : List (List ℕ)
known_keys =
    codes "append_files" ∷ codes "command" ∷ codes "expression" ∷ codes "max_files_stdin"
    ∷ codes "name" ∷ codes "program" ∷ codes "stdin" ∷ []

-- members, and one more if it is there
abbrev pub with_key : List ℕ → Option Data → Members → Members
with_key key None ms = ms
with_key key (Some d) ms = with_member key d ms

-- members, and those with these keys that an object has
abbrev pub with_keys : List (List ℕ) → Data → Members → Members
with_keys [] d ms = ms
with_keys (key ∷ keys) d ms = with_keys keys d (with_key key (get key d) ms)

-- the object with the known keys alone
abbrev pub known_part : Data → Data
known_part d = object (with_keys known_keys d no_members)

-- a definition of a trigger: how its command is started, which files matter, as a query, and the
-- object with the known keys
pub record DefinitionData : Type 0 where
  pub shape : ShapeData
  pub query : QueryData
  pub object : Data

-- the definition that the object of a trigger gives at an instance: its faults are looked for in
-- this order
abbrev pub defines : InstanceData → Data → Result DefinitionData TriggerFault
defines instance d =
    unless_fault BadName (not (has_bad_length (get (codes "name") d))) (
    or_own_fault (shape_of d) (λ shape.
    or_its_fault Query (asks instance (known_part d)) (λ query.
    Ok (record { shape = shape; query = query; object = known_part d }))))
