-- The start of a trigger's command: its arguments, its environment and its input.
-- From Watchman's documentation of `trigger`; the limit of appended names is this server's own.
use Rattle.std.specs.Prelude.{◌≤◌, ℕ, suc, ◌+◌, ◌-◌, Bool, true, false, ◌&&◌, ◌||◌, nat_lt}
use Rattle.std.specs.Prelude.{if◌then◌else◌, List, [], ◌∷◌, ◌++◌, length, map, take, flat_map}
use Rattle.std.specs.Prelude.{codes, Option, Some, None}
use mathlib.Core.List.{IsPrefix}
use Rattle.serde_json.specs.Written.{compact_text}
use Rattle.wq_clock.specs.ClockText.{clock_text}
use Rattle.wq_clock.specs.Instance.{InstanceData}
use Rattle.wq_clock.specs.declared.bound.Bound.{Bound}
use Rattle.wq_clock.specs.declared.bound.Bound.TheVariants.{Tick}
use Rattle.wq_query.specs.declared.field.Field.{Field}
use Rattle.wq_reply.specs.Following.{files_data}
use Rattle.wq_record.specs.RecordData.{RecordData}
use Rattle.wq_follow.specs.Batch.{BatchData}

-- how many bytes appended names may have together, with one more for each
abbrev pub max_appended : ℕ
max_appended = 65536

-- how many bytes names take, with one more for each
abbrev pub weight : List (List ℕ) → ℕ
weight [] = 0
weight (name ∷ names) = suc (length name) + weight names

-- the first names, as long as there is room for the name and one byte more
abbrev pub fitting : ℕ → List (List ℕ) → List (List ℕ)
fitting room [] = []
fitting room (name ∷ names) =
    if nat_lt (length name) room then name ∷ fitting (room - suc (length name)) names else []

-- they are the longest front of the names for which there is room
abbrev pub LongestFront : Type 0
LongestFront = (room : ℕ) (names : List (List ℕ))
    → IsPrefix (fitting room names) names × (weight (fitting room names) ≤ room)
    × ((front : List (List ℕ)) → IsPrefix front names → weight front ≤ room
    → length front ≤ length (fitting room names))

-- the input of a command: nothing, each name with a newline, or the files as a JSON list
pub data InputData : Type 0 where
  no_input : InputData
  names : InputData
  objects : List Field → InputData

-- how a trigger starts its command
pub record OrderData : Type 0 where
  pub name : List ℕ
  pub root : List ℕ
  -- the program and its first arguments
  pub command : List (List ℕ)
  pub appends : Bool
  pub input : InputData
  -- the greatest count of files on the input
  pub limit : Option ℕ

-- the variables of a command that are added to the server's environment
pub record EnvData : Type 0 where
  pub clock : List ℕ
  -- whether a list was cut
  pub overflow : Bool
  pub root : List ℕ
  -- the clock of the batch before, unless there was none
  pub since : Option (List ℕ)
  pub trigger : List ℕ

-- the start of a command
pub record StartData : Type 0 where
  pub args : List (List ℕ)
  pub env : EnvData
  pub input : List ℕ

-- the names of files
abbrev pub file_names : List RecordData → List (List ℕ)
file_names files = map (λ r. r.name) files

-- the names that are appended to a command
abbrev pub appended : Bool → List RecordData → List (List ℕ)
appended false files = []
appended true files = fitting max_appended (file_names files)

-- the first so many of some things; all of them without a limit
abbrev pub taken : {A : Type 0} → Option ℕ → List A → List A
taken None xs = xs
taken (Some limit) xs = take limit xs

-- the names of files, each with a newline
abbrev pub name_lines : List RecordData → List ℕ
name_lines files = flat_map (λ r. r.name ++ codes "\n") files

-- the input of a command, of these files
abbrev pub input_text : InputData → InstanceData → Bound → List RecordData → List ℕ
input_text no_input instance from files = []
input_text names instance from files = name_lines files
input_text (objects fields) instance from files =
    compact_text (files_data fields instance from files) ++ codes "\n"

-- whether the input leaves out some of so many files: a command without input leaves out none
abbrev pub cuts_input : InputData → Option ℕ → ℕ → Bool
cuts_input no_input limit count = false
cuts_input names None count = false
cuts_input (objects fields) None count = false
cuts_input names (Some limit) count = nat_lt limit count
cuts_input (objects fields) (Some limit) count = nat_lt limit count

-- whether a list is cut, when so many names are appended of so many files
abbrev pub cuts : OrderData → ℕ → ℕ → Bool
cuts order appended count =
    (order.appends && nat_lt appended count) || cuts_input order.input order.limit count

-- the clock of a tick, unless the bound is none
abbrev pub since_text : InstanceData → Bound → Option (List ℕ)
since_text instance (Tick tick) = Some (clock_text instance tick)
since_text instance _ = None

-- the environment for a batch from a bound up to a tick
abbrev pub env_of : OrderData → InstanceData → Bound → ℕ → Bool → EnvData
env_of order instance from now overflow = record {
  clock = clock_text instance now;
  overflow = overflow;
  root = order.root;
  since = since_text instance from;
  trigger = order.name;
}

-- the start of a command for a batch
abbrev pub start_of : OrderData → InstanceData → BatchData → StartData
start_of order instance batch =
    let more = appended order.appends batch.files in
    record {
      args = order.command ++ more;
      env = env_of order instance batch.from batch.now
          (cuts order (length more) (length batch.files));
      input = input_text order.input instance batch.from (taken order.limit batch.files);
    }

-- a variable of the environment
abbrev pub var : List ℕ → List ℕ → List ℕ × List ℕ
var key value = (key, value)

-- a variable that may not be there
abbrev pub var_if : List ℕ → Option (List ℕ) → List (List ℕ × List ℕ)
var_if key None = []
var_if key (Some value) = var key value ∷ []

-- the variables, in the byte order of their names
abbrev pub vars_of : EnvData → List (List ℕ × List ℕ)
vars_of env =
    var (codes "WATCHMAN_CLOCK") env.clock
    ∷ (var_if (codes "WATCHMAN_FILES_OVERFLOW") (if env.overflow then Some (codes "true") else None)
    ++ (var (codes "WATCHMAN_ROOT") env.root
    ∷ (var_if (codes "WATCHMAN_SINCE") env.since
    ++ var (codes "WATCHMAN_TRIGGER") env.trigger ∷ [])))
