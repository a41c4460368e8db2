-- The beginnings of `trigger` and `trigger-del`, and the reply to `trigger-list`: the server starts
-- commands for the files of a root, no longer starts them, and lists them.
-- From Watchman's documentation of these commands; programs and the order of faults are this
-- server's own.
use Rattle.std.specs.Prelude.{ℕ, Bool, not, List, map}
use Rattle.std.specs.Prelude.{Option, is_some, Result, Ok}
use Rattle.std.specs.Option.{option_and_then}
use Rattle.serde_json.specs.Data.{Data}
use Rattle.wq_base.specs.Fault.{or_fault, or_its_fault, or_own_fault, unless_fault}
use Rattle.wq_clock.specs.Instance.{InstanceData}
use Rattle.wq_code.specs.declared.raw.Raw.{Raw}
use Rattle.wq_follow.specs.Defining.{triggered}
use Rattle.wq_follow.specs.Definition.{DefinitionData, defines}
use Rattle.wq_follow.specs.Round.{TriggerData}
use Rattle.wq_follow.specs.declared.fault.TriggerFault.{TriggerFault}
use Rattle.wq_follow.specs.declared.fault.TriggerFault.TheVariants.{BadName as BadTriggerName, BadShape}
use Rattle.wq_follow.specs.declared.fault.TriggerFault.TheVariants.{Query as BadQuery, NoMemory as NoTriggerMemory}
use Rattle.wq_registry.specs.ByName.{ByName, has_no_place, under, values}
use Rattle.wq_registry.specs.Limit.{max_triggers}
use Rattle.wq_registry.specs.Shelf.{trigger_added, trigger_removed, triggers_of}
use Rattle.wq_session.specs.Out.{replies}
use Rattle.wq_ask.specs.Program.{is_name}
use Rattle.wq_ask.specs.declared.refusal.Refusal.{Refusal}
use Rattle.wq_ask.specs.declared.refusal.Refusal.TheVariants.{NotWatched, BadName}
use Rattle.wq_ask.specs.declared.refusal.Refusal.TheVariants.{BadTrigger, Query, TooManyTriggers, NoMemory}
use Rattle.wq_ask.specs.Trigger.{trigger_reply, triggers_reply, trigger_deleted_reply}
use Rattle.wq_crawl.specs.At.{AtData}
use Rattle.wq_session.specs.At.{ShelfNow}
use Rattle.wq_session.specs.Query.{program_for}
use Rattle.wq_session.specs.Work.{BegunData, says}

-- the line is refused for this fault of a trigger's object
abbrev pub trigger_refusal : TriggerFault → Refusal
trigger_refusal BadTriggerName = BadName
trigger_refusal BadShape = BadTrigger
trigger_refusal (BadQuery fault) = Query fault
trigger_refusal NoTriggerMemory = NoMemory

-- the definition of an object at an instance, or the refusal of the line
abbrev pub defined_by : InstanceData → Data → Result DefinitionData Refusal
defined_by instance d = or_its_fault trigger_refusal (defines instance d) Ok

-- the name of a definition
abbrev pub defined_name : DefinitionData → List ℕ
defined_name d = (d.shape).name

-- the trigger of a name, of the root of a number
abbrev pub trigger_called : ℕ → List ℕ → ShelfNow → Option TriggerData
trigger_called root name shelf = under name (triggers_of root shelf)

-- whether the root has no place for one more of this name
abbrev pub has_no_trigger_place : ℕ → List ℕ → ShelfNow → Bool
has_no_trigger_place root name shelf = has_no_place max_triggers name (triggers_of root shelf)

-- the run of the command of the trigger that is replaced, if there is one and its command runs
abbrev pub run_in : Option TriggerData → Option ℕ
run_in replaced = option_and_then (λ t. t.running) replaced

-- the objects that define triggers, in their order
abbrev pub objects_of : ByName TriggerData → List Data
objects_of ts = map (λ t. t.object) (values ts)

-- the trigger of a definition, by its program, which takes over the run of the one that it replaces
abbrev pub trigger_in : List ℕ → ℕ → DefinitionData → Option Raw → ShelfNow → TriggerData
trigger_in root number d program shelf =
    triggered d root program (run_in (trigger_called number (defined_name d) shelf))

-- the trigger of a definition, with its program, is put under its name for a root with this text
-- and number
abbrev pub put_trigger : List ℕ → ℕ → DefinitionData → Option Raw → ShelfNow
    → Result BegunData Refusal
put_trigger root number d program shelf =
    unless_fault TooManyTriggers (not (has_no_trigger_place number (defined_name d) shelf)) (
    Ok (record {
      work = says (replies (trigger_reply (defined_name d)
          (is_some (trigger_called number (defined_name d) shelf))));
      shelf = trigger_added number (defined_name d) (trigger_in root number d program shelf) shelf;
    }))

-- the same with the program that its query asks for
abbrev pub begun_read_trigger : List ℕ → ℕ → DefinitionData → ShelfNow → Result BegunData Refusal
begun_read_trigger root number d shelf =
    or_own_fault (program_for d.query shelf) (λ program. put_trigger root number d program shelf)

-- the beginning of `trigger` at its root
abbrev pub begun_trigger : List ℕ → Data → AtData → ShelfNow → Result BegunData Refusal
begun_trigger root d at shelf =
    or_fault NotWatched at.view (λ view.
    or_own_fault (defined_by at.instance d) (λ definition.
    begun_read_trigger root (at.instance).root definition shelf))

-- the reply to `trigger-list` at its root
abbrev pub triggers_at : AtData → ShelfNow → Data
triggers_at at shelf = triggers_reply (objects_of (triggers_of (at.instance).root shelf))

-- the beginning of `trigger-del` at its root
abbrev pub begun_delete_trigger : List ℕ → AtData → ShelfNow → Result BegunData Refusal
begun_delete_trigger name at shelf =
    unless_fault BadName (is_name name) (
    Ok (record {
      work = says (replies (trigger_deleted_reply name
          (is_some (trigger_called (at.instance).root name shelf))));
      shelf = trigger_removed (at.instance).root name shelf;
    }))
