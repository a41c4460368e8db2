-- `trigger`, `trigger-list` and `trigger-del`, by which the server starts commands for the files of
-- a root: their requests and their replies.
-- From Watchman's documentation of these commands.
use Rattle.std.specs.Prelude.{◌≡◌, ℕ, Bool, true, false, List, codes}
use Rattle.std.specs.Prelude.{Option, Some, None, Result, Ok}
use Rattle.serde_json.specs.Data.{Data, boolean, string, array, object, Items, no_items, item}
use Rattle.serde_json.specs.Data.{no_members, member}
use Rattle.serde_json.specs.View.{items_of, view as data_of}
use Rattle.wq_base.specs.Fault.{or_fault}
use Rattle.wq_base.specs.Version.{version}
use Rattle.wq_ask.specs.Argument.{RequestData, complete, triggers, one_text, two_texts}
use Rattle.wq_ask.specs.Root.{root_named}
use Rattle.wq_ask.specs.declared.ask.Ask.{Ask}
use Rattle.wq_ask.specs.declared.ask.Ask.TheVariants.{OfRoot}
use Rattle.wq_ask.specs.declared.ask.RootAsk.TheVariants.{Reads, AddTrigger, DeleteTrigger}
use Rattle.wq_ask.specs.declared.ask.RootRead.TheVariants.{ListTriggers}
use Rattle.wq_ask.specs.declared.refusal.Refusal.{Refusal}
use Rattle.wq_ask.specs.declared.refusal.Refusal.TheVariants.{WrongArguments}

-- the root and the object of `trigger`
abbrev pub trigger_arguments : Items → Option (List ℕ × Data)
trigger_arguments (item (string root) (item (object members) no_items)) =
    Some (root, object members)
trigger_arguments _ = None

-- `trigger` requests that the server starts a command for the files of a root, as an object says
abbrev pub trigger_request : Items → Result RequestData Refusal
trigger_request arguments =
    or_fault WrongArguments (trigger_arguments arguments) (λ (root, d).
    Ok (triggers (root_named root) d))

-- `trigger-list` requests the triggers of a root
abbrev pub list_triggers_request : Items → Result RequestData Refusal
list_triggers_request arguments =
    or_fault WrongArguments (one_text arguments) (λ root.
    Ok (complete (OfRoot (root_named root) false (Reads ListTriggers))))

-- `trigger-del` requests that the server drops a trigger of a root
abbrev pub delete_trigger_request : Items → Result RequestData Refusal
delete_trigger_request arguments =
    or_fault WrongArguments (two_texts arguments) (λ (root, name).
    Ok (complete (OfRoot (root_named root) false (DeleteTrigger name))))

-- an ask is for the trigger of an object, of a root
abbrev pub IsTriggering : List ℕ → Data → Ask → Type 0
IsTriggering root d (OfRoot r c (AddTrigger t)) = (r ≡ root) × (c ≡ false) × (data_of t ≡ d)
IsTriggering root d _ = ⊥

-- the word for the change of the trigger
abbrev pub disposition : Bool → List ℕ
disposition false = codes "created"
disposition true = codes "replaced"

-- the reply that there is a trigger of this name, and whether it replaced one
abbrev pub trigger_reply : List ℕ → Bool → Data
trigger_reply name replaced =
    object (member (codes "disposition") (string (disposition replaced))
    (member (codes "triggerid") (string name)
    (member (codes "version") (string version) no_members)))

-- the triggers of a root, by their objects
abbrev pub triggers_reply : List Data → Data
triggers_reply objects =
    object (member (codes "triggers") (array (items_of objects))
    (member (codes "version") (string version) no_members))

-- the reply that there is no trigger of this name, and whether there was one
abbrev pub trigger_deleted_reply : List ℕ → Bool → Data
trigger_deleted_reply name deleted =
    object (member (codes "deleted") (boolean deleted)
    (member (codes "trigger") (string name)
    (member (codes "version") (string version) no_members)))
