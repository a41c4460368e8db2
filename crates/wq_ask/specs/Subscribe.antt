-- `subscribe` and `unsubscribe`, by which the server tells a client of changes without being asked:
-- their requests and their replies.
-- From Watchman's documentation of these commands.
use Rattle.std.specs.Prelude.{◌≡◌, ℕ, Bool, false, List, codes, Option, Some, None, Result, Ok}
use Rattle.serde_json.specs.Data.{Data, boolean, string, object, Items, no_items, item}
use Rattle.serde_json.specs.Data.{no_members, member}
use Rattle.serde_json.specs.View.{view as data_of}
use Rattle.wq_base.specs.Fault.{or_fault}
use Rattle.wq_base.specs.Version.{version}
use Rattle.wq_ask.specs.Argument.{RequestData, complete, subscribes, two_texts}
use Rattle.wq_ask.specs.Root.{root_named}
use Rattle.wq_ask.specs.declared.ask.Ask.{Ask}
use Rattle.wq_ask.specs.declared.ask.Ask.TheVariants.{OfRoot}
use Rattle.wq_ask.specs.declared.ask.RootAsk.TheVariants.{Subscribe, Unsubscribe}
use Rattle.wq_ask.specs.declared.refusal.Refusal.{Refusal}
use Rattle.wq_ask.specs.declared.refusal.Refusal.TheVariants.{WrongArguments}

-- the root, the name and the object of `subscribe`
abbrev pub subscribe_arguments : Items → Option (List ℕ × (List ℕ × Data))
subscribe_arguments (item (string root) (item (string name) (item (object members) no_items))) =
    Some (root, (name, object members))
subscribe_arguments _ = None

-- `subscribe` requests that the server tells the client of the files of a root that an object asks
-- for, under a name
abbrev pub subscribe_request : Items → Result RequestData Refusal
subscribe_request arguments =
    or_fault WrongArguments (subscribe_arguments arguments) (λ (root, (name, d)).
    Ok (subscribes (root_named root) name d))

-- `unsubscribe` requests that the server no longer tells the client under that name
abbrev pub unsubscribe_request : Items → Result RequestData Refusal
unsubscribe_request arguments =
    or_fault WrongArguments (two_texts arguments) (λ (root, name).
    Ok (complete (OfRoot (root_named root) false (Unsubscribe name))))

-- the ask to tell the client
abbrev pub IsSubscribing : List ℕ → List ℕ → Data → Ask → Type 0
IsSubscribing root name d (OfRoot r c (Subscribe n q)) =
    (r ≡ root) × (c ≡ false) × (n ≡ name) × (data_of q ≡ d)
IsSubscribing root name d _ = ⊥

-- the reply that the subscription has begun, at this clock id
abbrev pub subscribe_data : List ℕ → List ℕ → Data
subscribe_data clock name =
    object (member (codes "clock") (string clock)
    (member (codes "subscribe") (string name)
    (member (codes "version") (string version) no_members)))

-- the reply that the subscription has ended, and whether there was one
abbrev pub unsubscribe_data : List ℕ → Bool → Data
unsubscribe_data name deleted =
    object (member (codes "deleted") (boolean deleted)
    (member (codes "unsubscribe") (string name)
    (member (codes "version") (string version) no_members)))
