-- `clock`, the last pass over a root: its request and its reply.
-- From Watchman's documentation of this command.
use Rattle.std.specs.Prelude.{ℕ, pos, Bool, false, int_lt, List, codes}
use Rattle.std.specs.Prelude.{Option, Some, None, option_and_then, Result, Ok}
use Rattle.std.specs.Option.{option_map_or}
use Rattle.serde_json.specs.Data.{Data, string, object, Items, no_items, item, no_members, member}
use Rattle.serde_json.specs.Find.{get}
use Rattle.wq_base.specs.Fault.{or_fault}
use Rattle.wq_base.specs.Version.{version}
use Rattle.wq_term.specs.Argument.{whole_number_of}
use Rattle.wq_ask.specs.Argument.{RequestData, complete}
use Rattle.wq_ask.specs.Root.{root_named}
use Rattle.wq_ask.specs.declared.ask.Ask.TheVariants.{OfRoot}
use Rattle.wq_ask.specs.declared.ask.RootAsk.TheVariants.{Reads}
use Rattle.wq_ask.specs.declared.ask.RootRead.TheVariants.{Clock}
use Rattle.wq_ask.specs.declared.refusal.Refusal.{Refusal}
use Rattle.wq_ask.specs.declared.refusal.Refusal.TheVariants.{WrongArguments}

-- whether the options of `clock` ask for a crawl of the root first: by a whole number above 0
abbrev pub asks_crawl : Data → Bool
asks_crawl options =
    option_map_or (int_lt (pos 0))
    (option_and_then whole_number_of (get (codes "sync_timeout") options)) false

-- the root of `clock`, which an object of options may follow, and whether it is to be crawled
abbrev pub clock_arguments : Items → Option (List ℕ × Bool)
clock_arguments (item (string root) no_items) = Some (root, false)
clock_arguments (item (string root) (item (object members) no_items)) =
    Some (root, asks_crawl (object members))
clock_arguments _ = None

-- `clock` requests the clock of a root
abbrev pub clock_request : Items → Result RequestData Refusal
clock_request arguments =
    or_fault WrongArguments (clock_arguments arguments) (λ (root, crawl).
    Ok (complete (OfRoot (root_named root) crawl (Reads Clock))))

-- the reply with a clock id
abbrev pub clock_data : List ℕ → Data
clock_data clock =
    object (member (codes "clock") (string clock)
    (member (codes "version") (string version) no_members))
