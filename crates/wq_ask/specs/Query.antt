-- The request of `query`, the files of a root, or those that changed.
-- From Watchman's documentation of `query` and of synchronisation (`sync_timeout`).
use Rattle.std.specs.Prelude.{◌≡◌, ℕ, pos, Bool, true, false, not, List, codes}
use Rattle.std.specs.Prelude.{Option, Some, None, Result, Ok}
use Rattle.std.specs.Option.{option_map_or}
use Rattle.std.specs.Ordering.{int_eq}
use Rattle.serde_json.specs.Data.{Data, string, object, Items, no_items, item}
use Rattle.serde_json.specs.Find.{get}
use Rattle.serde_json.specs.View.{view as data_of}
use Rattle.wq_base.specs.Fault.{or_fault}
use Rattle.wq_term.specs.Argument.{whole_number_of}
use Rattle.wq_ask.specs.Argument.{RequestData, queries}
use Rattle.wq_ask.specs.Root.{root_named}
use Rattle.wq_ask.specs.declared.ask.Ask.{Ask}
use Rattle.wq_ask.specs.declared.ask.Ask.TheVariants.{OfRoot}
use Rattle.wq_ask.specs.declared.ask.RootAsk.TheVariants.{Query as AsksQuery}
use Rattle.wq_ask.specs.declared.refusal.Refusal.{Refusal}
use Rattle.wq_ask.specs.declared.refusal.Refusal.TheVariants.{WrongArguments}

-- the root and the object of `query`
abbrev pub query_arguments : Items → Option (List ℕ × Data)
query_arguments (item (string root) (item (object members) no_items)) =
    Some (root, object members)
query_arguments _ = None

-- whether the server crawls before it answers a query: unless the key says 0, or is no whole number
abbrev pub synchronises : Option Data → Bool
synchronises None = true
synchronises (Some d) = option_map_or (λ n. not (int_eq n (pos 0))) (whole_number_of d) false

-- whether the server crawls before it answers the query of an object
abbrev pub crawls_first : Data → Bool
crawls_first d = synchronises (get (codes "sync_timeout") d)

-- `query` requests the files of a root
abbrev pub query_request : Items → Result RequestData Refusal
query_request arguments =
    or_fault WrongArguments (query_arguments arguments) (λ (root, d).
    Ok (queries (root_named root) (crawls_first d) d))

-- the ask of a query for files
abbrev pub IsQuerying : List ℕ → Bool → Data → Ask → Type 0
IsQuerying root crawl d (OfRoot r c (AsksQuery q)) = (r ≡ root) × (c ≡ crawl) × (data_of q ≡ d)
IsQuerying root crawl d _ = ⊥
