-- The law about reading queries and their grammar. No public document defines it.
use Rattle.std.specs.Prelude.{◌≡◌, ◌↔◌, Ok}
use Rattle.serde_json.specs.Data.{Data}
use Rattle.wq_clock.specs.Instance.{InstanceData}
use Rattle.wq_query.specs.Query.{QueryData}
use Rattle.wq_query.specs.Reading.{asks}
use Rattle.wq_query.specs.Grammar.{IsWrittenBy}

-- a value asks a query exactly if the grammar has it as a writing of that query
abbrev pub ValuesAskWhatTheyWrite : Type 0
ValuesAskWhatTheyWrite = (instance : InstanceData) (query : QueryData) (d : Data)
    → (asks instance d ≡ Ok query) ↔ IsWrittenBy instance query d
