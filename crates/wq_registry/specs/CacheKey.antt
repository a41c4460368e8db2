-- The keys of expressions among the programs that are kept. No public document defines them.
use Rattle.std.specs.Prelude.{ℕ, ◌≡◌, List, Some, Ok}
use Rattle.serde_json.specs.Data.{Data}
use Rattle.serde_json.specs.Read.{read}
use Rattle.wq_clock.specs.Instance.{InstanceData}
use Rattle.wq_code.specs.declared.raw.Raw.{Raw}
use Rattle.wq_term.specs.Expr.{ExprData}
use Rattle.wq_term.specs.Limit.{max_depth}
use Rattle.wq_term.specs.Reading.{reads_as}

-- the instance at which an expression was read, and its text
pub record CacheKeyData : Type 0 where
  pub instance : InstanceData
  pub text : List ℕ

-- the text of a key is of a value that says this expression at its instance
abbrev pub Says : CacheKeyData → ExprData → Type 0
Says key t =
    (d : Data) × (read key.text ≡ Some d) × (reads_as key.instance max_depth d ≡ Ok t)

-- a program that may be kept, and its key
pub record CompiledData : Type 0 where
  pub key : CacheKeyData
  pub program : Raw
