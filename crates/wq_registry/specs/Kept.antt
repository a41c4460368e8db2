-- The programs that may be kept for a text. No public document defines it.
use Rattle.std.specs.Prelude.{ℕ, ◌≡◌, ◌≤◌, false, List, Some, Ok, Contains}
use Rattle.std.specs.declared.sync.Arc.{Arc}
use Rattle.std.specs.String.{string_bytes}
use Rattle.serde_json.specs.Data.{Data}
use Rattle.serde_json.specs.Read.{read}
use Rattle.wq_clock.specs.Instance.{InstanceData}
use Rattle.wq_code.specs.declared.raw.Raw.{Raw}
use Rattle.wq_verify.specs.Budget.{budget_of}
use Rattle.wq_record.specs.Limit.{max_name}
use Rattle.wq_term.specs.Expr.{ExprData}
use Rattle.wq_term.specs.Limit.{max_depth}
use Rattle.wq_term.specs.Reading.{reads_as}
use Rattle.wq_compile.specs.Cost.{most_steps_of}
use Rattle.wq_compile.specs.Large.{is_too_large}
use Rattle.wq_compile.specs.Meaning.{AnswersMeaning}
use Rattle.wq_registry.specs.declared.key.Key.{Key}

-- the server of a cache: the second at which it started, and its process
pub record CacheData : Type 0 where
  pub start : ℕ
  pub pid : ℕ

-- an instance of that server: a root of it
abbrev pub instance_at : CacheData → ℕ → InstanceData
instance_at cache root = record { start = cache.start; pid = cache.pid; root = root }

-- a program stands for a text at an instance. If the text is of a value that is an expression
-- there, that expression is not too large, and the program answers its meaning and costs no more
-- than the expression's measure
unfoldable pub StandsFor : InstanceData → List ℕ → Raw → Type 0
StandsFor instance text raw =
    (d : Data) (t : ExprData) → read text ≡ Some d → reads_as instance max_depth d ≡ Ok t
    → AnswersMeaning raw t × (is_too_large t ≡ false)
    × (budget_of raw max_name ≤ most_steps_of t)

-- each program that is kept stands for the text of its key at the root of its key
abbrev pub KeepsMeanings : {Z : Type 0} → CacheData → List (Key × Arc Raw Z) → Type 0
KeepsMeanings {Z} cache kept = (e : Key × Arc Raw Z) → Contains kept e
    → StandsFor (instance_at cache (e.0).root) (string_bytes (e.0).text) (e.1).value
