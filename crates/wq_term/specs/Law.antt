-- Laws about reading expressions and their grammar. No public document defines it.
use Rattle.std.specs.Prelude.{ℤ, ◌≡◌, ◌≤◌, ◌↔◌, true, Ok, Some}
use Rattle.serde_json.specs.Data.{Data}
use Rattle.wq_clock.specs.Instance.{InstanceData}
use Rattle.wq_clock.specs.declared.bound.Bound.{Bound}
use Rattle.wq_term.specs.Limit.{max_depth}
use Rattle.wq_term.specs.Argument.{bound_in, whole_number_of}
use Rattle.wq_term.specs.ArgumentGrammar.{IsBound, IsWhole}
use Rattle.wq_term.specs.Expr.{ExprData, depth_of}
use Rattle.wq_term.specs.Fits.{expr_fits}
use Rattle.wq_term.specs.Reading.{reads_as}
use Rattle.wq_term.specs.Grammar.{IsWrittenBy}

-- a value is read as an expression exactly if the grammar has it as a writing of that expression,
-- and it is at most 64 terms deep
abbrev pub ValuesSayWhatTheyWrite : Type 0
ValuesSayWhatTheyWrite = (instance : InstanceData) (t : ExprData) (d : Data)
    → (reads_as instance max_depth d ≡ Ok t) ↔ (IsWrittenBy instance t d × (depth_of t ≤ max_depth))

-- so an expression that is read is at most 64 terms deep
abbrev pub ReadExpressionsAreShallow : Type 0
ReadExpressionsAreShallow = (instance : InstanceData) (t : ExprData) (d : Data)
    → reads_as instance max_depth d ≡ Ok t → depth_of t ≤ max_depth

-- and its texts and numbers keep their limits
abbrev pub ReadExpressionsFit : Type 0
ReadExpressionsFit = (instance : InstanceData) (t : ExprData) (d : Data)
    → reads_as instance max_depth d ≡ Ok t → expr_fits t ≡ true

-- a value is read as a bound exactly if the grammar has it as a writing of that bound
abbrev pub BoundsSayWhatTheyWrite : Type 0
BoundsSayWhatTheyWrite = (instance : InstanceData) (bound : Bound) (d : Data)
    → (bound_in instance d ≡ Ok bound) ↔ IsBound instance bound d

-- and as a whole number exactly if it is an integer from -2^62 to 2^62
abbrev pub NumbersSayWhatTheyWrite : Type 0
NumbersSayWhatTheyWrite = (n : ℤ) (d : Data) → (whole_number_of d ≡ Some n) ↔ IsWhole n d
