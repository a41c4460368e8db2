-- Arguments of another number than a term has are wrong.
use Rattle.std.proofs.Common.{◌≡◌, ◌≢◌, ◌==◌, false, List, [], ◌∷◌, length, None, Err, refl, sym}
use mathlib.Core.Bool.{false≢true}
use Rattle.serde_json.specs.Data.{Data}
use Rattle.serde_json.specs.View.{items_view}
use Rattle.serde_json.specs.declared.value.Value.{Value}
use Rattle.wq_clock.specs.Instance.{InstanceData}
use Rattle.wq_base.specs.declared.compare.Case.{Case}
use Rattle.wq_term.specs.declared.fault.TermFault.TheVariants.{WrongArguments}
use Rattle.wq_term.specs.Expr.{ExprData}
use Rattle.wq_term.specs.Argument.{comparison_of}
use Rattle.wq_term.specs.Reading.{Answer, read_plain, read_kind, read_name, read_match, read_suffix}
use Rattle.wq_term.specs.Reading.{read_dirname, read_since, read_negation}

-- a term without arguments is given some
pub not_plain : (t : ExprData) (values : List Value) → (length values == 0) ≡ false
    → read_plain t (items_view values) ≡ Err WrongArguments
not_plain t [] e = absurd (false≢true (sym e))
not_plain t (v ∷ values) e = refl

-- `type` not with one
pub no_kind : (values : List Value) → length values ≢ 1
    → read_kind (items_view values) ≡ Err WrongArguments
no_kind [] e = refl
no_kind (v ∷ []) e = absurd (e refl)
no_kind (v ∷ w ∷ values) e = refl

-- `suffix` not with one
pub no_suffix : (values : List Value) → length values ≢ 1
    → read_suffix (items_view values) ≡ Err WrongArguments
no_suffix [] e = refl
no_suffix (v ∷ []) e = absurd (e refl)
no_suffix (v ∷ w ∷ values) e = refl

-- `not` not with one
pub no_negation : (read : Data → Answer) (values : List Value) → length values ≢ 1
    → read_negation read (items_view values) ≡ Err WrongArguments
no_negation read [] e = refl
no_negation read (v ∷ []) e = absurd (e refl)
no_negation read (v ∷ w ∷ values) e = refl

-- a comparison not with two
pub no_comparison : (values : List Value) → length values ≢ 2
    → comparison_of (items_view values) ≡ None
no_comparison [] f = refl
no_comparison (v ∷ []) f = refl
no_comparison (v ∷ w ∷ []) f = absurd (f refl)
no_comparison (v ∷ w ∷ x ∷ values) f = refl

-- `name` neither with one nor with two
pub no_name : (case : Case) (values : List Value) → length values ≢ 1 → length values ≢ 2
    → read_name case (items_view values) ≡ Err WrongArguments
no_name case [] e f = refl
no_name case (v ∷ []) e f = absurd (e refl)
no_name case (v ∷ w ∷ []) e f = absurd (f refl)
no_name case (v ∷ w ∷ x ∷ values) e f = refl

-- `dirname` neither with one nor with two
pub no_dirname : (case : Case) (values : List Value) → length values ≢ 1 → length values ≢ 2
    → read_dirname case (items_view values) ≡ Err WrongArguments
no_dirname case [] e f = refl
no_dirname case (v ∷ []) e f = absurd (e refl)
no_dirname case (v ∷ w ∷ []) e f = absurd (f refl)
no_dirname case (v ∷ w ∷ x ∷ values) e f = refl

-- `since` neither with one nor with two
pub no_since : (instance : InstanceData) (values : List Value) → length values ≢ 1
    → length values ≢ 2
    → read_since instance (items_view values) ≡ Err WrongArguments
no_since instance [] e f = refl
no_since instance (v ∷ []) e f = absurd (e refl)
no_since instance (v ∷ w ∷ []) e f = absurd (f refl)
no_since instance (v ∷ w ∷ x ∷ values) e f = refl

-- `match` neither with one nor with two nor with three
pub no_match : (case : Case) (values : List Value) → length values ≢ 1 → length values ≢ 2
    → length values ≢ 3 → read_match case (items_view values) ≡ Err WrongArguments
no_match case [] e f g = refl
no_match case (v ∷ []) e f g = absurd (e refl)
no_match case (v ∷ w ∷ []) e f g = absurd (f refl)
no_match case (v ∷ w ∷ x ∷ []) e f g = absurd (g refl)
no_match case (v ∷ w ∷ x ∷ y ∷ values) e f g = refl
