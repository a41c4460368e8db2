-- Reading the items of a list from the front: the items that were read, and the rest.
use Rattle.std.proofs.Common.{◌≡◌, ℕ, ◌+◌, ◌<◌, List, [], ◌∷◌, ◌++◌, length, drop, get_or}
use Rattle.std.proofs.Common.{Option, Some, None, Err, sym, ap, ◌∙◌}
use Rattle.serde_json.specs.Data.{Data, Items, item}
use Rattle.serde_json.specs.View.{view as data_of, items_view}
use Rattle.serde_json.specs.declared.value.Value.{Value}
use Rattle.wq_base.specs.Fault.{with_first}
use Rattle.wq_base.proofs.Fault.{before, before-push, before-none}
use Rattle.wq_term.proofs.Lists.{items_from}
use Rattle.wq_query.specs.declared.fault.QueryFault.{QueryFault}
use Rattle.wq_query.specs.declared.fault.QueryFault.TheVariants.{LeftOutKey, ExpressionAndProgram, Expression}
use Rattle.wq_query.specs.declared.fault.QueryFault.TheVariants.{UnknownField, BadGenerator, PatternTooLong}
use Rattle.wq_query.specs.declared.fault.QueryFault.TheVariants.{BadClockSpec, WrongValue, NoMemory}
use Rattle.wq_query.specs.Outcome.{GivesGenerator, GivesPattern}

-- each item is read by itself, and a list with a wrong item is wrong
abbrev pub ReadsEach : {A : Type 0} → (Data → Option A) → (Items → Option (List A)) → Type 0
ReadsEach one all = (d : Data) (ds : Items) → all (item d ds) ≡ with_first (one d) (all ds)

-- one more item is read
pub read_more : {A : Type 0} (one : Data → Option A) (all : Items → Option (List A))
    → ReadsEach one all → (values : List Value) (i : ℕ) (v : Value) (xs : List A) (x : A)
    (whole : Option (List A)) → i < length values → v ≡ get_or values i v
    → one (data_of v) ≡ Some x → before xs (all (items_view (drop i values))) ≡ whole
    → before (xs ++ x ∷ []) (all (items_view (drop (i + 1) values))) ≡ whole
read_more one all each values i v xs x whole h here is so_far =
    before-push xs x (all (items_view (drop (i + 1) values)))
    ∙ ap (λ o. before xs (with_first o (all (items_view (drop (i + 1) values))))) (sym is)
    ∙ ap (before xs) (sym (each (data_of v) (items_view (drop (i + 1) values))))
    ∙ ap (λ ds. before xs (all ds)) (sym (items_from values i v h here)) ∙ so_far

-- a wrong item
pub read_none : {A : Type 0} (one : Data → Option A) (all : Items → Option (List A))
    → ReadsEach one all → (values : List Value) (i : ℕ) (v : Value) (xs : List A)
    (whole : Option (List A)) → i < length values → v ≡ get_or values i v
    → one (data_of v) ≡ None → before xs (all (items_view (drop i values))) ≡ whole
    → whole ≡ None
read_none one all each values i v xs whole h here is so_far =
    sym so_far ∙ ap (λ ds. before xs (all ds)) (items_from values i v h here)
    ∙ ap (before xs) (each (data_of v) (items_view (drop (i + 1) values)))
    ∙ ap (λ o. before xs (with_first o (all (items_view (drop (i + 1) values))))) is
    ∙ before-none xs

-- a fault that an item has is one of the list
pub refused : {A B : Type 0} (fault : QueryFault) (one : Option A) (all : Option B)
    → GivesGenerator {A = A} (Err fault) one → (one ≡ None → all ≡ None)
    → GivesGenerator {A = B} (Err fault) all
refused BadGenerator one all h none = none h
refused NoMemory one all h none = tt
refused LeftOutKey one all h none = absurd h
refused ExpressionAndProgram one all h none = absurd h
refused (Expression fault) one all h none = absurd h
refused UnknownField one all h none = absurd h
refused BadClockSpec one all h none = absurd h
refused WrongValue one all h none = absurd h
refused PatternTooLong one all h none = absurd h

-- the same of a list of patterns
pub refused_pattern : {A B : Type 0} (fault : QueryFault) (one : Option A) (all : Option B)
    → GivesPattern {A = A} (Err fault) one → (one ≡ None → all ≡ None)
    → GivesPattern {A = B} (Err fault) all
refused_pattern PatternTooLong one all h none = none h
refused_pattern NoMemory one all h none = tt
refused_pattern LeftOutKey one all h none = absurd h
refused_pattern ExpressionAndProgram one all h none = absurd h
refused_pattern (Expression fault) one all h none = absurd h
refused_pattern UnknownField one all h none = absurd h
refused_pattern BadGenerator one all h none = absurd h
refused_pattern BadClockSpec one all h none = absurd h
refused_pattern WrongValue one all h none = absurd h
