-- The words after the first.
use Rattle.std.proofs.Common.{◌≡◌, ℕ, suc, false, List, [], ◌∷◌, length, leb, ◌==◌, refl, sym, arith}
use Rattle.std.proofs.lemmas.Bool.Decides.{nat_tests}
use mathlib.Core.Bool.{false≢true}
use Rattle.serde_json.specs.View.{items_view, view}
use Rattle.serde_json.specs.Data.{Data, null, boolean, number, string, array, object, Items, item}
use Rattle.serde_json.specs.declared.value.Value.{Value}
use Rattle.wq_ask.specs.Argument.{are_none, are_options, behind}

-- two are more than one
two_are_more : (n : ℕ) → leb (suc (suc n)) 1 ≡ false
two_are_more n = grind (arith, nat_tests)

-- nothing follows one word, or none
pub none_behind : (words : List Value) → leb (length words) 1 ≡ are_none (behind (items_view words))
none_behind [] = refl
none_behind (word ∷ []) = refl
none_behind (word ∷ next ∷ words) = two_are_more (length words)

-- two values are no options
two_values : (d e : Data) (ds : Items) → are_options (item d (item e ds)) ≡ false
two_values null e ds = refl
two_values (boolean b) e ds = refl
two_values (number n) e ds = refl
two_values (string text) e ds = refl
two_values (array items) e ds = refl
two_values (object ms) e ds = refl

-- nothing may follow the options
pub more_options : (value : Value) (rest values : List Value) → values ≡ value ∷ rest → (length rest == 0) ≡ false
    → false ≡ are_options (items_view values)
more_options value [] values is more = absurd (false≢true (sym more))
more_options value (v ∷ vs) values is more = rw is (sym (two_values (view value) (view v) (items_view vs)))
