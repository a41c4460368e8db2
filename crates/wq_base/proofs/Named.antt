-- The row that is found in a table of names.
use Rattle.std.proofs.Common.{◌≡◌, ℕ, Bool, true, false, cond, List, [], ◌∷◌, Some, refl, ap, ◌∙◌}
use Rattle.std.specs.Str.{bytes_eq}
use Rattle.std.proofs.lemmas.Slice.Eq.{bytes_eq-Decides}
use Rattle.std.proofs.lemmas.Option.{same_Some}
use Rattle.wq_base.specs.Table.{named}

-- the text is the name of the row that is found
pub named-name : {A : Type 0} (name_of : A → List ℕ) (all : List A) (text : List ℕ) (a : A)
    → named name_of all text ≡ Some a → text ≡ name_of a
named-name name_of [] text a e = cc
named-name {A} name_of (x ∷ all) text a e =
    at (bytes_eq text (name_of x)) (bytes_eq-Decides text (name_of x)).0 (named-name name_of all text a) e
  where
    at : (b : Bool) → (b ≡ true → text ≡ name_of x)
        → (named name_of all text ≡ Some a → text ≡ name_of a)
        → cond b (Some x) (named name_of all text) ≡ Some a → text ≡ name_of a
    at true is rest e = is refl ∙ ap name_of (same_Some x a e)
    at false is rest e = rest e
