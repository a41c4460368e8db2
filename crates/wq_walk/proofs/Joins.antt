-- Rows after rows.
use Rattle.std.proofs.Common.{◌≡◌, List, ◌∷◌, Bool, IsTrue, ◌++◌, append_assoc, ap, ◌∙◌}
use Rattle.std.proofs.lemmas.Bool.{and_from}
use Rattle.std.specs.List.{flat_map, list_all}
use Rattle.std.proofs.lemmas.List.Folds.{list_all-append}

-- if two lists pass a test, both pass it, one after the other
pub all_of_both : {X : Type 0} (p : X → Bool) (xs ys : List X) →
    IsTrue (list_all p xs) → IsTrue (list_all p ys) → IsTrue (list_all p (xs ++ ys))
all_of_both p xs ys all rest = list_all-append p xs ys ∙ and_from _ _ all rest

-- the rows of one more piece come after those that were joined
pub one_more : {X Y : Type 0} (rows : X → List Y) (made new whole : List Y) (piece : X) (pieces left : List X) →
    pieces ≡ piece ∷ left → new ≡ made ++ rows piece → made ++ flat_map rows pieces ≡ whole → new ++ flat_map rows left ≡ whole
one_more rows made new whole piece pieces left are is all = ap (λ xs. xs ++ flat_map rows left) is ∙ append_assoc made (rows piece) (flat_map rows left) ∙ rw are at all
