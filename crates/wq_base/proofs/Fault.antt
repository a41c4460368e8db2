-- The end of a chain of faults, and the facts about its parts.
use Rattle.std.proofs.Common.{◌≡◌, Bool, true, false, List, [], ◌∷◌, ◌++◌, Option, Some, None}
use Rattle.std.proofs.Common.{Result, Ok, Err}
use Rattle.std.proofs.Common.{refl, ap}
use Rattle.std.proofs.lemmas.Option.{same_Some}
use Rattle.wq_base.specs.Fault.{or_fault, unless_fault, or_its_fault, or_own_fault, with_first}

-- the chain had a value at this step
pub or_fault-ok : {A B E P : Type 0} (fault : E) (o : Option A) (next : A → Result B E) (b : B)
    → or_fault fault o next ≡ Ok b → ((a : A) → o ≡ Some a → next a ≡ Ok b → P) → P
or_fault-ok fault None next b e goal = cc
or_fault-ok fault (Some a) next b e goal = goal a refl e

-- the test held
pub unless_fault-ok : {B E P : Type 0} (fault : E) (test : Bool) (next : Result B E) (b : B)
    → unless_fault fault test next ≡ Ok b → (test ≡ true → next ≡ Ok b → P) → P
unless_fault-ok fault false next b e goal = cc
unless_fault-ok fault true next b e goal = goal refl e

-- the result was no fault
pub or_its_fault-ok : {A B E F P : Type 0} (of : E → F) (r : Result A E) (next : A → Result B F) (b : B)
    → or_its_fault of r next ≡ Ok b → ((a : A) → r ≡ Ok a → next a ≡ Ok b → P) → P
or_its_fault-ok of (Err fault) next b e goal = cc
or_its_fault-ok of (Ok a) next b e goal = goal a refl e

-- the same for a result that keeps its fault
pub or_own_fault-ok : {A B E P : Type 0} (r : Result A E) (next : A → Result B E) (b : B)
    → or_own_fault r next ≡ Ok b → ((a : A) → r ≡ Ok a → next a ≡ Ok b → P) → P
or_own_fault-ok (Err fault) next b e goal = cc
or_own_fault-ok (Ok a) next b e goal = goal a refl e

-- the result for a list whose first values are read
abbrev pub before : {A : Type 0} → List A → Option (List A) → Option (List A)
before [] rest = rest
before (x ∷ xs) rest = with_first (Some x) (before xs rest)

-- one more value is read
pub before-push : {A : Type 0} (xs : List A) (x : A) (rest : Option (List A))
    → before (xs ++ x ∷ []) rest ≡ before xs (with_first (Some x) rest)
before-push [] x rest = refl
before-push (y ∷ xs) x rest = ap (with_first (Some y)) (before-push xs x rest)

-- at the end the list has the values that were read
pub before-end : {A : Type 0} (xs : List A) → before xs (Some []) ≡ Some xs
before-end [] = refl
before-end (x ∷ xs) = ap (with_first (Some x)) (before-end xs)

-- a value that is missing makes the list missing
pub before-none : {A : Type 0} (xs : List A) → before xs None ≡ None
before-none [] = refl
before-none (x ∷ xs) = ap (with_first (Some x)) (before-none xs)

-- a list that is there has a first value and others
pub with_first-some : {A P : Type 0} (o : Option A) (rest : Option (List A)) (all : List A)
    → with_first o rest ≡ Some all
    → ((x : A) (xs : List A) → o ≡ Some x → rest ≡ Some xs → x ∷ xs ≡ all → P) → P
with_first-some None rest all e goal = cc
with_first-some (Some x) None all e goal = cc
with_first-some (Some x) (Some xs) all e goal = goal x xs refl refl (same_Some (x ∷ xs) all e)
