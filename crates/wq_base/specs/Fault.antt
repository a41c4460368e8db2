-- Chains of tests, each with the fault that it finds. They read as the `let .. else` of the code.
-- No public document defines them.
use Rattle.std.specs.Prelude.{Bool, true, false, List, ◌∷◌, Option, Some, None, Result, Ok, Err}

-- the next step with a value, or this fault if there is no value
abbrev pub or_fault : {A B E : Type 0} → E → Option A → (A → Result B E) → Result B E
or_fault fault None next = Err fault
or_fault fault (Some a) next = next a

-- the next step if a test holds, or else this fault
abbrev pub unless_fault : {B E : Type 0} → E → Bool → Result B E → Result B E
unless_fault fault false next = Err fault
unless_fault fault true next = next

-- the next step with a result's value, or the result's fault as a fault of the chain
abbrev pub or_its_fault : {A B E F : Type 0} → (E → F) → Result A E → (A → Result B F) → Result B F
or_its_fault of (Err fault) next = Err (of fault)
or_its_fault of (Ok a) next = next a

-- the next step with a result's value, or the result's own fault
abbrev pub or_own_fault : {A B E : Type 0} → Result A E → (A → Result B E) → Result B E
or_own_fault (Err fault) next = Err fault
or_own_fault (Ok a) next = next a

-- whether the value is there and true
abbrev pub is_true : Option Bool → Bool
is_true None = false
is_true (Some b) = b

-- a first value before others; there is no list if the value or the others are missing
abbrev pub with_first : {A : Type 0} → Option A → Option (List A) → Option (List A)
with_first None rest = None
with_first (Some first) None = None
with_first (Some first) (Some rest) = Some (first ∷ rest)
