-- The results of a search, by reference and by value.
use Rattle.std.proofs.Common.{◌≡◌, true, false, Result, Err, Option, Some, None, option_map, is_some, sym}

-- if the result is none, the search finds none
pub none_found : {X Y : Type 0} (f : X → Y) (answer : Option X) (found : Option Y) → is_some answer ≡ false → option_map f answer ≡ found → found ≡ None
none_found f None found fails e = sym e
none_found f (Some x) found fails e = absurd cc

-- if there is a result, the search finds it
pub one_found : {X Y : Type 0} (f : X → Y) (answer : Option X) (found : Option Y) → is_some answer ≡ true → option_map f answer ≡ found → (y : Y) × (found ≡ Some y)
one_found f None found passes e = absurd cc
one_found f (Some x) found passes e = (f x, sym e)

-- equal errors have equal faults
pub same_fault : {X E : Type 0} {a b : E} → ◌≡◌ {A = Result X E} (Err a) (Err b) → a ≡ b
same_fault h = cc h
