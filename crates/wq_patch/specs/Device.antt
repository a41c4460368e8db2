-- The state that a device shows: how often it gave something so far, and the last thing that it
-- gave. No public document defines it.
use Rattle.std.specs.Prelude.{◌≡◌, ℕ, suc, Option, Some, None}

-- how often a device gave something so far: never, if it shows nothing
abbrev pub count_of : {A : Type 0} → Option (ℕ × A) → ℕ
count_of None = 0
count_of (Some (count, last)) = count

-- a device gave this: if the device shows its last thing, that is this one, and its count is one
-- more
abbrev pub Gave : {A : Type 0} → Option (ℕ × A) → A → Option (ℕ × A) → Type 0
Gave before given None = Unit {0}
Gave before given (Some after) = after ≡ (suc (count_of before), given)
