-- The refusal that a call gives. No public document defines it.
use Rattle.std.specs.Prelude.{◌≡◌, Bool, true, false, Result, Ok, Err}
use Rattle.wq_registry.specs.declared.fault.ShelfFault.{ShelfFault}
use Rattle.wq_registry.specs.declared.fault.ShelfFault.TheVariants.{NoRoot, Full, NoMemory}

-- the refusal of a call, by whether a root is missing and whether a place is missing. It is the
-- first of the two, and lack of memory only if neither is missing
abbrev pub IsRefusal : Bool → Bool → ShelfFault → Type 0
IsRefusal rootless full NoRoot = rootless ≡ true
IsRefusal rootless full Full = (rootless ≡ false) × (full ≡ true)
IsRefusal rootless full NoMemory = (rootless ≡ false) × (full ≡ false)

-- a call succeeds only if neither is missing, and else has this refusal
abbrev pub Refuses : {A : Type 0} → Bool → Bool → Result A ShelfFault → Type 0
Refuses rootless full (Ok a) = (rootless ≡ false) × (full ≡ false)
Refuses rootless full (Err fault) = IsRefusal rootless full fault
