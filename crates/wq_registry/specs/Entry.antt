-- Things under names, as they are kept: by texts that lie in memory. No public document defines it.
use Rattle.std.specs.Prelude.{List, map}
use Rattle.std.specs.declared.string.String.{String}
use Rattle.std.specs.declared.sync.Arc.{Arc}
use Rattle.std.specs.String.{string_bytes}
use Rattle.wq_registry.specs.ByName.{ByName}

-- the names as their bytes
abbrev pub by_bytes : {A Z : Type 0} → List (String Z × A) → ByName A
by_bytes es = map (λ e. (string_bytes e.0, e.1)) es

-- the things themselves, out of shared memory
abbrev pub unshared : {A Z : Type 0} → ByName (Arc A Z) → ByName A
unshared xs = map (λ x. (x.0, x.1.value)) xs
