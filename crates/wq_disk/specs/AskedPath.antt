-- Where the system begins on the path for which a disk asks it. No public document defines it.
use Rattle.std.specs.Prelude.{◌≡◌, ◌⊎◌, ℕ, List, drop, take}
use Rattle.wq_disk.specs.AskedData.{AskedData}

-- the system begins at `/`, or at a working directory of this path
abbrev pub IsFrom : List ℕ → AskedData → Type 0
IsFrom root asked = (asked.start ≡ 0) ⊎ (take asked.start asked.path ≡ root)

-- the path that the system gets: what is left after the working directory, or the whole path
abbrev pub IsRest : AskedData → List ℕ → Type 0
IsRest asked rest = (rest ≡ drop asked.start asked.path) ⊎ (rest ≡ asked.path)
