-- The answers of a disk by those of its system for the same path. No public document defines it.
use Rattle.std.specs.Prelude.{◌≡◌, ℕ, ⊤, List, MatchOption, Some, None}
use Rattle.std.specs.declared.io.Error.{Error}
use Rattle.wq_disk.specs.declared.facts.FileFacts.{FileFacts}
use Rattle.wq_disk.specs.Entries.{names_of_text}
use Rattle.wq_disk.specs.FileFacts.{stat_from}
use Rattle.wq_disk.specs.Told.{FailsAt, GivesStat, Has}
use Rattle.wq_disk.specs.Unseen.{error_fault}

-- what a system may give for the file of a path
abbrev pub GivesFacts : Type 1
GivesFacts = List ℕ → FileFacts → Type 0

-- the errors with which calls for a path may fail
abbrev pub Misses : Type 1
Misses = List ℕ → Error → Type 0

-- the texts that the directory of a path may have
abbrev pub HoldsText : Type 1
HoldsText = List ℕ → List ℕ → Type 0

-- a call for this path failed with an error that is about the path alone
abbrev pub HasMissed : Misses → List ℕ → Type 0
HasMissed missed path = (error : Error) × missed path error × (error_fault error ≡ None)

-- a call for this path failed with an error that means this fault of a whole walk
abbrev pub FailsBy : Misses → FailsAt
FailsBy missed fault path = (error : Error) × missed path error × (error_fault error ≡ Some fault)

-- the stats of a file: those of what the system gave for its path, or none because a call for it
-- failed
abbrev pub SaysBy : GivesFacts → Misses → GivesStat
SaysBy gave missed path told =
    MatchOption told (HasMissed missed path)
    (λ stat. (facts : FileFacts) × gave path facts × (stat ≡ stat_from facts))

-- the names of a directory: those in the text that the directory of this path has, in which byte 0
-- ends each name, or none because a call for it failed
abbrev pub HasBy : HoldsText → Misses → Has
HasBy holds missed path told =
    MatchOption told (HasMissed missed path)
    (λ names. (text : List ℕ) × holds path text × (names ≡ names_of_text text))

-- what is known of the machine's own answers: that they are answers of some system
abbrev pub says_here : GivesStat
says_here = SaysBy (λ _ _. ⊤) (λ _ _. ⊤)

-- the same of the names in its directories
abbrev pub has_here : Has
has_here = HasBy (λ _ _. ⊤) (λ _ _. ⊤)

-- the same of its faults
abbrev pub fails_here : FailsAt
fails_here = FailsBy (λ _ _. ⊤)
