-- Lists of changes of things under names, and their result. No public document defines it.
use Rattle.std.specs.Prelude.{ℕ, ◌≡◌, Bool, false, List, [], ◌∷◌, ◌++◌, Option, None, Some, is_some}
use Rattle.std.specs.Prelude.{◌||◌, if◌then◌else◌}
use Rattle.std.specs.List.{list_any, slice_get}
use Rattle.std.specs.Str.{bytes_eq}
use Rattle.wq_registry.specs.ByName.{ByName, names, under, put, put_at, without}

-- a change: a thing is put under a name, or taken out
pub data Change (A : Type 0) : Type 0 where
  putting : (name : List ℕ) (a : A) → Change A
  removing : (name : List ℕ) → Change A

module _ {A : Type 0} where
  -- the things after a change
  abbrev pub changed_by : Change A → ByName A → ByName A
  changed_by (putting name a) xs = put name a xs
  changed_by (removing name) xs = without name xs

  -- the things after changes, one after the other
  abbrev pub made : List (Change A) → ByName A → ByName A
  made [] xs = xs
  made (c ∷ cs) xs = made cs (changed_by c xs)

  -- the effect of a change on a name: this thing is there, or none is; no effect on other names
  abbrev pub says_of : List ℕ → Change A → Option (Option A)
  says_of name (putting n a) = if bytes_eq name n then Some (Some a) else None
  says_of name (removing n) = if bytes_eq name n then Some None else None

  -- the thing that the later one of two leaves under a name
  abbrev pub later : Option (Option A) → Option A → Option A
  later None before = before
  later (Some now) before = now

  -- the thing that a list of changes leaves under a name that had this one
  abbrev pub last_said : List ℕ → List (Change A) → Option A → Option A
  last_said name [] before = before
  last_said name (c ∷ cs) before = last_said name cs (later (says_of name c) before)

  -- whether a change takes out a name
  abbrev pub takes_out : List ℕ → Change A → Bool
  takes_out name (putting n a) = false
  takes_out name (removing n) = bytes_eq name n

  -- the name that a change brings in for good. The change puts something under it, nothing was
  -- there after the changes before, and no change after it takes it out
  abbrev pub brings_in : List (Change A) → Change A → List (Change A) → List (List ℕ)
  brings_in before (putting name a) after =
      if is_some (last_said name before None) || list_any (takes_out name) after then []
      else name ∷ []
  brings_in before (removing name) after = []

  -- the names that changes bring in for good, in the order in which they come in
  abbrev pub brought_in : List (Change A) → List (Change A) → List (List ℕ)
  brought_in before [] = []
  brought_in before (c ∷ after) = brings_in before c after ++ brought_in (before ++ c ∷ []) after

-- the thing under a name is the one that its last change put there, or none if that took it out
abbrev pub LastChangeCounts : Type 0 → Type 0
LastChangeCounts A = (changes : List (Change A)) (name : List ℕ)
    → under name (made changes []) ≡ last_said name changes None

-- names are in the order in which they were brought in: when something was first put under them
-- since they were taken out
abbrev pub NamesStandInOrder : Type 0 → Type 0
NamesStandInOrder A = (changes : List (Change A)) → names (made changes []) ≡ brought_in [] changes

-- another thing that is put at a place is put under the name there, in the result of changes
abbrev pub PlacesAreNames : Type 0 → Type 0
PlacesAreNames A = (changes : List (Change A)) (k : ℕ) (name : List ℕ) (a : A)
    → slice_get (names (made changes [])) k ≡ Some name
    → put_at k a (made changes []) ≡ put name a (made changes [])
