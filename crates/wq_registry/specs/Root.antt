-- The roots on a shelf, each with its cursors and triggers.
-- Cursors and triggers are those of Watchman's documentation (named cursors, triggers).
use Rattle.std.specs.Prelude.{ℕ, Bool, List, [], ◌∷◌, ◌++◌, Option, None, Some, nat_eq, nat_le, not}
use Rattle.std.specs.Prelude.{filter, ◌&&◌, ◌||◌, if◌then◌else◌}
use Rattle.std.specs.List.{find, list_any}
use Rattle.std.specs.Str.{bytes_eq}
use Rattle.wq_registry.specs.ByName.{ByName, under, put, put_at, without}

-- a root: its text, the number of this watch of it, its cursors with their ticks, its triggers
pub record RootData (T : Type 0) : Type 0 where
  pub text : List ℕ
  pub number : ℕ
  pub cursors : ByName ℕ
  pub triggers : ByName T

-- the tick of a cursor that is used at a tick: the larger of the old one and this
abbrev pub larger : Option ℕ → ℕ → ℕ
larger None tick = tick
larger (Some old) tick = if nat_le old tick then tick else old

module _ {T : Type 0} where
  -- a root when it is added
  abbrev pub new_root : List ℕ → ℕ → RootData T
  new_root text number = record { text = text; number = number; cursors = []; triggers = [] }

  -- the root of a number
  abbrev pub numbered : ℕ → List (RootData T) → Option (RootData T)
  numbered number rs = find (λ r. nat_eq number r.number) rs

  -- the root of a text
  abbrev pub called : List ℕ → List (RootData T) → Option (RootData T)
  called text rs = find (λ r. bytes_eq text r.text) rs

  -- the roots with a change made to the one of a number
  abbrev pub changed : ℕ → (RootData T → RootData T) → List (RootData T) → List (RootData T)
  changed number change [] = []
  changed number change (r ∷ rs) =
      if nat_eq number r.number then change r ∷ rs else r ∷ changed number change rs

  -- the roots but those of a number
  abbrev pub without_number : ℕ → List (RootData T) → List (RootData T)
  without_number number rs = filter (λ r. not (nat_eq number r.number)) rs

  -- the roots but those of a text
  abbrev pub without_text : List ℕ → List (RootData T) → List (RootData T)
  without_text text rs = filter (λ r. not (bytes_eq text r.text)) rs

  -- whether a root says that another is not new: it has the number of the other, or its text and no
  -- smaller number
  abbrev pub is_newer : List ℕ → ℕ → RootData T → Bool
  is_newer text number r =
      nat_eq number r.number || (bytes_eq text r.text && nat_le number r.number)

  -- the roots after one is added: an older one of its text goes, and the new one comes last
  abbrev pub with_root : List ℕ → ℕ → List (RootData T) → List (RootData T)
  with_root text number rs =
      if list_any (is_newer text number) rs then rs
      else without_text text rs ++ new_root text number ∷ []

  -- the root with a cursor used at a tick
  abbrev pub with_cursor : List ℕ → ℕ → RootData T → RootData T
  with_cursor name tick r =
      record r { cursors = put name (larger (under name r.cursors) tick) r.cursors }

  -- the root without a cursor
  abbrev pub without_cursor : List ℕ → RootData T → RootData T
  without_cursor name r = record r { cursors = without name r.cursors }

  -- the root with a trigger put under a name
  abbrev pub with_trigger : List ℕ → T → RootData T → RootData T
  with_trigger name trigger r = record r { triggers = put name trigger r.triggers }

  -- the root without a trigger
  abbrev pub without_trigger : List ℕ → RootData T → RootData T
  without_trigger name r = record r { triggers = without name r.triggers }

  -- the root with another trigger under the name at a place
  abbrev pub with_trigger_at : ℕ → T → RootData T → RootData T
  with_trigger_at k trigger r = record r { triggers = put_at k trigger r.triggers }

  -- the cursors of a root that may be missing
  abbrev pub cursors_in : Option (RootData T) → ByName ℕ
  cursors_in None = []
  cursors_in (Some r) = r.cursors

  -- its triggers
  abbrev pub triggers_in : Option (RootData T) → ByName T
  triggers_in None = []
  triggers_in (Some r) = r.triggers
