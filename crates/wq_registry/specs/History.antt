-- Lists of accepted calls, and their result. No public document defines it.
use Rattle.std.specs.Prelude.{ℕ, ◌≡◌, ◌⊎◌, Bool, false, List, [], ◌∷◌, Some, is_some, not, nat_eq}
use Rattle.std.specs.Prelude.{◌&&◌, ◌||◌, if◌then◌else◌, flat_map}
use Rattle.wq_code.specs.declared.raw.Raw.{Raw}
use Rattle.wq_registry.specs.ByName.{under}
use Rattle.wq_registry.specs.Change.{Change, putting, removing, made}
use Rattle.wq_registry.specs.Root.{numbered}
use Rattle.wq_registry.specs.Shelf.{ShelfData, blank, with_program, without_program}
use Rattle.wq_registry.specs.Shelf.{root_added, root_removed, cursor_used, cursor_unset}
use Rattle.wq_registry.specs.Shelf.{trigger_added, trigger_removed, cursors_of, triggers_of}
use Rattle.wq_registry.specs.Use.{Use, at_tick, unsetting, used}

-- a call that was accepted
pub data Call (T : Type 0) : Type 0 where
  adds_program : (name : List ℕ) (program : Raw) → Call T
  removes_program : (name : List ℕ) → Call T
  adds_root : (text : List ℕ) (number : ℕ) → Call T
  removes_root : (number : ℕ) → Call T
  uses_cursor : (root : ℕ) (name : List ℕ) (tick : ℕ) → Call T
  unsets_cursor : (root : ℕ) (name : List ℕ) → Call T
  adds_trigger : (root : ℕ) (name : List ℕ) (trigger : T) → Call T
  removes_trigger : (root : ℕ) (name : List ℕ) → Call T

module _ {T : Type 0} where
  -- the shelf after a call
  abbrev pub after : Call T → ShelfData T → ShelfData T
  after (adds_program name program) s = with_program name program s
  after (removes_program name) s = without_program name s
  after (adds_root text number) s = root_added text number s
  after (removes_root number) s = root_removed number s
  after (uses_cursor root name tick) s = cursor_used root name tick s
  after (unsets_cursor root name) s = cursor_unset root name s
  after (adds_trigger root name trigger) s = trigger_added root name trigger s
  after (removes_trigger root name) s = trigger_removed root name s

  -- the shelf after calls, one after the other
  abbrev pub after_all : List (Call T) → ShelfData T → ShelfData T
  after_all [] s = s
  after_all (c ∷ cs) s = after_all cs (after c s)

  -- the changes of programs that calls make
  abbrev pub program_changes : List (Call T) → List (Change Raw)
  program_changes [] = []
  program_changes (adds_program name program ∷ cs) = putting name program ∷ program_changes cs
  program_changes (removes_program name ∷ cs) = removing name ∷ program_changes cs
  program_changes (_ ∷ cs) = program_changes cs

  -- a call adds this program
  abbrev pub Adds : Raw → Call T → Type 0
  Adds raw (adds_program name program) = program ≡ raw
  Adds raw _ = ⊥

  -- one of these calls adds this program
  abbrev pub AddsOne : Raw → List (Call T) → Type 0
  AddsOne raw [] = ⊥
  AddsOne raw (c ∷ cs) = Adds raw c ⊎ AddsOne raw cs

  -- whether a root is on the shelf
  abbrev pub is_on : ℕ → ShelfData T → Bool
  is_on root s = is_some (numbered root s.roots)

  -- whether a root is on the shelf before a call and after it
  abbrev pub stays_on : ℕ → ShelfData T → Call T → Bool
  stays_on root s c = is_on root s && is_on root (after c s)

  -- whether some call finds a root not on the shelf, or leaves it so
  abbrev pub is_interrupted : ℕ → ShelfData T → List (Call T) → Bool
  is_interrupted root s [] = false
  is_interrupted root s (c ∷ cs) = not (stays_on root s c) || is_interrupted root (after c s) cs

  -- the calls since a root was last added: those from which on it is on the shelf throughout
  abbrev pub since_added : ℕ → ShelfData T → List (Call T) → List (Call T)
  since_added root s [] = []
  since_added root s (c ∷ cs) =
      if is_interrupted root s (c ∷ cs) then since_added root (after c s) cs
      else c ∷ since_added root (after c s) cs

  -- the use of a cursor of a root that a call is
  abbrev pub cursor_use : ℕ → Call T → List Use
  cursor_use root (uses_cursor r name tick) = if nat_eq root r then at_tick name tick ∷ [] else []
  cursor_use root (unsets_cursor r name) = if nat_eq root r then unsetting name ∷ [] else []
  cursor_use root _ = []

  -- the change of a trigger of a root that a call is
  abbrev pub trigger_change : ℕ → Call T → List (Change T)
  trigger_change root (adds_trigger r name trigger) =
      if nat_eq root r then putting name trigger ∷ [] else []
  trigger_change root (removes_trigger r name) = if nat_eq root r then removing name ∷ [] else []
  trigger_change root _ = []

-- the programs of a shelf are the result of the calls for programs, whatever other calls come
-- between
abbrev pub ProgramsAreMade : Type 0 → Type 0
ProgramsAreMade T = (calls : List (Call T)) (sockname : List ℕ)
    → (after_all calls (blank sockname)).programs ≡ made (program_changes calls) []

-- each program under a name was added by one of the calls
abbrev pub ProgramsWereAdded : Type 0 → Type 0
ProgramsWereAdded T = (calls : List (Call T)) (sockname name : List ℕ) (raw : Raw)
    → under name (after_all calls (blank sockname)).programs ≡ Some raw → AddsOne raw calls

-- the cursors of a root are the result of the uses of its cursors since it was last added
abbrev pub CursorsAreMade : Type 0 → Type 0
CursorsAreMade T = (calls : List (Call T)) (sockname : List ℕ) (root : ℕ)
    → cursors_of root (after_all calls (blank sockname))
    ≡ used (flat_map (cursor_use root) (since_added root (blank sockname) calls)) []

-- and its triggers are the result of the changes of its triggers since then
abbrev pub TriggersAreMade : Type 0 → Type 0
TriggersAreMade T = (calls : List (Call T)) (sockname : List ℕ) (root : ℕ)
    → triggers_of root (after_all calls (blank sockname))
    ≡ made (flat_map (trigger_change root) (since_added root (blank sockname) calls)) []
