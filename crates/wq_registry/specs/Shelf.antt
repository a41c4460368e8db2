-- A shelf: the programs, and the roots with their cursors and triggers, in the order in which a
-- client sees them. Each call makes another shelf of it. No public document defines it.
use Rattle.std.specs.Prelude.{ℕ, Bool, List, [], length, is_some, not, ◌&&◌, nat_le}
use Rattle.std.specs.List.{list_any}
use Rattle.wq_code.specs.declared.raw.Raw.{Raw}
use Rattle.wq_base.specs.Limit.{max_roots}
use Rattle.wq_registry.specs.ByName.{ByName, put, without}
use Rattle.wq_registry.specs.Root.{RootData, numbered, called, changed, without_number, with_root}
use Rattle.wq_registry.specs.Root.{is_newer, with_cursor, without_cursor, cursors_in}
use Rattle.wq_registry.specs.Root.{with_trigger, with_trigger_at, without_trigger, triggers_in}

-- a shelf: its programs, its roots, and the name of the server's socket
pub record ShelfData (T : Type 0) : Type 0 where
  pub programs : ByName Raw
  pub roots : List (RootData T)
  pub sockname : List ℕ

module _ {T : Type 0} where
  -- a shelf when it is made
  abbrev pub blank : List ℕ → ShelfData T
  blank sockname = record { programs = []; roots = []; sockname = sockname }

  -- the shelf with a program put under a name
  abbrev pub with_program : List ℕ → Raw → ShelfData T → ShelfData T
  with_program name raw s = record s { programs = put name raw s.programs }

  -- the shelf without a program
  abbrev pub without_program : List ℕ → ShelfData T → ShelfData T
  without_program name s = record s { programs = without name s.programs }

  -- the shelf with a root added
  abbrev pub root_added : List ℕ → ℕ → ShelfData T → ShelfData T
  root_added text number s = record s { roots = with_root text number s.roots }

  -- the shelf without a root
  abbrev pub root_removed : ℕ → ShelfData T → ShelfData T
  root_removed number s = record s { roots = without_number number s.roots }

  -- whether a root has no place: it is new, of another text than those there, which are all that
  -- may be
  abbrev pub root_has_no_place : List ℕ → ℕ → ShelfData T → Bool
  root_has_no_place text number s =
      not (list_any (is_newer text number) s.roots) && (not (is_some (called text s.roots))
      && nat_le max_roots (length s.roots))

  -- the shelf with a change made to a root
  abbrev pub root_changed : ℕ → (RootData T → RootData T) → ShelfData T → ShelfData T
  root_changed root change s = record s { roots = changed root change s.roots }

  -- the shelf with a cursor of a root used at a tick
  abbrev pub cursor_used : ℕ → List ℕ → ℕ → ShelfData T → ShelfData T
  cursor_used root name tick s = root_changed root (with_cursor name tick) s

  -- the shelf without a cursor of a root
  abbrev pub cursor_unset : ℕ → List ℕ → ShelfData T → ShelfData T
  cursor_unset root name s = root_changed root (without_cursor name) s

  -- the shelf with a trigger of a root put under a name
  abbrev pub trigger_added : ℕ → List ℕ → T → ShelfData T → ShelfData T
  trigger_added root name trigger s = root_changed root (with_trigger name trigger) s

  -- the shelf without a trigger of a root
  abbrev pub trigger_removed : ℕ → List ℕ → ShelfData T → ShelfData T
  trigger_removed root name s = root_changed root (without_trigger name) s

  -- the shelf with another trigger under the name at a place
  abbrev pub trigger_changed : ℕ → ℕ → T → ShelfData T → ShelfData T
  trigger_changed root k trigger s = root_changed root (with_trigger_at k trigger) s

  -- the cursors of a root; none if it is not there
  abbrev pub cursors_of : ℕ → ShelfData T → ByName ℕ
  cursors_of root s = cursors_in (numbered root s.roots)

  -- its triggers
  abbrev pub triggers_of : ℕ → ShelfData T → ByName T
  triggers_of root s = triggers_in (numbered root s.roots)
