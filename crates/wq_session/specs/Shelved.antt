-- The shelf of the code, with the meaning of its triggers.
-- It is this server's own.
use Rattle.std.specs.Prelude.{map}
use Rattle.wq_follow.specs.Followed.{trigger_data}
use Rattle.wq_follow.specs.declared.trigger.Trigger.{Trigger}
use Rattle.wq_registry.specs.ByName.{ByName}
use Rattle.wq_registry.specs.Root.{RootData}
use Rattle.wq_registry.specs.Shelf.{ShelfData}
use Rattle.wq_session.specs.At.{ShelfNow}

module _ {A B : Type 0} where
  -- things under names, with the meaning of each
  abbrev pub each : (A → B) → ByName A → ByName B
  each f xs = map (λ x. (x.0, f x.1)) xs

  -- a root, with the meaning of its triggers
  abbrev pub root_with : (A → B) → RootData A → RootData B
  root_with f r = record {
    text = r.text;
    number = r.number;
    cursors = r.cursors;
    triggers = each f r.triggers;
  }

  -- a shelf, with the meaning of its triggers
  abbrev pub shelf_with : (A → B) → ShelfData A → ShelfData B
  shelf_with f s = record {
    programs = s.programs;
    roots = map (root_with f) s.roots;
    sockname = s.sockname;
  }

-- the shelf
abbrev pub shelf_data : ShelfData Trigger → ShelfNow
shelf_data s = shelf_with trigger_data s
