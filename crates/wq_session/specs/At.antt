-- Whether the root that is looked at for an answer is the root that a line names.
-- It is this server's own.
use Rattle.std.specs.Prelude.{ℕ, Bool, false, nat_eq, if◌then◌else◌, List}
use Rattle.std.specs.Prelude.{Option, Some, None}
use Rattle.std.specs.Option.{option_map_or}
use Rattle.wq_follow.specs.Round.{TriggerData}
use Rattle.wq_registry.specs.Root.{called}
use Rattle.wq_registry.specs.Shelf.{ShelfData}
use Rattle.wq_crawl.specs.At.{AtData}

-- a shelf, with its triggers
abbrev pub ShelfNow : Type 0
ShelfNow = ShelfData TriggerData

-- whether the root that is looked at is this root, under its number on the shelf
abbrev pub is_watched : List ℕ → AtData → ShelfNow → Bool
is_watched root at shelf =
    option_map_or (λ r. nat_eq (at.instance).root r.number) (called root shelf.roots) false

-- the root that is looked at, if it is this root under its number on the shelf
abbrev pub watched : List ℕ → Option AtData → ShelfNow → Option AtData
watched root None shelf = None
watched root (Some at) shelf = if is_watched root at shelf then Some at else None
