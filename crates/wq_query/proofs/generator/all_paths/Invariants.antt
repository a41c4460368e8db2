-- the paths that are read, and the items that are left
use Rattle.std.proofs.Common.{◌≡◌, drop}
use Rattle.serde_json.specs.View.{items_view}
use Rattle.wq_base.proofs.Fault.{before}
use Rattle.wq_query.specs.Generator.{paths_in}
use Rattle.wq_query.proofs.generator.all_paths.Given as goal

abbrev pub invariant-loop-item : goal.invariant-loop-item
invariant-loop-item l = before l.paths (paths_in (items_view (drop l.item-index l.items))) ≡ paths_in (items_view l.items)
