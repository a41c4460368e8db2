-- the patterns that are read, and the items that are left
use Rattle.std.proofs.Common.{◌≡◌, drop}
use Rattle.serde_json.specs.View.{items_view}
use Rattle.wq_base.proofs.Fault.{before}
use Rattle.wq_query.specs.Glob.{patterns_in}
use Rattle.wq_query.proofs.glob.all_patterns.Given as goal

abbrev pub invariant-loop-item : goal.invariant-loop-item
invariant-loop-item l = before l.patterns (patterns_in l.flags (items_view (drop l.item-index l.items))) ≡ patterns_in l.flags (items_view l.items)
