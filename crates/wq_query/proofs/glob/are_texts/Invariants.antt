-- the rest decides
use Rattle.std.proofs.Common.{◌≡◌, drop}
use Rattle.serde_json.specs.View.{items_view}
use Rattle.wq_query.specs.Glob.{are_texts}
use Rattle.wq_query.proofs.glob.are_texts.Given as goal

abbrev pub invariant-loop-item : goal.invariant-loop-item
invariant-loop-item l = are_texts (items_view (drop l.item-index l.items)) ≡ are_texts (items_view l.items)
