-- the texts that are read, and the items that are left
use Rattle.std.proofs.Common.{◌≡◌, drop}
use Rattle.serde_json.specs.View.{items_view}
use Rattle.wq_term.specs.Argument.{all_texts_of}
use Rattle.wq_term.specs.Expr.{texts_in}
use Rattle.wq_base.proofs.Fault.{before}
use Rattle.wq_term.proofs.parser.argument.read_all_texts.Given as goal

abbrev pub invariant-loop-item : goal.invariant-loop-item
invariant-loop-item l = before (texts_in l.texts.items) (all_texts_of (items_view (drop l.item-index l.items))) ≡ all_texts_of (items_view l.items)
