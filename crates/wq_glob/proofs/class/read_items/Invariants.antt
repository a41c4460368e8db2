use Rattle.std.proofs.Common.{◌≡◌, List, length}
use Rattle.wq_glob.specs.Member.{AreMembers}
use Rattle.wq_glob.specs.Reading.{class_items, items_from}
use Rattle.wq_glob.specs.declared.class.Item.{Item}
use Rattle.wq_glob.proofs.ItemLemmas.{with_items}
use Rattle.wq_glob.proofs.class.read_items.Given as goal

abbrev pub invariant-loop-rest : goal.invariant-loop-rest
invariant-loop-rest l =
    (done : List Item) × (class_items l.noescape l.fn.text ≡ with_items done (items_from (length l.rest) l.noescape l.rest)) × AreMembers l.members done

abbrev pub decreases-loop-rest : goal.decreases-loop-rest
decreases-loop-rest l = length l.rest
