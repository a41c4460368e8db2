-- the rests are in the order of the texts
use Rattle.std.proofs.Common.{◌≡◌, ◌+◌, length}
use Rattle.wq_gen.specs.Outer.{text_order}
use Rattle.wq_gen.proofs.outer.order_of_texts.Given as goal

abbrev pub invariant-loop-x : goal.invariant-loop-x
invariant-loop-x l = text_order l.rest_first l.rest_second ≡ text_order l.first l.second

abbrev pub decreases-loop-x : goal.decreases-loop-x
decreases-loop-x l = length l.rest_first + length l.rest_second
