-- The lemma is the law.
use Rattle.wq_launch.proofs.Numbers.{numbers_are_free}
use Rattle.wq_launch.proofs.law.numbers_are_free.Goals as goal

pub returns : goal.returns
returns c = numbers_are_free
