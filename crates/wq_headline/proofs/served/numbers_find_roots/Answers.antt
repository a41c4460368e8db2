-- The law by its lemma, which takes that a history has one view.
use Rattle.wq_headline.proofs.Looks.{numbers_find_roots}
use Rattle.wq_headline.proofs.served.numbers_find_roots.Goals as goal

pub returns : goal.returns
returns c = numbers_find_roots c.history_has_one_view.ensures
