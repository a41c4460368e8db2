-- Nothing follows one word, or none.
use Rattle.wq_ask.proofs.Behind.{none_behind}
use Rattle.wq_ask.proofs.words.are_none.Goals as goal

pub returns : goal.returns
returns c = none_behind c.args.words.now
