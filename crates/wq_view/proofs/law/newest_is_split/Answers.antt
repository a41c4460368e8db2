-- The law, word for word.
use Rattle.wq_view.proofs.NewestLaw.{newest_is_split}
use Rattle.wq_view.proofs.law.newest_is_split.Goals as goal

pub returns : goal.returns
returns c = newest_is_split
