use Rattle.wq_stream.proofs.Adding.{all_in_turn}
use Rattle.wq_stream.proofs.law.pieces_tell_the_stream.Goals as goal

pub returns : goal.returns
returns c = all_in_turn
