-- The law by its lemma.
use Rattle.wq_headline.proofs.Sessions.{ends_show_a_world}
use Rattle.wq_headline.proofs.served.ends_show_a_world.Goals as goal

pub returns : goal.returns
returns c = ends_show_a_world
