-- Memory ran out before the first line.
use Rattle.wq_replay.proofs.Ending.{ends_unmade}
use Rattle.wq_replay.proofs.player.replay.Goals as goal

pub returns-in_default : goal.returns-in_default
returns-in_default g c = ends_unmade (g.R.Read.remaining c.args.reader.now) (g.W.Write.contents c.args.writer.now)
