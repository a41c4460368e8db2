-- each half is shorter
use Rattle.std.proofs.Common.{length}
use Rattle.wq_gen.proofs.path.+on_paths.Given as goal

abbrev pub decreases-on_paths : goal.decreases-on_paths
decreases-on_paths l = length l.paths.now
