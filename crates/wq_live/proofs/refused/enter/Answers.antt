-- a look keeps the knowledge of each seat
use Rattle.wq_live.proofs.Sharing.{turns, begins_self}
use Rattle.wq_live.proofs.refused.enter.Goals as goal

pub enter_as-requires : goal.enter_as-requires
enter_as-requires c x = turns _ _ x x (begins_self x)
