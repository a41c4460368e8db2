-- So many triggers had their turns.
use Rattle.wq_clock.specs.Instance.{instance_data}
use Rattle.wq_registry.specs.Shelf.{triggers_of}
use Rattle.wq_session.specs.Shelved.{shelf_data}
use Rattle.wq_session.proofs.Rounds.{Had}
use Rattle.wq_session.proofs.trigger_round.round_ahead.Given as goal

abbrev pub invariant-loop-k : goal.invariant-loop-k
invariant-loop-k g l =
    Had (instance_data l.fn.instance) l.fn.view (triggers_of l.fn.instance.root (shelf_data l.fn.shelf))
    (shelf_data l.fn.shelf) (g.L.Launch.shown l.fn.launcher) (g.L.Launch.failures_of l.fn.launcher) l.k (shelf_data l.shelf)
    (g.L.Launch.shown l.launcher) (g.L.Launch.failures_of l.launcher)
