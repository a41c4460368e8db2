-- the launcher shows what it showed
use Rattle.std.proofs.Common.{◌≡◌}
use Rattle.wq_session.proofs.shared_shelf.ReachedShelf+Trigger.asks.Given as goal

abbrev pub invariant-loop-k : goal.invariant-loop-k
invariant-loop-k g l =
    (g.L.Launch.shown l.launcher ≡ g.L.Launch.shown l.fn.launcher)
    × (g.L.Launch.failures_of l.launcher ≡ g.L.Launch.failures_of l.fn.launcher)
