-- what was taken begins the beginning
use Rattle.std.proofs.Common.{subst, take}
use mathlib.Core.List.{IsPrefix}
use Rattle.wq_inbox.proofs.Beginnings.{prefix_trans, take_prefix}
use Rattle.wq_inbox.proofs.waiting.Place.agree.Goals as goal

pub returns : goal.returns
returns g c =
    let it = c.agree.ensures in
    let front = c.self.inside.front in
    let n = c.self.inside.taken in
    (it.0, subst (λ l. IsPrefix l it.0) c.self.view_is (prefix_trans (take n front) front it.0 (take_prefix n front) it.1), it.2)
