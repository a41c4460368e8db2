use Rattle.std.proofs.Common.{◌≡◌, None, rules}
use Rattle.std.proofs.Math.ListN.{replicate}
use Rattle.wq_verify.proofs.Starts.{starts}
use Rattle.wq_verify.proofs.pass.start.Goals as goal

pub returns-clause-none : goal.returns-clause-none
returns-clause-none c =
    let made : c.in_ok-reached.reached.items ≡ replicate c.args.len None =
    c.in_ok-reached.ensures.items_if_clones_equal (λ y same. search rules) in
    rw made (starts c.args.len c.empty.result c.requires c.empty.ensures)
