-- the number is that of a root that is shown
use Rattle.std.proofs.Common.{◌≤◌, option_map, ap, sym, subst, ◌∙◌}
use Rattle.wq_base.specs.Limit.{max_number}
use Rattle.wq_live.specs.Table.{RootView}
use Rattle.wq_live.proofs.Roots.{found_number}
use Rattle.wq_live.proofs.table.RootTable.share_of.Goals as goal

pub returns-in_ok-clone-in-Some-clause-bound : goal.returns-in_ok-clone-in-Some-clause-bound
returns-in_ok-clone-in-Some-clause-bound c =
    let found = sym c.root_of_number.ensures ∙ ap (option_map (λ root. root.now)) c.in-Some.is in
    subst (λ n. n ≤ max_number) (ap (λ (r : RootView). r.number) c.root.view_is ∙ found_number c.args.number c.args.self.now.roots c.in-Some.root.now found) c.root.invariant
