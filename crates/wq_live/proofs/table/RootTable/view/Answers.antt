-- the number is that of a root that is shown
use Rattle.std.proofs.Common.{◌≤◌, option_map, ap, sym, subst, ◌∙◌}
use Rattle.wq_base.specs.Limit.{max_number}
use Rattle.wq_live.specs.Table.{RootView}
use Rattle.wq_live.proofs.Roots.{found_number}
use Rattle.wq_live.proofs.table.RootTable.view.Goals as goal

pub returns-clause-bound : goal.returns-clause-bound
returns-clause-bound c =
    let found = sym c.root_of_number.ensures ∙ ap (option_map (λ root. root.now)) c.in_ok-root.was in
    subst (λ n. n ≤ max_number) (ap (λ (r : RootView). r.number) c.root.view_is ∙ found_number c.args.number c.args.self.now.roots c.in_ok-root.root.now found) c.root.invariant
