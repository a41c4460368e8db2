-- by the root that is found
use Rattle.std.specs.List.{find}
use Rattle.wq_live.specs.Table.{has_number}
use Rattle.wq_live.proofs.Finding.{none_found, one_found}
use Rattle.wq_live.proofs.Passes.{not_shown, is_there, found_known}
use Rattle.wq_live.proofs.Ends.{after_end}
use Rattle.wq_live.proofs.table.RootTable.with_end.Goals as goal

pub returns-then-is_none : goal.returns-then-is_none
returns-then-is_none c events is =
    not_shown events c.args.self.now is c.args.number (none_found (λ root. root.now) c.root_of_number.result _ (c.if-is_none.ensures) c.root_of_number.ensures)

pub returns : goal.returns
returns c events is =
    let it = one_found (λ root. root.now) c.root_of_number.result (find (has_number c.args.number) c.args.self.now.roots) (c.if-is_none.ensures) c.root_of_number.ensures in
    (is_there events c.args.self.now is c.args.number it.0 it.1, rw c.in_ok-without.ensures (after_end events c.args.self.now is c.args.number (found_known events c.args.self.now is c.args.number it.0 it.1)))
