-- No record is left, and the patches are put after the others.
use Rattle.std.proofs.Common.{drop, take, ap, sym, ◌∙◌}
use Rattle.wq_patch.specs.Again.{AgainData}
use Rattle.wq_view.specs.Records.{records_left}
use Rattle.wq_patch.proofs.Joining.{joined_to}
use Rattle.wq_patch.proofs.again.Again.put.Goals as goal

pub returns : goal.returns
returns c =
    let it = c.self.inside in
    let records = take it.count (records_left it.all) in
    joined_to c.put.result c.args.self.records records c.args.self.found c.args.all.now.items c.put.new.all.items it.made c.args.kept
    (sym (ap (λ (a : AgainData). a.records) c.self.view_is ∙ c.in_ok-finish.ensures.records))
    (sym (ap (λ (a : AgainData). a.found) c.self.view_is ∙ c.in_ok-finish.ensures.found))
    c.put.ensures.tail c.put.ensures.patches c.self.invariant.3
    (c.self.invariant.2 ∙ ap (λ (a : AgainData). drop a.passed a.records) c.self.view_is ∙ c.in_ok-finish.ensures.all)
