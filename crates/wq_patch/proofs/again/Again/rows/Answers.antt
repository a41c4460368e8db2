-- The rows up to the end of the last patch, and those after it.
use Rattle.std.proofs.Common.{◌++◌, take, ap, subst, ◌∙◌}
use Rattle.wq_view.specs.SeenRows.{seen_rows}
use Rattle.wq_patch.specs.Again.{AgainData}
use Rattle.wq_patch.specs.PatchMaker.{IsPut, patches_made}
use Rattle.wq_view.specs.Records.{records_left}
use Rattle.wq_patch.proofs.Joining.{rows_put}
use Rattle.wq_patch.proofs.again.Again.rows.Goals as goal

pub returns : goal.returns
returns c =
    let it = c.self.inside in
    let all = records_left it.all in
    let patches = c.put.new.all.items in
    c.in_ok-rows-2.ensures.rows
    ∙ (λ j. c.in_ok-rows.ensures.rows j ++ seen_rows (take (c.in_ok-tail.ensures.tail j) (c.in_ok-rows.ensures.left j)))
    ∙ rows_put all it.count it.made patches (subst (λ before. IsPut 0 (patches_made it.made) before patches) c.new-patches.ensures.items c.in_ok-tail.ensures.patches) c.self.invariant.3
    ∙ ap (λ (a : AgainData). a.found) c.self.view_is
