-- the place that was found is noted
use Rattle.std.proofs.Common.{subst, sym, ◌∙◌}
use Rattle.wq_walk.specs.Found.{found_rows}
use Rattle.wq_walk.specs.Glance.{ListAll, ListsAt}
use Rattle.wq_walk.proofs.Glancing.{noted_at}
use Rattle.wq_walk.proofs.glance.Glance.is_unchanged.Goals as goal

pub returns : goal.returns
returns c ok =
    let records = c.args.self.now.last.now.records in
    let rows = found_rows c.args.self.now.walk.rows.found in
    noted_at (ListsAt records rows) c.deref.result.now c.args.at c.binary_search.result
    (subst (ListAll records rows) (sym c.deref.ensures.value) c.requires) c.binary_search.ensures.bound c.binary_search.ensures.ok (sym c.is_ok.ensures.value ∙ ok)
