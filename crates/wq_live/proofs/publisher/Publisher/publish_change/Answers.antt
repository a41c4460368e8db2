-- by the view of the passes
use Rattle.wq_live.proofs.Passes.{base_found}
use Rattle.wq_live.proofs.publisher.Publisher.publish_change.Goals as goal

pub with_change-requires : goal.with_change-requires
with_change-requires g c = base_found c.history_has_one_view.ensures c.args.self.now c.table.result.now c.table.ensures.table c.args.number c.args.change.now.base c.requires
