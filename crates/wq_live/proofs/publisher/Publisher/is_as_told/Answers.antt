-- One tick, so no pass between.
use Rattle.std.proofs.Common.{sym, ◌∙◌}
use Rattle.std.proofs.lemmas.Bool.{eqb-true}
use Rattle.wq_live.proofs.Since.{same_passes}
use Rattle.wq_live.proofs.publisher.Publisher.is_as_told.Goals as goal

pub returns-in-Some-Some : goal.returns-in-Some-Some
returns-in-Some-Some g c same =
    same_passes c.args.told.now c.args.self.now c.table-2.result.now c.table.result.now c.args.number c.in-Some-Some.then.now c.in-Some-Some.now.now c.if-is_behind.ensures c.table-2.ensures c.table.ensures.table
    c.in-Some-Some.ensures'.view c.in-Some-Some.ensures.view (sym c.tick.ensures.value ∙ eqb-true c.tick.result c.tick-in-Some-Some.result same ∙ c.tick-in-Some-Some.ensures.value)
