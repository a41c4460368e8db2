-- by whether the first pass moved the view
use Rattle.std.proofs.Common.{[]}
use Rattle.wq_live.proofs.FirstView.{first_view}
use Rattle.wq_live.proofs.table.first_view.Goals as goal

pub returns-in-Ok : goal.returns-in-Ok
returns-in-Ok c =
    let of = c.new-view.ensures.history in
    first_view c.args.pass.now c.absorb.result c.in-Ok._moved c.new-view.result c.absorb.new.self c.in-Ok.is of (c.absorb.ensures.moved [] of) (c.absorb.ensures.still [] of) c.absorb.ensures.kept
