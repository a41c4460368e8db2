-- One more row was written, and has room.
use Rattle.wq_code.proofs.Rooms.{all_next, spelled_next}
use Rattle.wq_code.specs.declared.version.Version.TheVariants.{Second}
use Rattle.wq_code.proofs.field.put_many.Goals as goal

pub loop-row-preserved : goal.loop-row-preserved
loop-row-preserved g c =
    let rows = c.args.rows.now in
    let i = c.loop-row.row-index in
    let row = c.row-item.result in (
      spelled_next rows i row c.loop-row-test.true c.row-item.is (g.F.Field.spelling Second) c.args.out.now.items c.loop-row.out.items _ c.loop-row.invariant.0 c.in_ok-write.ensures.written,
      all_next rows i row c.loop-row-test.true c.row-item.is g.F.Field.has_room c.loop-row.invariant.1 c.in_ok-write.ensures.room,
    )
