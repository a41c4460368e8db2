-- One stretch more is passed.
use Rattle.std.proofs.Common.{◌-◌, drop, ap, sym, ◌∙◌}
use Rattle.wq_view.specs.Records.{records_left}
use Rattle.wq_view.specs.Stretch.{stretch_records}
use Rattle.wq_view.proofs.Stretches.{left_more}
use Rattle.wq_view.proofs.records.Records.after.Goals as goal

pub loop-stretch-preserved : goal.loop-stretch-preserved
loop-stretch-preserved c =
    let rest = records_left c.take.new.records in
    ap (λ n. drop (c.loop-stretch.more - n) rest) c.len-more.ensures
    ∙ sym (left_more (records_left c.loop-stretch.left) (stretch_records c.in-Some.stretch) rest c.loop-stretch.more c.in-Some.ensures.taken c.in-Some.ensures.few)
    ∙ c.loop-stretch.invariant
