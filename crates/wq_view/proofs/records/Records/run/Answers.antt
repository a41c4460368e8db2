-- One stretch more is taken.
use Rattle.std.proofs.Common.{◌-◌, IsTrue, drop, length, subst, take, ap, sym, ◌∙◌, arith}
use Rattle.std.specs.List.{list_all}
use Rattle.wq_record.specs.Seen.{is_lawful_row}
use Rattle.wq_view.specs.SeenRows.{seen_rows}
use Rattle.wq_view.specs.Records.{records_left}
use Rattle.wq_view.specs.Stretch.{stretch_records}
use Rattle.wq_view.proofs.Counted.{more_lawful, more_records, more_rows}
use Rattle.wq_view.proofs.SeenAgain.{few_taken}
use Rattle.wq_view.proofs.Stretches.{left_more}
use Rattle.wq_view.proofs.records.Records.run.Goals as goal

pub overflow_add-existing : goal.overflow_add-existing
overflow_add-existing c =
    omega (
      arith,
      c.loop-stretch.invariant.existing,
      c.existing-existing.ensures.count,
      few_taken (records_left c.args.self) c.args.most,
      c.ranges.most.fits,
      more_rows (records_left c.loop-stretch.left) (stretch_records c.in-Some.stretch) (records_left c.take.new.records) c.loop-stretch.more c.in-Some.ensures.taken c.in-Some.ensures.few,
    )

pub loop-stretch-preserved : goal.loop-stretch-preserved
loop-stretch-preserved c =
    let all = records_left c.loop-stretch.left in
    let stretch = stretch_records c.in-Some.stretch in
    let rest = records_left c.take.new.records in
    let more = c.loop-stretch.more in
    let is = c.in-Some.ensures.taken in
    let few = c.in-Some.ensures.few in
    record {
      len = omega (arith, c.loop-stretch.invariant.len, c.len-len.ensures, more_records all stretch rest more is few, ap (λ n. length (take (more - n) rest)) c.len-more.ensures);
      existing = omega (arith, c.loop-stretch.invariant.existing, c.existing-existing.ensures.count, more_rows all stretch rest more is few, ap (λ n. length (seen_rows (take (more - n) rest))) c.len-more.ensures);
      left = ap (λ n. drop (more - n) rest) c.len-more.ensures ∙ sym (left_more all stretch rest more is few) ∙ c.loop-stretch.invariant.left;
      lawful = λ later. c.loop-stretch.invariant.lawful (more_lawful all stretch rest more is few c.existing-existing.ensures.lawful (subst (λ n. IsTrue (list_all is_lawful_row (seen_rows (take (more - n) rest)))) c.len-more.ensures later));
    }
