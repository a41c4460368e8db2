-- One stretch more that the rows show, or do not show; at the end no row is left, or some are.
use Rattle.std.proofs.Common.{◌-◌, take, ap, sym, ◌∙◌}
use Rattle.wq_view.specs.Merge.{shows}
use Rattle.wq_view.specs.Records.{records_left}
use Rattle.wq_view.specs.Run.{is_same_run, rows_behind}
use Rattle.wq_view.specs.Stretch.{stretch_records}
use Rattle.wq_view.proofs.Stretches.{shown_empty, shown_not, shown_on}
use Rattle.wq_view.proofs.patch_merge.are_shown.Goals as goal

pub returns-then-not-seen : goal.returns-then-not-seen
returns-then-not-seen c =
    let rows = c.loop-stretch.others.now in
    let differs = ap (λ rs. is_same_run rs rows) (sym c.records.ensures) ∙ sym c.look-seen.ensures.same ∙ c.if-not-seen.true in
    sym (shown_not (records_left c.loop-stretch.left) (stretch_records c.in-Some.stretch) (records_left c.take.new.records) c.loop-stretch.more c.in-Some.ensures.taken c.in-Some.ensures.few rows differs)
    ∙ c.loop-stretch.invariant

pub loop-stretch-preserved : goal.loop-stretch-preserved
loop-stretch-preserved c =
    let stretch = stretch_records c.in-Some.stretch in
    let rest = records_left c.take.new.records in
    let rows = c.loop-stretch.others.now in
    let left = c.look-seen.result.left.now in
    let same = ap (λ rs. is_same_run rs rows) (sym c.records.ensures) ∙ sym c.look-seen.ensures.same ∙ c.if-not-seen.false in
    let left_is = c.look-seen.ensures.left ∙ ap (λ rs. rows_behind rs rows) c.records.ensures in
    ap (λ n. shows (take (c.loop-stretch.more - n) rest) left) c.len-more.ensures
    ∙ shown_on (records_left c.loop-stretch.left) stretch rest c.loop-stretch.more c.in-Some.ensures.taken c.in-Some.ensures.few rows left left_is same
    ∙ c.loop-stretch.invariant

pub returns : goal.returns
returns c =
    let rows = c.loop-stretch.others.now in
    c.is_empty.ensures ∙ shown_empty rows ∙ ap (λ rs. shows rs rows) (sym c.in_default.ensures.none) ∙ c.loop-stretch.invariant
