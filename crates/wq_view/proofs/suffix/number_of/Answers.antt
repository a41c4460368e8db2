-- The suffix at the place of the number is the one that is sought.
use Rattle.std.proofs.Common.{sym, ap, ◌∙◌}
use Rattle.std.specs.Str.{str_eq_ignore_ascii_case}
use Rattle.wq_view.proofs.SuffixNumbers.{found_number, place_in}
use Rattle.wq_view.proofs.suffix.number_of.Goals as goal

pub bounds-records-first : goal.bounds-records-first
bounds-records-first c = place_in _ c.args.firsts.now c.loop-number.number _ c.requires c.loop-number-test.true

pub returns-then-is_same : goal.returns-then-is_same
returns-then-is_same c = (
  c.loop-number-test.true,
  found_number c.args.records.now c.args.firsts.now c.loop-number.number _ c.index-records-first.result c.args.suffix.now c.requires c.loop-number-test.true c.index-records-first.is (ap (λ s. str_eq_ignore_ascii_case s c.args.suffix.now) (sym c.suffix-known.ensures) ∙ sym c.is_same.ensures ∙ c.if-is_same.true),
)
