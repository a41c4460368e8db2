-- One number more.
use Rattle.std.proofs.Common.{[], ◌∷◌, length, sym, ap, subst, arith, length-append}
use Rattle.std.proofs.lemmas.List.{length-map}
use Rattle.wq_view.specs.Suffix.{ArePlaces, first_places, folded_suffix, folded_suffixes}
use Rattle.wq_view.proofs.SuffixNumbers.{no_places, one_more_number}
use Rattle.wq_view.proofs.suffix.SuffixTable.of.Goals as goal

pub loop-at-init : goal.loop-at-init
loop-at-init c = record {
  fits = no_places (length c.args.records.now) c.new-firsts.result.items c.new-firsts.ensures.items;
  count = ap length c.in_ok-numbers.ensures.items;
  right = λ i low. absurd (omega (arith, low));
}

pub loop-at-preserved : goal.loop-at-preserved
loop-at-preserved c =
    let next = c.in_ok-number_for.ensures in
    let is = c.in_ok-push.ensures.items in
    record {
      fits = subst (λ n. ArePlaces n (first_places c.number_for.new.firsts.items)) (length-map c.args.records.now folded_suffix) next.fits;
      count = omega (arith, ap length is, length-append c.loop-at.numbers.items (c.in_ok-number_for.field-0 ∷ []), c.loop-at.invariant.count);
      right = one_more_number (folded_suffixes c.args.records.now) (first_places c.loop-at.firsts.items) (first_places c.number_for.new.firsts.items) c.loop-at.numbers.items c.push.new.self.items c.loop-at.at c.in_ok-number_for.field-0 c.loop-at.invariant.count c.loop-at.invariant.right next is;
    }

pub returns : goal.returns
returns c =
    let count = length-map c.args.records.now folded_suffix in
    record {
      fits = subst (λ n. ArePlaces n (first_places c.loop-at.firsts.items)) (sym count) c.loop-at.invariant.fits;
      each = omega (arith, c.loop-at.invariant.count, c.loop-at-test.false, c.loop-at.auto.at-end, count);
      right = λ i low. c.loop-at.invariant.right i (omega (arith, low, c.loop-at-test.false, count));
    }
