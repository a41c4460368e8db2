-- One flag more.
use Rattle.std.proofs.Common.{◌<◌, set, refl, ap, ◌∙◌, arith}
use Rattle.std.proofs.lemmas.List.{length-map, length-set}
use Rattle.wq_view.specs.declared.suffix.First.{First}
use Rattle.wq_view.specs.Sought.{sought_texts}
use Rattle.wq_view.specs.Suffix.{is_one_of, max_numbered}
use Rattle.wq_view.proofs.SuffixFlags.{last_kept, one_more_set}
use Rattle.wq_view.proofs.SuffixNumbers.{place_in}
use Rattle.wq_view.proofs.suffix.flags_of.Goals as goal

pub bounds-records-first : goal.bounds-records-first
bounds-records-first c = place_in _ c.args.firsts.now c.loop-number.number _ c.requires c.loop-number-test.true

pub loop-number-preserved : goal.loop-number-preserved
loop-number-preserved c =
    let texts = sought_texts c.args.sought in
    let rs = c.args.records.now in
    let firsts = c.args.firsts.now in
    let k = c.loop-number.number in
    let low : k < max_numbered = omega (arith, c.loop-number-test.true, c.requires.few, length-map firsts (λ (f : First). f.at)) in
    record {
      each = one_more_set texts rs firsts c.loop-number.flags (set c.loop-number.flags k c.has.result) k c.has.result refl _ c.index-records-first.result c.requires c.loop-number-test.true (omega (arith, low, c.loop-number.invariant.all)) c.index-records-first.is (c.has.ensures ∙ ap (is_one_of texts) c.suffix.ensures) c.loop-number.invariant.each;
      all = length-set c.loop-number.flags k c.has.result ∙ c.loop-number.invariant.all;
      last = last_kept texts rs firsts c.loop-number.flags (set c.loop-number.flags k c.has.result) k c.has.result refl low c.loop-number.invariant.last;
    }
