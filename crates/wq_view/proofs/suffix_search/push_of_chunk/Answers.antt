-- The record is pushed and counted, or passed.
use Rattle.std.proofs.Common.{◌≡◌, ◌<◌, ◌+◌, ◌++◌, [], ◌∷◌, length, sym, ap, ◌∙◌, append_assoc, arith}
use Rattle.wq_view.specs.Looks.{count_after}
use Rattle.wq_view.specs.Sought.{sought_texts}
use Rattle.wq_view.specs.Suffix.{has_suffix_of}
use Rattle.wq_view.proofs.SuffixPlaces.{found_after, places_after, same_after}
use Rattle.wq_view.proofs.suffix_search.push_of_chunk.Goals as goal
use Rattle.wq_view.proofs.suffix_search.push_of_chunk.Goals.{then-is_sought+in_ok-push, else-is_sought}

pub loop-i-preserved : goal.loop-i-preserved
loop-i-preserved c =
    let test = has_suffix_of (sought_texts c.args.sought) in
    let at = c.args.at in
    let rs = c.args.chunk.now.records.now in
    let i = c.loop-i.i in
    let left = places_after test at rs (i + 1) in
    let was = c.loop-i.invariant in
    let old = c.loop-i.found.items in
    let low : i < length rs = omega (arith, c.loop-i-test.true, c.requires.flagged.each) in
    elim c.if-is_sought.branch [
      | then-is_sought+in_ok-push w ↦
          let step : places_after test at rs i ≡ (at + i) ∷ left = found_after test at rs i c.index-chunk-i.result low c.index-chunk-i.is (ap test c.index-chunk-i.is ∙ sym c.is_sought.ensures ∙ w.if-is_sought.true) in
          let is : c.if-is_sought.found.items ≡ old ++ (at + i) ∷ [] = ap (λ v. v.items) w.found-is ∙ w.in_ok-push.ensures.items in
          let more : c.if-is_sought.looks ≡ count_after 1 c.loop-i.looks = w.looks-is ∙ w.saturating_add.ensures in
          record {
            all = ap (λ l. l ++ left) is ∙ append_assoc old ((at + i) ∷ []) left ∙ ap (λ l. old ++ l) (sym step) ∙ was.all;
            counted = ap (count_after (length left)) more ∙ ap (λ l. count_after (length l) c.loop-i.looks) (sym step) ∙ was.counted;
            few = omega (arith, was.few, more, ap length step);
          }
      | else-is_sought w ↦
          let step : places_after test at rs i ≡ left = same_after test at rs i c.index-chunk-i.result low c.index-chunk-i.is (ap test c.index-chunk-i.is ∙ sym c.is_sought.ensures ∙ w.if-is_sought.false) in
          record {
            all = ap (λ v. v.items ++ left) w.found-is ∙ ap (λ l. old ++ l) (sym step) ∙ was.all;
            counted = ap (count_after (length left)) w.looks-is ∙ ap (λ l. count_after (length l) c.loop-i.looks) (sym step) ∙ was.counted;
            few = omega (arith, was.few, w.looks-is, ap length step);
          }
    ]
