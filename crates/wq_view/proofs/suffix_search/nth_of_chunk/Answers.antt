-- The record is the one sought, or it is passed.
use Rattle.std.proofs.Common.{◌<◌, ◌+◌, ◌++◌, length, get_or, slice_get, sym, refl, ap, subst, ◌∙◌, arith}
use Rattle.std.proofs.lemmas.Option.{slice_get_read}
use Rattle.wq_view.specs.Sought.{sought_texts}
use Rattle.wq_view.specs.Suffix.{IsFlagged, has_suffix_of}
use Rattle.wq_view.proofs.SuffixPlaces.{found_after, nth_later, places_after, same_after}
use Rattle.wq_view.proofs.suffix_search.nth_of_chunk.Goals as goal
use Rattle.wq_view.proofs.suffix_search.nth_of_chunk.Goals.{then-is_sought+else-left-eq0, else-is_sought}

pub is_sought-requires : goal.is_sought-requires
is_sought-requires c =
    let rs = c.args.chunk.now.records.now in
    let i = c.loop-i.i in
    let r = c.index-chunk-i.result in
    let low : i < length rs = omega (arith, c.loop-i-test.true, c.requires.each) in
    subst (λ x. IsFlagged (sought_texts c.args.sought) c.args.chunk.now.flags (get_or c.args.chunk.now.numbers.now i 0) x) c.index-chunk-i.is (c.requires.right i r (slice_get_read rs (length rs) i r refl low c.index-chunk-i.is))

pub loop-i-preserved : goal.loop-i-preserved
loop-i-preserved c at more =
    let test = has_suffix_of (sought_texts c.args.sought) in
    let rs = c.args.chunk.now.records.now in
    let i = c.loop-i.i in
    let r = c.index-chunk-i.result in
    let low : i < length rs = omega (arith, c.loop-i-test.true, c.requires.each) in
    elim c.if-is_sought.branch [
      | then-is_sought+else-left-eq0 w ↦
          c.loop-i.invariant at more
          ∙ ap (λ l. slice_get (l ++ more) c.loop-i.left) (found_after test at rs i r low c.index-chunk-i.is (ap test c.index-chunk-i.is ∙ sym c.is_sought.ensures ∙ w.if-is_sought.true))
          ∙ nth_later (at + i) (places_after test at rs (i + 1) ++ more) c.loop-i.left c.if-is_sought.left w.if-left-eq0.false w.left-is
      | else-is_sought w ↦
          c.loop-i.invariant at more
          ∙ ap (λ l. slice_get (l ++ more) c.loop-i.left) (same_after test at rs i r low c.index-chunk-i.is (ap test c.index-chunk-i.is ∙ sym c.is_sought.ensures ∙ w.if-is_sought.false))
          ∙ ap (slice_get (places_after test at rs (i + 1) ++ more)) (sym w.left-is)
    ]
