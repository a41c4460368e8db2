-- One more number comes after those so far.
use Rattle.std.proofs.Common.{◌+◌, ◌++◌, ◌∷◌, [], Some, ap, refl, sym, ◌∙◌}
use Rattle.std.proofs.lemmas.List.FromFn.{map-range_with_len_more}
use Rattle.wq_replay.proofs.numbers.answers_from.Goals as goal

pub loop-place-preserved : goal.loop-place-preserved
loop-place-preserved c =
    c.in_ok-push.ensures.items
    ∙ ap (λ answers. answers ++ Some (c.args.next + c.loop-place.place) ∷ []) c.loop-place.invariant
    ∙ sym (map-range_with_len_more Some c.args.next c.loop-place.place _ refl)
