use Rattle.std.proofs.Common.{◌≡◌, ◌++◌, ◌∷◌, [], map, ap, ◌∙◌}
use Rattle.std.proofs.lemmas.List.{map_push}
use Rattle.std.proofs.lemmas.List.Elements.{All-push}
use Rattle.wq_base.specs.TextList.{text_at, text_key}
use Rattle.wq_base.proofs.TextOrder.{one_more}
use Rattle.wq_base.proofs.text_list.places.Goals as goal

pub loop-place-preserved : goal.loop-place-preserved
loop-place-preserved c =
    record {
      all =
          ap (map (λ p. p.place)) c.in_ok-push.ensures.items
          ∙ map_push (λ p. p.place) c.loop-place.places.items (record { key = c.text_key-key.result; place = c.loop-place.place })
          ∙ ap (λ l. l ++ c.loop-place.place ∷ []) c.loop-place.invariant.all
          ∙ one_more c.loop-place.place;
      keys =
          rw c.in_ok-push.ensures.items
          (All-push (λ p. p.key ≡ text_key (text_at c.args.texts.now p.place)) c.loop-place.places.items _ c.loop-place.invariant.keys (c.text_key-key.ensures ∙ ap text_key c.text_at.ensures));
    }
