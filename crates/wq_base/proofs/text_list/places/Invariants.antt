-- the places below the next one, with the keys of their texts
use Rattle.std.proofs.Common.{◌≡◌, All, map}
use Rattle.std.specs.List.{range_with_len}
use Rattle.wq_base.specs.TextList.{text_at, text_key}
use Rattle.wq_base.proofs.text_list.places.Given as goal

abbrev pub invariant-loop-place : goal.invariant-loop-place
invariant-loop-place l =
    record {
      all : map (λ p. p.place) l.places.items ≡ range_with_len 0 l.place;
      keys : All (λ p. p.key ≡ text_key (text_at l.texts p.place)) l.places.items;
    }
