-- The test of the last record of a chunk is that of the chunk.
use Rattle.std.proofs.Common.{◌-◌, false, [], ◌∷◌, length, ap, ◌∙◌}
use Rattle.std.specs.Option.{option_map_or}
use Rattle.wq_view.specs.Position.{passes_at}
use Rattle.wq_view.proofs.chunks.fn.Chunks.partition_point.partition_point.Goals as goal

pub returns-in-Some : goal.returns-in-Some
returns-in-Some c c' p by =
    let called = (c.met.P.FnMut.1.post_iff _ _ _).0 c'.is_before.ensures in
    (by.at ((c'.in-Some.record, tt) ∷ []) c'.is_before.result called.0 called.1).0
    ∙ ap (λ o. option_map_or p o false) c'.in-Some.ensures.value
    ∙ ap (λ rs. passes_at p rs (length rs - 1)) (c'.records.ensures.value ∙ c'.deref.ensures)
