-- One of the lists has ended, and the rest of the other is added.
use Rattle.std.proofs.Common.{◌≡◌, ◌++◌, length, ◌⊎◌, inl, inr, ap, sym, ◌∙◌, append_assoc}
use Rattle.wq_gen.proofs.Unions.{left_over}
use Rattle.wq_gen.proofs.position.merge.Goals as goal
use Rattle.wq_gen.proofs.position.merge.Goals.{in_default, in_default-2}

pub returns : goal.returns
returns c =
    let at_end : (length c.loop-x.rest_left.now ≡ 0) ⊎ (length c.loop-x.rest_right.now ≡ 0) = elim c.match-split_first.branch [ in_default w ↦ inr w.in_default.ensures'.cases | in_default-2 w ↦ inl w.in_default.ensures.cases ] in
    c.in_ok-extend_from_slice-2.ensures.items
    ∙ ap (λ items. items ++ c.loop-x.rest_right.now) c.in_ok-extend_from_slice.ensures.items
    ∙ append_assoc c.loop-x.both.items c.loop-x.rest_left.now c.loop-x.rest_right.now
    ∙ ap (λ rest. c.loop-x.both.items ++ rest) (sym (left_over c.loop-x.rest_left.now c.loop-x.rest_right.now at_end))
    ∙ c.loop-x.invariant
