-- The records after the pass are those of the history with it, and the order is theirs.
use Rattle.std.proofs.Common.{w64, ◌≡◌, ◌+◌, ◌≤◌, ◌<◌, List, [], ◌∷◌, ◌++◌, ◌==◌, refl, sym, ap, subst, ◌∙◌, arith}
use mir.Val.{SFits}
use Rattle.std.specs.List.{All}
use Rattle.std.proofs.lemmas.Int.{to_z-of_z}
use Rattle.wq_record.specs.Limit.{max_tick}
use Rattle.wq_record.specs.RecordData.{RecordData}
use Rattle.wq_view.specs.Change.{ChangeData, MakePass, pass_by}
use Rattle.wq_view.specs.Limit.{max_records}
use Rattle.wq_view.specs.Listing.{listing_of}
use Rattle.wq_view.specs.Merge.{pairs_of, records_after}
use Rattle.wq_view.specs.Moves.{IsAfter, MovesData, moves_data, no_moves, with_pairs}
use Rattle.wq_view.specs.Order.{IsOrderOf, Rises, nth_outside}
use Rattle.wq_view.specs.Patch.{patched}
use Rattle.wq_view.specs.declared.patch.Patch.{Patch}
use Rattle.wq_view.specs.View.{ViewData, IsViewOf, NamesRise}
use Rattle.wq_view.proofs.Absorbed.{absorbed_ordered}
use Rattle.wq_view.proofs.PassOrder.{came_rises, changed_rises, order_after_pass, places_within}
use Rattle.wq_view.proofs.PatchedViews.{lawful_patches, listing_entries, made_are, moves_are, patched_rise}
use Rattle.wq_view.proofs.ViewSteps.{view_of_more}
use Rattle.wq_view.proofs.view.View.moved_by.Goals as goal

-- the records of a change's view, and the patches that make its pass with them
module _ (change : ChangeData) (known : ViewData) (all : List RecordData) (patches : List Patch) (base : change.base ≡ known) (same : all ≡ known.records) (make : MakePass change.base.records patches) (pass : change.pass ≡ pass_by change.base.records patches change.pass.second) where
  made_with : MakePass all patches
  made_with = subst (λ rs. MakePass rs patches) (ap (λ (v : ViewData). v.records) base ∙ sym same) make

  pass_with : pass_by all patches change.pass.second ≡ change.pass
  pass_with = ap (λ rs. pass_by rs patches change.pass.second) (same ∙ ap (λ (v : ViewData). v.records) (sym base)) ∙ sym pass

pub chunks_patched-requires-clause-lawful : goal.chunks_patched-requires-clause-lawful
chunks_patched-requires-clause-lawful c = lawful_patches c.patches.result.now c.args.change.now.base.records c.patches.ensures.make.lawful

-- the patches make the pass with the records
make : (c : goal.After-moves-1) → MakePass c.self.inside.chunks c.patches.result.now
make c = made_with c.args.change.now c.args.self.now c.self.inside.chunks c.patches.result.now c.requires.base (ap (λ (v : ViewData). v.records) c.self.view_is) c.patches.ensures.make c.patches.ensures.pass

-- the moves of all records
made : (c : goal.After-moves-1) → moves_data c.in_ok-chunks.moves ≡ with_pairs (pairs_of c.self.inside.chunks (patched c.self.inside.chunks c.patches.result.now)) no_moves
made c = moves_are c.self.inside.chunks c.patches.result.now c.self.invariant.1 (make c).fit _ c.slots.ensures.records (moves_data c.in_ok-chunks.moves) c.in_ok-chunks.ensures.moves

pub after-requires-clause-came : goal.after-requires-clause-came
after-requires-clause-came c = subst (λ (m : MovesData). Rises m.came) (sym (made c)) (came_rises c.self.inside.tick c.args.change.now.pass.second c.self.inside.chunks (patched c.self.inside.chunks c.patches.result.now) c.self.invariant.2.known)

pub after-requires-clause-changed : goal.after-requires-clause-changed
after-requires-clause-changed c = subst (λ (m : MovesData). Rises m.changed) (sym (made c)) (changed_rises c.self.inside.tick c.args.change.now.pass.second c.self.inside.chunks (patched c.self.inside.chunks c.patches.result.now) c.self.invariant.2.known)

pub after-requires-clause-within : goal.after-requires-clause-within
after-requires-clause-within c =
    let few = subst (λ (m : MovesData). m.next ≤ max_records) (made c) c.in_ok-chunks.moves.few in
    subst (λ (m : MovesData). All (λ p. nth_outside m.came p < max_records) c.self.inside.order.later) (sym (made c)) (places_within c.self.inside.tick c.args.change.now.pass.second c.self.inside.chunks (patched c.self.inside.chunks c.patches.result.now) c.self.inside.order c.self.invariant.2 few)

pub invariant_of-result : goal.invariant_of-result
invariant_of-result c =
    let all = c.self.inside.chunks in
    let patches = c.patches.result.now in
    let rows = patched all patches in
    let tick = c.self.inside.tick + 1 in
    let second = c.args.change.now.pass.second in
    let fits : SFits w64 c.second.result = record { sfits = c.second.type_inv } in
    let fit = (made_with c.args.change.now c.args.self.now all patches c.requires.base (ap (λ (v : ViewData). v.records) c.self.view_is) c.patches.ensures.make c.patches.ensures.pass).fit in
    let below : tick ≤ max_tick = omega (arith, c.requires.tick, ap (λ (v : ViewData). v.tick) c.self.view_is) in
    let moves = moves_are all patches c.self.invariant.1 fit _ c.slots.ensures.records (moves_data c.in_ok-chunks.moves) c.in_ok-chunks.ensures.moves in
    let after_all : c.in_ok-chunks.chunks ≡ records_after tick second all rows = made_are all patches c.self.invariant.1 fit _ c.slots.ensures.records tick second _ c.in_ok-chunks.chunks (to_z-of_z w64 c.second.result fits ∙ c.second.ensures.value) c.in_ok-chunks.ensures.records in
    let order = subst (λ m. IsAfter (c.self.inside.tick == 0) m c.self.inside.order c.in_ok-order.order) moves c.in_ok-order.ensures in
    let after = order_after_pass c.self.inside.tick tick (c.self.inside.tick == 0) second all rows c.self.inside.order c.in_ok-order.order (omega arith) refl c.self.invariant.2 order in (
      below,
      subst NamesRise (sym after_all) (absorbed_ordered tick second all rows c.self.invariant.1 (patched_rise all patches c.self.invariant.1 fit)),
      subst (λ rs. IsOrderOf tick rs c.in_ok-order.order) (sym after_all) after,
    )

pub returns : goal.returns
returns c history is_view =
    let all = c.self.inside.chunks in
    let patches = c.patches.result.now in
    let rows = patched all patches in
    let tick = c.self.inside.tick + 1 in
    let second = c.args.change.now.pass.second in
    let fits : SFits w64 c.second.result = record { sfits = c.second.type_inv } in
    let same = ap (λ (v : ViewData). v.records) c.self.view_is in
    let fit = (made_with c.args.change.now c.args.self.now all patches c.requires.base same c.patches.ensures.make c.patches.ensures.pass).fit in
    let rise = patched_rise all patches c.self.invariant.1 fit in
    let before : ViewData = record { tick = c.self.inside.tick; records = all } in
    let was : IsViewOf history before = subst (IsViewOf history) (sym c.self.view_is) is_view in
    let next = view_of_more history before (listing_of rows second) rows was (listing_entries rows second rise) rise in
    let after_all : c.in_ok-chunks.chunks ≡ records_after tick second all rows = made_are all patches c.self.invariant.1 fit _ c.slots.ensures.records tick second _ c.in_ok-chunks.chunks (to_z-of_z w64 c.second.result fits ∙ c.second.ensures.value) c.in_ok-chunks.ensures.records in
    subst (λ pass. IsViewOf (history ++ pass ∷ []) (record { tick = tick; records = c.in_ok-chunks.chunks })) (pass_with c.args.change.now c.args.self.now all patches c.requires.base same c.patches.ensures.make c.patches.ensures.pass)
    (subst (λ rs. IsViewOf (history ++ listing_of rows second ∷ []) (record { tick = tick; records = rs })) (sym after_all) next)
