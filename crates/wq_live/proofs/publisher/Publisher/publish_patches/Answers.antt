-- no root has the number, or its view is that of the passes
use Rattle.std.proofs.Common.{w64, ◌≡◌, ◌↔◌, ◌<◌, ◌++◌, ◌∷◌, ◌⊎◌, [], false, Err, IfOk, IfSome, is_some, inl, length, refl, ap, sym, subst, ◌∙◌}
use Rattle.std.proofs.lemmas.Int.{to_z-of_z}
use Rattle.std.proofs.lemmas.Result.{err_from_is_err_and}
use Rattle.wq_record.specs.Limit.{max_tick}
use Rattle.wq_view.specs.Change.{ChangeData, MakePass}
use Rattle.wq_view.specs.View.{IsViewOf, ViewData}
use Rattle.wq_view.specs.declared.view.ViewFault.TheVariants.{TicksSpent}
use Rattle.wq_live.specs.declared.event.RootEvent.TheVariants.{Passed}
use Rattle.wq_live.specs.Event.{is_shown, passes_over}
use Rattle.wq_live.specs.Table.{IsNews, IsNoNews, WantsForTicks}
use Rattle.wq_live.proofs.Fullness.{shows}
use Rattle.wq_live.proofs.Passes.{same_pass}
use Rattle.wq_live.proofs.publisher.Publisher.publish_patches.Goals as goal

pub returns-in_err-told-clause-spent : goal.returns-in_err-told-clause-spent
returns-in_err-told-clause-spent g c view is_view =
    let hidden : is_shown c.args.self.now c.args.number ≡ false = sym (shows (λ view. view.now) c.args.self.now c.table.result.now c.table.ensures.table c.args.number c.view.result c.view.ensures.view).0 ∙ ap is_some c.in_default.is in
    let p = err_from_is_err_and c.from_residual.result c.from_residual.ensures.1 in
    ((λ h. absurd (cc (h, p.1, p.2))), (λ wants. absurd (cc (hidden, wants.0.0))))

pub returns-in_default-clause-added : goal.returns-in_default-clause-added
returns-in_default-clause-added g c view is_view =
    let hidden : is_shown c.args.self.now c.args.number ≡ false = sym (shows (λ view. view.now) c.args.self.now c.table.result.now c.table.ensures.table c.args.number c.view.result c.view.ensures.view).0 ∙ ap is_some c.in_default.is in
    inl (inl hidden, refl)

pub returns-in_default-clause-spent : goal.returns-in_default-clause-spent
returns-in_default-clause-spent g c view is_view =
    let hidden : is_shown c.args.self.now c.args.number ≡ false = sym (shows (λ view. view.now) c.args.self.now c.table.result.now c.table.ensures.table c.args.number c.view.result c.view.ensures.view).0 ∙ ap is_some c.in_default.is in
    ((λ h. absurd (cc h)), (λ wants. absurd (cc (hidden, wants.0.0))))

pub of-change-requires-clause-patches : goal.of-change-requires-clause-patches
of-change-requires-clause-patches g c =
    let there = (shows (λ view. view.now) c.args.self.now c.table.result.now c.table.ensures.table c.args.number c.view.result c.view.ensures.view).1 in
    let of = subst (λ o. IfSome o (λ view. IsViewOf (passes_over c.args.number c.args.self.now) view.now)) c.in-Some.is there in
    subst (λ (v : ViewData). MakePass v.records c.args.patches.now) (c.history_has_one_view.ensures (passes_over c.args.number c.args.self.now) c.requires.fit.0 c.in-Some.view.now c.requires.fit.1 of) c.requires.fit.2

pub publish_change-requires : goal.publish_change-requires
publish_change-requires g c =
    let there = (shows (λ view. view.now) c.args.self.now c.table.result.now c.table.ensures.table c.args.number c.view.result c.view.ensures.view).1 in
    let of = subst (λ o. IfSome o (λ view. IsViewOf (passes_over c.args.number c.args.self.now) view.now)) c.in-Some.is there in
    subst (λ (change : ChangeData). IsViewOf (passes_over c.args.number c.args.self.now) change.base) (sym c.of-change.ensures) of

pub returns-clause-added : goal.returns-clause-added
returns-clause-added g c view is_view =
    let events = c.args.self.now in
    let there = (shows (λ view. view.now) events c.table.result.now c.table.ensures.table c.args.number c.view.result c.view.ensures.view).1 in
    let of = subst (λ o. IfSome o (λ view. IsViewOf (passes_over c.args.number events) view.now)) c.in-Some.is there in
    let same = ap (λ (change : ChangeData). change.pass) c.of-change.ensures ∙ same_pass c.history_has_one_view.ensures (passes_over c.args.number events) c.in-Some.view.now view c.args.patches.now _ c.args.second (to_z-of_z w64 c.args.second c.ranges.second) of is_view in
    subst (λ pass. IfOk c.publish_change.result (λ _. (IsNoNews events c.args.number pass × (c.publish_change.new.self ≡ events)) ⊎ (IsNews events c.args.number pass × (length (passes_over c.args.number events) < max_tick) × (c.publish_change.new.self ≡ events ++ Passed c.args.number pass ∷ [])))) same c.publish_change.ensures.added

pub returns-clause-spent : goal.returns-clause-spent
returns-clause-spent g c view is_view =
    let events = c.args.self.now in
    let there = (shows (λ view. view.now) events c.table.result.now c.table.ensures.table c.args.number c.view.result c.view.ensures.view).1 in
    let of = subst (λ o. IfSome o (λ view. IsViewOf (passes_over c.args.number events) view.now)) c.in-Some.is there in
    let same = ap (λ (change : ChangeData). change.pass) c.of-change.ensures ∙ same_pass c.history_has_one_view.ensures (passes_over c.args.number events) c.in-Some.view.now view c.args.patches.now _ c.args.second (to_z-of_z w64 c.args.second c.ranges.second) of is_view in
    subst (λ pass. (c.publish_change.result ≡ Err TicksSpent) ↔ WantsForTicks events c.args.number pass) same c.publish_change.ensures.spent
