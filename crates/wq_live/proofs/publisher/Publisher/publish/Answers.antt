-- no root has the number, or its view is that of the passes
use Rattle.std.proofs.Common.{◌≡◌, false, Bool, Option, None, Some, IfSome, is_some, inl, refl, ap, sym, subst, ◌∙◌}
use Rattle.std.proofs.lemmas.Result.{err_from_is_err_and}
use Rattle.wq_view.specs.Change.{ChangeData}
use Rattle.wq_view.specs.View.{IsViewOf}
use Rattle.wq_live.specs.Event.{is_shown, passes_over}
use Rattle.wq_live.proofs.Fullness.{shows}
use Rattle.wq_live.proofs.publisher.Publisher.publish.Goals as goal

pub returns-in_err-told-clause-spent : goal.returns-in_err-told-clause-spent
returns-in_err-told-clause-spent g c =
    let hidden : is_shown c.args.self.now c.args.number ≡ false = sym (shows (λ view. view.now) c.args.self.now c.table.result.now c.table.ensures.table c.args.number c.view.result c.view.ensures.view).0 ∙ ap is_some c.in_default.is in
    let p = err_from_is_err_and c.from_residual.result c.from_residual.ensures.1 in
    ((λ h. absurd (cc (h, p.1, p.2))), (λ wants. absurd (cc (hidden, wants.0.0))))

pub returns-in_default-clause-added : goal.returns-in_default-clause-added
returns-in_default-clause-added g c =
    let hidden : is_shown c.args.self.now c.args.number ≡ false = sym (shows (λ view. view.now) c.args.self.now c.table.result.now c.table.ensures.table c.args.number c.view.result c.view.ensures.view).0 ∙ ap is_some c.in_default.is in
    inl (inl hidden, refl)

pub returns-in_default-clause-spent : goal.returns-in_default-clause-spent
returns-in_default-clause-spent g c =
    let hidden : is_shown c.args.self.now c.args.number ≡ false = sym (shows (λ view. view.now) c.args.self.now c.table.result.now c.table.ensures.table c.args.number c.view.result c.view.ensures.view).0 ∙ ap is_some c.in_default.is in
    ((λ h. absurd (cc h)), (λ wants. absurd (cc (hidden, wants.0.0))))

pub publish_change-requires : goal.publish_change-requires
publish_change-requires g c =
    let there = (shows (λ view. view.now) c.args.self.now c.table.result.now c.table.ensures.table c.args.number c.view.result c.view.ensures.view).1 in
    let of = subst (λ o. IfSome o (λ view. IsViewOf (passes_over c.args.number c.args.self.now) view.now)) c.in-Some.is there in
    subst (λ (change : ChangeData). IsViewOf (passes_over c.args.number c.args.self.now) change.base) (sym c.over-change.ensures) of
