-- by the root that is found, and its view after the pass
use Rattle.std.proofs.Common.{◌≡◌, ◌≢◌, ◌<◌, ◌++◌, ◌∷◌, [], Ok, Err, None, Some, IfSome, option_map, inl, inr, ap, sym, subst, ◌∙◌}
use Rattle.std.proofs.lemmas.Result.{err_from_is_err_and}
use Rattle.wq_view.specs.History.{last_stats}
use Rattle.wq_record.specs.Limit.{max_tick}
use Rattle.wq_view.specs.View.{IsViewOf}
use Rattle.wq_live.specs.Event.{passes_over}
use Rattle.wq_live.proofs.Passes.{not_shown, is_there, found_view, found_known, after_pass}
use Rattle.wq_live.proofs.Spending.{no_memory, same_error, wants_by_view, well}
use Rattle.wq_live.proofs.table.RootTable.with_change.Goals as goal

pub after-requires : goal.after-requires
after-requires c =
    let found = sym c.root_of_number.ensures ∙ ap (option_map (λ root. root.now)) c.in-Some.is in
    subst (λ o. IfSome o (λ root. c.args.change.now.base ≡ root.view)) found c.requires ∙ sym (c.deref.ensures ∙ ap (λ r. r.view) c.root.view_is)

pub returns-in_default-clause-passed : goal.returns-in_default-clause-passed
returns-in_default-clause-passed c events is =
    inl (not_shown events c.args.self.now is c.args.number (sym c.root_of_number.ensures ∙ ap (option_map (λ root. root.now)) c.in_default.is))

pub returns-in_default-clause-spent : goal.returns-in_default-clause-spent
returns-in_default-clause-spent c events is =
    let hidden = not_shown events c.args.self.now is c.args.number (sym c.root_of_number.ensures ∙ ap (option_map (λ root. root.now)) c.in_default.is) in
    ((λ h. absurd (cc h)), (λ wants. absurd (cc (hidden, wants.0.0))))

pub returns-in_err-view-clause-spent : goal.returns-in_err-view-clause-spent
returns-in_err-view-clause-spent c events is =
    let found = sym c.root_of_number.ensures ∙ ap (option_map (λ root. root.now)) c.in-Some.is in
    let of = found_view events c.args.self.now is c.args.number c.in-Some.root.now found in
    let lent = subst (IsViewOf (passes_over c.args.number events)) (sym (c.deref.ensures ∙ ap (λ r. r.view) c.root.view_is)) of in
    let shown = is_there events c.args.self.now is c.args.number c.in-Some.root.now found in
    let wants = wants_by_view events c.args.number c.args.change.now.pass c.deref.result.now.tick shown lent.tick (c.after.ensures.spent (passes_over c.args.number events) lent) in
    let p = err_from_is_err_and c.from_residual.result c.from_residual.ensures.1 in
    same_error c.from_residual.result c.after.result p.0 p.1 (c.in_err-view.was ∙ ap Err (sym p.2)) wants

pub returns-in_default-2-clause-spent : goal.returns-in_default-2-clause-spent
returns-in_default-2-clause-spent c events is =
    let found = sym c.root_of_number.ensures ∙ ap (option_map (λ root. root.now)) c.in-Some.is in
    let of = found_view events c.args.self.now is c.args.number c.in-Some.root.now found in
    let lent = subst (IsViewOf (passes_over c.args.number events)) (sym (c.deref.ensures ∙ ap (λ r. r.view) c.root.view_is)) of in
    let shown = is_there events c.args.self.now is c.args.number c.in-Some.root.now found in
    let wants = wants_by_view events c.args.number c.args.change.now.pass c.deref.result.now.tick shown lent.tick (c.after.ensures.spent (passes_over c.args.number events) lent) in
    well None c.after.result None (c.in_ok-view.was ∙ ap Ok c.in_default-2.is) wants

pub returns-in_err-with_view-clause-spent : goal.returns-in_err-with_view-clause-spent
returns-in_err-with_view-clause-spent c events is =
    let found = sym c.root_of_number.ensures ∙ ap (option_map (λ root. root.now)) c.in-Some.is in
    let of = found_view events c.args.self.now is c.args.number c.in-Some.root.now found in
    let lent = subst (IsViewOf (passes_over c.args.number events)) (sym (c.deref.ensures ∙ ap (λ r. r.view) c.root.view_is)) of in
    let shown = is_there events c.args.self.now is c.args.number c.in-Some.root.now found in
    let wants = wants_by_view events c.args.number c.args.change.now.pass c.deref.result.now.tick shown lent.tick (c.after.ensures.spent (passes_over c.args.number events) lent) in
    let p = err_from_is_err_and c.from_residual-in_err-with_view.result c.from_residual-in_err-with_view.ensures.1 in
    no_memory c.from_residual-in_err-with_view.result c.after.result (Some c.in-Some-2.view) p.0 p.1 p.2 (c.in_ok-view.was ∙ ap Ok c.in-Some-2.is) wants

pub returns-clause-spent : goal.returns-clause-spent
returns-clause-spent c events is =
    let found = sym c.root_of_number.ensures ∙ ap (option_map (λ root. root.now)) c.in-Some.is in
    let of = found_view events c.args.self.now is c.args.number c.in-Some.root.now found in
    let lent = subst (IsViewOf (passes_over c.args.number events)) (sym (c.deref.ensures ∙ ap (λ r. r.view) c.root.view_is)) of in
    let shown = is_there events c.args.self.now is c.args.number c.in-Some.root.now found in
    let wants = wants_by_view events c.args.number c.args.change.now.pass c.deref.result.now.tick shown lent.tick (c.after.ensures.spent (passes_over c.args.number events) lent) in
    well (Some c.in_ok-with_view.field-0) c.after.result (Some c.in-Some-2.view) (c.in_ok-view.was ∙ ap Ok c.in-Some-2.is) wants

pub returns-in_default-2-clause-passed : goal.returns-in_default-2-clause-passed
returns-in_default-2-clause-passed c events is =
    let found = sym c.root_of_number.ensures ∙ ap (option_map (λ root. root.now)) c.in-Some.is in
    let of = found_view events c.args.self.now is c.args.number c.in-Some.root.now found in
    let lent = subst (IsViewOf (passes_over c.args.number events)) (sym (c.deref.ensures ∙ ap (λ r. r.view) c.root.view_is)) of in
    inr ((c.after.ensures.still (passes_over c.args.number events) lent).0 (c.in_ok-view.was ∙ ap Ok c.in_default-2.is))

pub returns-clause-passed : goal.returns-clause-passed
returns-clause-passed c events is =
    let found = sym c.root_of_number.ensures ∙ ap (option_map (λ root. root.now)) c.in-Some.is in
    let of = found_view events c.args.self.now is c.args.number c.in-Some.root.now found in
    let lent = subst (IsViewOf (passes_over c.args.number events)) (sym (c.deref.ensures ∙ ap (λ r. r.view) c.root.view_is)) of in
    let gives : c.after.result ≡ Ok (Some c.in-Some-2.view) = c.in_ok-view.was ∙ ap Ok c.in-Some-2.is in
    let new : last_stats (passes_over c.args.number events) ≢ c.args.change.now.pass.stats = λ same. absurd (cc (gives, (c.after.ensures.still (passes_over c.args.number events) lent).1 same)) in
    let after = subst (λ next. IfSome next (IsViewOf (passes_over c.args.number events ++ c.args.change.now.pass ∷ []))) c.in-Some-2.is (c.in_ok-view.ensures.moved (passes_over c.args.number events) lent) in (
      (is_there events c.args.self.now is c.args.number c.in-Some.root.now found, new),
      rw c.in_ok-with_view.ensures (after_pass events c.args.self.now is c.args.number c.args.change.now.pass c.in-Some-2.view (found_known events c.args.self.now is c.args.number c.in-Some.root.now found) new after),
    )

pub returns-clause-room : goal.returns-clause-room
returns-clause-room c events is =
    let found = sym c.root_of_number.ensures ∙ ap (option_map (λ root. root.now)) c.in-Some.is in
    let of = found_view events c.args.self.now is c.args.number c.in-Some.root.now found in
    let lent = subst (IsViewOf (passes_over c.args.number events)) (sym (c.deref.ensures ∙ ap (λ r. r.view) c.root.view_is)) of in
    subst (λ t. t < max_tick) lent.tick (subst (λ (next : _). IfSome next (λ _. c.deref.result.now.tick < max_tick)) c.in-Some-2.is c.in_ok-view.ensures.room)
