-- It is put in the place of the one with the same root and name, or at the end.
use Rattle.std.proofs.Common.{ap, sym, map, position, [], ◌∷◌, ◌∙◌}
use Rattle.std.proofs.lemmas.List.{map-append}
use Rattle.wq_follow.specs.Followed.{subscription_data}
use Rattle.wq_session.specs.Followed.{is_called}
use Rattle.wq_session.proofs.Placed.{found_as, put_behind, put_there}
use Rattle.wq_session.proofs.followed.keep.Goals as goal

pub returns-in-Some-clause-kept : goal.returns-in-Some-clause-kept
returns-in-Some-clause-kept c =
    put_there c.args.subscriptions.now.items c.args.subscription c.in-Some.place
    (sym (found_as c.args.subscriptions.now.items c.number.result c.name.result.now c.args.subscription c.place_of.result
    c.number.ensures c.name.ensures
    (c.place_of.ensures ∙ ap (position (λ s. is_called c.number.result c.name.result.now (subscription_data s))) c.deref.ensures.value))
    ∙ c.in-Some.is)

pub returns-in_ok-push-in-None-clause-kept : goal.returns-in_ok-push-in-None-clause-kept
returns-in_ok-push-in-None-clause-kept c =
    ap (map subscription_data) c.in_ok-push-in-None.ensures.items
    ∙ map-append subscription_data c.args.subscriptions.now.items (c.args.subscription ∷ [])
    ∙ put_behind (map subscription_data c.args.subscriptions.now.items) (subscription_data c.args.subscription)
    (sym (found_as c.args.subscriptions.now.items c.number.result c.name.result.now c.args.subscription c.place_of.result
    c.number.ensures c.name.ensures
    (c.place_of.ensures ∙ ap (position (λ s. is_called c.number.result c.name.result.now (subscription_data s))) c.deref.ensures.value))
    ∙ c.in-None.is)
