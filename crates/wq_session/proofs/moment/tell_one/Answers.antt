-- The subscription at the place is the one between those before it and those after it.
use Rattle.std.proofs.Common.{rules, ◌≡◌, ◌+◌, ◌++◌, ◌∷◌, [], map, false, Ok, Some, None, ap, refl, sym, subst, ◌∙◌, arith, slice_set}
use Rattle.std.proofs.lemmas.List.{append-nil, append_assoc}
use Rattle.std.specs.List.{remove}
use Rattle.serde_json.specs.Written.{compact_text}
use Rattle.wq_clock.specs.Instance.{instance_data}
use Rattle.wq_follow.specs.Batch.{is_told}
use Rattle.wq_follow.specs.Followed.{subscription_data}
use Rattle.wq_follow.specs.Subscription.{SubscriptionData, canceled_data, caught_up, next_list}
use Rattle.wq_session.specs.Moment.{MayRunOut, Shown, TellsOne, listed_once, shown_data}
use Rattle.wq_session.proofs.Moments.{got_there, other_root, removed_there, same_root, set_there, tells_other, tells_short, tells_this}
use Rattle.wq_session.proofs.moment.tell_one.Goals as goal

pub returns-then-number-root : goal.returns-then-number-root
returns-then-number-root c front s later is there =
    let number = ap (λ (s : SubscriptionData). s.number) (got_there c.args.subscriptions.now.items front s later c.args.place is there c.index.result.now c.index.ensures) in
    tells_other c.args.root (shown_data c.args.shown) front s later c.args.lists.now.items c.args.place _
    (other_root c.args.root s.number (λ same. c.if-number-root.true (c.number.ensures ∙ number ∙ same))) is there

pub returns-in_err-tell-in-Some : goal.returns-in_err-tell-in-Some
returns-in_err-tell-in-Some c front s later is there =
    let items = c.args.subscriptions.now.items in
    let mine = got_there items front s later c.args.place is there c.index.result.now c.index.ensures in
    let old = got_there items front s later c.args.place is there c.index_mut.result.now c.index_mut.ensures.value in
    let looked : shown_data c.args.shown ≡ Some (instance_data c.in-Some.instance, c.in-Some.view.now) = search rules in
    tells_short c.args.root (shown_data c.args.shown) front s later c.args.lists.now.items c.from_residual.result _ _ c.from_residual.ensures.0
    (same_root c.args.root s.number (sym (c.number.ensures ∙ ap (λ (t : SubscriptionData). t.number) mine) ∙ c.if-number-root.false))
    (subst (λ (k : Shown). MayRunOut k s) (sym looked)
    (subst (λ (t : SubscriptionData). is_told (t.follower).last c.in-Some.view.now.tick ≡ false) old c.in_err-tell-in-Some.ensures.wants))
    (set_there items front s later c.args.place is there c.tell.new.subscription
    ∙ ap (λ (t : SubscriptionData). front ++ t ∷ later) (c.in_err-tell-in-Some.ensures.stays ∙ old))
    c.in_err-tell-in-Some.ensures.untold

pub returns-in_err-end-in-None : goal.returns-in_err-end-in-None
returns-in_err-end-in-None c front s later is there =
    let mine = got_there c.args.subscriptions.now.items front s later c.args.place is there c.index.result.now c.index.ensures in
    let looked : shown_data c.args.shown ≡ None = search rules in
    tells_short c.args.root (shown_data c.args.shown) front s later c.args.lists.now.items c.from_residual-in_err-end-in-None.result _ _
    c.from_residual-in_err-end-in-None.ensures.0
    (same_root c.args.root s.number (sym (c.number.ensures ∙ ap (λ (t : SubscriptionData). t.number) mine) ∙ c.if-number-root.false))
    (subst (λ (k : Shown). MayRunOut k s) (sym looked) tt) is refl

pub returns-in_err-of_text-in-None : goal.returns-in_err-of_text-in-None
returns-in_err-of_text-in-None c front s later is there =
    let mine = got_there c.args.subscriptions.now.items front s later c.args.place is there c.index.result.now c.index.ensures in
    let looked : shown_data c.args.shown ≡ None = search rules in
    tells_short c.args.root (shown_data c.args.shown) front s later c.args.lists.now.items c.from_residual-in_err-of_text-in-None.result _ _
    c.from_residual-in_err-of_text-in-None.ensures.0
    (same_root c.args.root s.number (sym (c.number.ensures ∙ ap (λ (t : SubscriptionData). t.number) mine) ∙ c.if-number-root.false))
    (subst (λ (k : Shown). MayRunOut k s) (sym looked) tt) is refl

pub returns-in_err-push-in-None : goal.returns-in_err-push-in-None
returns-in_err-push-in-None c front s later is there =
    let mine = got_there c.args.subscriptions.now.items front s later c.args.place is there c.index.result.now c.index.ensures in
    let looked : shown_data c.args.shown ≡ None = search rules in
    let same : c.push.new.self.items ≡ c.args.lists.now.items = search rules in
    tells_short c.args.root (shown_data c.args.shown) front s later c.args.lists.now.items c.from_residual-in_err-push-in-None.result _ _
    c.from_residual-in_err-push-in-None.ensures.0
    (same_root c.args.root s.number (sym (c.number.ensures ∙ ap (λ (t : SubscriptionData). t.number) mine) ∙ c.if-number-root.false))
    (subst (λ (k : Shown). MayRunOut k s) (sym looked) tt) is same

pub returns-in_ok-tell-in-Some : goal.returns-in_ok-tell-in-Some
returns-in_ok-tell-in-Some c front s later is there =
    let items = c.args.subscriptions.now.items in
    let mine = got_there items front s later c.args.place is there c.index.result.now c.index.ensures in
    let old = got_there items front s later c.args.place is there c.index_mut.result.now c.index_mut.ensures.value in
    let view = c.in-Some.view.now in
    let instance = instance_data c.in-Some.instance in
    let looked : shown_data c.args.shown ≡ Some (instance, view) = search rules in
    subst (λ (k : Shown). TellsOne c.args.root k front s later c.args.lists.now.items (Ok (c.args.place + 1))
    (map subscription_data (slice_set c.args.subscriptions.now.items c.args.place c.tell.new.subscription)) c.tell.new.lists.items) (sym looked)
    (tells_this c.args.root (Some (instance, view)) front s later c.args.lists.now.items (c.args.place + 1) _ _
    (same_root c.args.root s.number (sym (c.number.ensures ∙ ap (λ (t : SubscriptionData). t.number) mine) ∙ c.if-number-root.false))
    (set_there items front s later c.args.place is there c.tell.new.subscription
    ∙ ap (λ (t : SubscriptionData). front ++ t ∷ later) (c.in_ok-tell-in-Some.ensures.moved ∙ ap (caught_up view) old)
    ∙ sym (append_assoc front (caught_up view s ∷ []) later))
    (c.in_ok-tell-in-Some.ensures.told ∙ ap (λ (t : SubscriptionData). c.args.lists.now.items ++ listed_once (next_list instance view t)) old)
    (ap (λ n. n + 1) (sym there)))

pub returns-in_ok-push-in-None : goal.returns-in_ok-push-in-None
returns-in_ok-push-in-None c front s later is there =
    let items = c.args.subscriptions.now.items in
    let mine = got_there items front s later c.args.place is there c.index.result.now c.index.ensures in
    let other = got_there items front s later c.args.place is there c.index-in-None.result.now c.index-in-None.ensures in
    let looked : shown_data c.args.shown ≡ None = search rules in
    let gone : c.remove.new.self.items ≡ remove items c.args.place = search rules in
    let put : c.push.new.self.items ≡ c.args.lists.now.items ++ c.in_ok-end-in-None.end.items ∷ [] = search rules in
    subst (λ (k : Shown). TellsOne c.args.root k front s later c.args.lists.now.items (Ok c.args.place)
    (map subscription_data c.remove.new.self.items) c.push.new.self.items) (sym looked)
    (tells_this c.args.root None front s later c.args.lists.now.items c.args.place _ _
    (same_root c.args.root s.number (sym (c.number.ensures ∙ ap (λ (t : SubscriptionData). t.number) mine) ∙ c.if-number-root.false))
    (ap (map subscription_data) gone ∙ removed_there items front s later c.args.place is there ∙ ap (λ l. l ++ later) (sym (append-nil front)))
    (put ∙ ap (λ t. c.args.lists.now.items ++ t ∷ []) (c.in_ok-end-in-None.ensures
    ∙ ap (λ (t : SubscriptionData). compact_text (canceled_data t.root t.name)) other))
    (omega (arith, there)))
