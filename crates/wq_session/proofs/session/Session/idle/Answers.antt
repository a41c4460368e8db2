-- One more subscription was told, or the moment ends.
use Rattle.std.proofs.Common.{rules, ◌≡◌, ◌<◌, ◌++◌, length, map, option_map, Result, Ok, Err, ap, sym, subst, ◌∙◌, arith, ℕ}
use Rattle.std.specs.declared.alloc.AllocError.{AllocError}
use Rattle.std.proofs.lemmas.List.{length-map}
use Rattle.wq_follow.specs.Followed.{subscription_data}
use Rattle.wq_session.specs.Out.{tells_lists}
use Rattle.wq_crawl.specs.At.{at_data}
use Rattle.wq_session.specs.Followed.{follows_of}
use Rattle.wq_session.specs.Moment.{Idles, Shown, TellsOne, left_of, shown_data, shown_in}
use Rattle.wq_session.specs.declared.session.Session.{Session}
use Rattle.wq_session.proofs.Moments.{all_told, has_next, next_one, ran_out, told_one}
use Rattle.wq_session.proofs.session.Session.idle.Goals as goal
use Rattle.wq_session.proofs.session.Session.idle.Goals.{else-loop-test, then-loop-test+in-Err}

pub tell_one-requires : goal.tell_one-requires
tell_one-requires c =
    let counted : c.len-end.result ≡ length c.args.self.now.subscriptions.items = search rules in
    let at = option_map at_data c.args.at in
    let follows = follows_of c.args.self.now in
    let now = follows_of c.loop.self in
    let more : c.loop.counter < length follows =
    subst (λ n. c.loop.counter < n) (counted ∙ sym (length-map c.args.self.now.subscriptions.items subscription_data)) c.loop-test.true in
    let it = next_one c.args.root at follows now c.loop.counter c.loop.place c.loop.lists.items c.loop.invariant more in
    subst (λ n. c.loop.place < n) (length-map c.loop.self.subscriptions.items subscription_data)
    (has_next c.args.root at follows now c.loop.counter c.loop.place c.loop.lists.items c.loop.invariant it.0 it.1 it.2)

pub loop-preserved : goal.loop-preserved
loop-preserved c =
    let counted : c.len-end.result ≡ length c.args.self.now.subscriptions.items = search rules in
    let at = option_map at_data c.args.at in
    let follows = follows_of c.args.self.now in
    let now = follows_of c.loop.self in
    let so = c.loop.invariant in
    let more : c.loop.counter < length follows =
    subst (λ n. c.loop.counter < n) (counted ∙ sym (length-map c.args.self.now.subscriptions.items subscription_data)) c.loop-test.true in
    let it = next_one c.args.root at follows now c.loop.counter c.loop.place c.loop.lists.items so more in
    let front = left_of c.args.root (shown_in at) so.polled in
    let tells = c.tell_one.ensures front it.0 it.1 (so.left ∙ ap (λ l. front ++ l) it.2) so.placed in
    told_one c.args.root at follows now c.loop.counter c.loop.place c.loop.lists.items so it.0 it.1 it.2 c.in-Ok.next
    (map subscription_data c.tell_one.new.subscriptions.items) c.tell_one.new.lists.items
    (subst (λ (k : Shown). TellsOne c.args.root k front it.0 it.1 c.loop.lists.items (Ok c.in-Ok.next)
    (map subscription_data c.tell_one.new.subscriptions.items) c.tell_one.new.lists.items) c.shown_in-shown.ensures
    (subst (λ (r : Result ℕ AllocError). TellsOne c.args.root (shown_data c.shown_in-shown.result) front it.0 it.1 c.loop.lists.items r
    (map subscription_data c.tell_one.new.subscriptions.items) c.tell_one.new.lists.items) c.in-Ok.is tells))

pub returns : goal.returns
returns c =
    let counted : c.len-end.result ≡ length c.args.self.now.subscriptions.items = search rules in
    let at = option_map at_data c.args.at in
    let follows = follows_of c.args.self.now in
    let now = follows_of c.loop.self in
    let so = c.loop.invariant in
    elim c.loop-test.branch [
      | else-loop-test w ↦
          let end : c.len-end.result ≡ length follows =
          counted ∙ sym (length-map c.args.self.now.subscriptions.items subscription_data) in
          let all : c.loop.counter ≡ length follows = omega (arith, end, c.loop.auto.counter-end, w.loop-test.false) in
          subst (λ (x : Session). Idles c.args.root at follows c.of_lists.result (follows_of x)) (sym w.self-is)
          (all_told c.args.root at follows now c.loop.counter c.loop.place c.loop.lists.items so c.of_lists.result all
          (c.of_lists.ensures ∙ ap (λ l. tells_lists l.items) w.lists-is))
      | then-loop-test+in-Err w ↦
          let more : c.loop.counter < length follows =
          subst (λ n. c.loop.counter < n) (counted ∙ sym (length-map c.args.self.now.subscriptions.items subscription_data)) w.loop-test.true in
          let it = next_one c.args.root at follows now c.loop.counter c.loop.place c.loop.lists.items so more in
          let front = left_of c.args.root (shown_in at) so.polled in
          let tells = w.tell_one.ensures front it.0 it.1 (so.left ∙ ap (λ l. front ++ l) it.2) so.placed in
          let after = map subscription_data w.tell_one.new.subscriptions.items in
          subst (λ (x : Session). Idles c.args.root at follows c.of_lists.result (follows_of x)) (sym w.self-is)
          (ran_out c.args.root at follows now c.loop.counter c.loop.place c.loop.lists.items so it.0 it.1 it.2 w.in-Err.field-0 after w.tell_one.new.lists.items
          c.of_lists.result
          (subst (λ (k : Shown). TellsOne c.args.root k front it.0 it.1 c.loop.lists.items (Err w.in-Err.field-0) after w.tell_one.new.lists.items) c.shown_in-shown.ensures
          (subst (λ (r : Result ℕ AllocError). TellsOne c.args.root (shown_data c.shown_in-shown.result) front it.0 it.1 c.loop.lists.items r
          after w.tell_one.new.lists.items) w.in-Err.is tells))
          (c.of_lists.ensures ∙ ap (λ l. tells_lists l.items) w.lists-is))
    ]
