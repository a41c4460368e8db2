-- A batch with files has a list, and is polled at a newer view.
use Rattle.std.proofs.Common.{◌≡◌, ◌≢◌, ◌++◌, ◌∷◌, List, [], length, rules, ap, sym, ◌∙◌}
use Rattle.std.proofs.lemmas.List.{append-nil}
use Rattle.wq_base.proofs.Fronts.{on_err}
use Rattle.wq_record.specs.RecordData.{RecordData}
use Rattle.wq_clock.specs.Instance.{instance_data}
use Rattle.wq_reply.specs.Following.{list_data}
use Rattle.wq_follow.specs.Batch.{polled}
use Rattle.wq_follow.specs.Followed.{subscription_data}
use Rattle.wq_session.specs.Moment.{listed_once}
use Rattle.wq_session.proofs.Polled.{list_told}
use Rattle.wq_follow.specs.Subscription.{text_if_any}
use Rattle.wq_follow.proofs.Rounds.{some_files, no_files, wants_memory}
use Rattle.wq_session.proofs.moment.tell.Goals as goal
use Rattle.wq_session.proofs.moment.tell.Goals.{then-not-is_empty+in_ok-list+in_ok-of_text+in_ok-push, else-not-is_empty}

pub returns-in_err-list-clause-wants : goal.returns-in_err-list-clause-wants
returns-in_err-list-clause-wants c =
    let s = subscription_data c.args.subscription.now in
    let some : length c.in_ok-batch.batch.files.items ≢ 0 = search rules in
    on_err c.from_residual-in_err-list.result (wants_memory s.follower c.args.view.now
    (some_files c.args.view.now.records (polled s.follower c.args.view.now) c.in_ok-batch.batch c.in_ok-batch.ensures.batch some))

pub returns-in_err-of_text-clause-wants : goal.returns-in_err-of_text-clause-wants
returns-in_err-of_text-clause-wants c =
    let s = subscription_data c.args.subscription.now in
    let some : length c.in_ok-batch.batch.files.items ≢ 0 = search rules in
    on_err c.from_residual-in_err-of_text.result (wants_memory s.follower c.args.view.now
    (some_files c.args.view.now.records (polled s.follower c.args.view.now) c.in_ok-batch.batch c.in_ok-batch.ensures.batch some))

pub returns-in_err-push-clause-wants : goal.returns-in_err-push-clause-wants
returns-in_err-push-clause-wants c =
    let s = subscription_data c.args.subscription.now in
    let some : length c.in_ok-batch.batch.files.items ≢ 0 = search rules in
    on_err c.from_residual-in_err-push.result (wants_memory s.follower c.args.view.now
    (some_files c.args.view.now.records (polled s.follower c.args.view.now) c.in_ok-batch.batch c.in_ok-batch.ensures.batch some))

pub returns-clause-told : goal.returns-clause-told
returns-clause-told c =
    let s = subscription_data c.args.subscription.now in
    let view = c.args.view.now in
    let list = list_data s.root s.name (s.follower).plan (instance_data c.args.instance.now) view.tick in
    elim c.if-not-is_empty.branch [
      | then-not-is_empty+in_ok-list+in_ok-of_text+in_ok-push w ↦
          let put : c.if-not-is_empty.lists.items ≡ c.args.lists.now.items ++ w.in_ok-list.list.items ∷ [] = search rules in
          let some : length c.in_ok-batch.batch.files.items ≢ 0 = search rules in
          put ∙ ap (λ o. c.args.lists.now.items ++ listed_once o)
          (list_told view.records (polled s.follower view) c.in_ok-batch.batch w.in_ok-list.list.items list c.in_ok-batch.ensures.batch some
          w.in_ok-list.ensures)
      | else-not-is_empty w ↦
          let same : c.if-not-is_empty.lists.items ≡ c.args.lists.now.items = search rules in
          let none : length c.in_ok-batch.batch.files.items ≡ 0 = search rules in
          same ∙ sym (append-nil c.args.lists.now.items)
          ∙ ap (λ (files : List RecordData). c.args.lists.now.items ++ listed_once (text_if_any files (list files)))
          (sym (no_files view.records (polled s.follower view) c.in_ok-batch.batch c.in_ok-batch.ensures.batch none))
    ]
