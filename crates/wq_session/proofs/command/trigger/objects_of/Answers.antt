-- One object more, or none.
use Rattle.std.proofs.Common.{rules, ◌≡◌, ◌++◌, ◌∷◌, [], ◌+◌, ◌∙◌, Some, None, ap, sym, slice_get, take}
use Rattle.wq_follow.specs.Followed.{trigger_data}
use Rattle.wq_follow.specs.Kept.{data_in}
use Rattle.wq_session.proofs.Triggers.{no_object, one_object}
use Rattle.wq_session.specs.Work.{objects_in}
use Rattle.wq_session.proofs.command.trigger.objects_of.Goals as goal
use Rattle.wq_session.proofs.command.trigger.objects_of.Goals.{in-Some+in_ok-object+in_ok-push, in_default}

pub loop-k-preserved : goal.loop-k-preserved
loop-k-preserved c = elim c.match-trigger_at.branch [
  | in-Some+in_ok-object+in_ok-push w ↦
      let there : slice_get c.args.root.now.triggers c.loop-k.k ≡ Some (w.in-Some.field-0-0.now, w.in-Some.trigger.now) = search rules in
      let same : data_in (w.in_ok-object.field-0).value ≡ (trigger_data w.in-Some.trigger.now).object = search rules in
      let put : c.match-trigger_at.objects.items ≡ c.loop-k.objects.items ++ w.in_ok-object.field-0 ∷ [] = search rules in
      ap objects_in put
      ∙ one_object c.args.root.now.triggers c.loop-k.k (w.in-Some.field-0-0.now, w.in-Some.trigger.now) c.loop-k.objects.items w.in_ok-object.field-0
      c.loop-k.invariant there same
  | in_default w ↦
      let none : slice_get c.args.root.now.triggers c.loop-k.k ≡ None = search rules in
      let kept : c.match-trigger_at.objects.items ≡ c.loop-k.objects.items = search rules in
      ap objects_in kept ∙ no_object c.args.root.now.triggers c.loop-k.k c.loop-k.objects.items c.loop-k.invariant none
]
