-- The values of so many objects.
use Rattle.std.proofs.Common.{take}
use Rattle.wq_session.specs.Objects.{AreObjects}
use Rattle.wq_session.specs.Work.{objects_in}
use Rattle.wq_session.proofs.command.trigger.values_of.Given as goal

abbrev pub invariant-loop-object : goal.invariant-loop-object
invariant-loop-object l = AreObjects (objects_in (take l.object-index l.objects)) l.values.items
