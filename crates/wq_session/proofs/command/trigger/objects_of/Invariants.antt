-- The objects of so many triggers.
use Rattle.std.proofs.Common.{◌≡◌, take}
use Rattle.wq_follow.specs.Followed.{trigger_data}
use Rattle.wq_session.specs.Shelved.{each}
use Rattle.wq_session.specs.Trigger.{objects_of}
use Rattle.wq_session.specs.Work.{objects_in}
use Rattle.wq_session.proofs.command.trigger.objects_of.Given as goal

abbrev pub invariant-loop-k : goal.invariant-loop-k
invariant-loop-k l = objects_in l.objects.items ≡ objects_of (each trigger_data (take l.k l.fn.root.triggers))
