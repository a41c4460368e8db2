-- The lines so far, and then those about the starts that are left, are those about all starts.
use Rattle.std.proofs.Common.{◌≡◌, ◌++◌, drop, map}
use Rattle.wq_replay.specs.Launched.{all_tried}
use Rattle.wq_replay.specs.StartLine.{tried_text}
use Rattle.wq_replay.proofs.start_line.lines_about.Given as goal

abbrev pub invariant-loop-one : goal.invariant-loop-one
invariant-loop-one l =
    l.lines ++ map tried_text (all_tried (drop l.one-index l.tried)) ≡ map tried_text (all_tried l.tried)
