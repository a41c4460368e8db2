-- the splitter stays as it was
use Rattle.std.proofs.Common.{◌≡◌}
use Rattle.wq_inbox.proofs.stream_reader.split.Given as goal

abbrev pub invariant-loop : goal.invariant-loop
invariant-loop g l = l.splitter ≡ l.fn.splitter
