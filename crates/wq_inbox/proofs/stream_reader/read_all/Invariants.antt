-- the events of the bytes so far were put, and the splitter keeps their rest
use Rattle.wq_inbox.proofs.Reading.{Reads}
use Rattle.wq_inbox.proofs.stream_reader.read_all.Given as goal

abbrev pub invariant-loop : goal.invariant-loop
invariant-loop g l = Reads l.initial.feed l.splitter l.feed
