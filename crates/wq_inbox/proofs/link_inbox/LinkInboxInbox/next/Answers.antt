-- what was taken is handed out
use Rattle.std.proofs.Common.{ap}
use Rattle.wq_stream.specs.Inbox.{handed}
use Rattle.wq_inbox.proofs.Taking.{hands_taken}
use Rattle.wq_inbox.proofs.link_inbox.LinkInboxInbox.next.Goals as goal

pub returns-clause-hands : goal.returns-clause-hands
returns-clause-hands g c = ap handed (hands_taken c.args.self.now.outlet c.next.result c.next.new.self c.next.ensures)
