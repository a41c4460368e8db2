use Rattle.std.proofs.Common.{sym}
use Rattle.wq_registry.proofs.Entries.{put_past}
use Rattle.wq_registry.proofs.named.ByName.replace.Goals as goal

pub returns-in-None-clause-put : goal.returns-in-None-clause-put
returns-in-None-clause-put g c = sym (put_past c.args.k c.args.value c.args.self.now (sym c.in-None.ensures.value))
