-- If there are no more files than these, none are left.
use Rattle.std.proofs.Common.{sym, arith}
use Rattle.std.proofs.lemmas.List.{drop_all}
use Rattle.wq_reply.specs.Long.{head_files}
use Rattle.wq_reply.proofs.long.rest_of.Goals as goal

pub returns-in-None : goal.returns-in-None
returns-in-None c = sym (drop_all head_files c.args.places.now (omega (arith, c.in-None.ensures.cases)))
