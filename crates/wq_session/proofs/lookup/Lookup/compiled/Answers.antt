-- The program that was found answers what the expression means.
use Rattle.std.proofs.Common.{subst}
use Rattle.wq_query.specs.Query.{asked_of}
use Rattle.wq_session.proofs.Programs.{found_answers}
use Rattle.wq_session.specs.Prepared.{IsFoundFor}
use Rattle.wq_session.proofs.lookup.Lookup.compiled.Goals as goal

pub returns : goal.returns
returns c =
    c.kept.ensures (asked_of c.args.query.now).expression (
      c.requires.lookup.0,
      c.requires.lookup.1,
      found_answers (asked_of c.args.query.now).expression c.args.self.key c.in-Some.program c.requires.lookup.1
          (subst (IsFoundFor c.args.self.key) c.in-Some.is c.requires.found),
    )
