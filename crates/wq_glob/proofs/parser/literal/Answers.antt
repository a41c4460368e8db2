use Rattle.wq_glob.specs.Atom.{literal_at}
use Rattle.wq_glob.proofs.StepLemmas.{stands_byte}
use Rattle.wq_glob.proofs.parser.literal.Goals as goal

pub returns-in-Some-clause-stands : goal.returns-in-Some-clause-stands
unfolding literal_at
returns-in-Some-clause-stands c = rw (c.lower_if.ensures, ← c.in-Some.ensures) (stands_byte c.args.flags c.in-Some.byte)
