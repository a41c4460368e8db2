use Rattle.wq_glob.proofs.StepLemmas.{stands_class}
use Rattle.wq_glob.proofs.parser.class_piece.Goals as goal

pub returns-then-members : goal.returns-then-members
returns-then-members c items are =
    stands_class c.args.flags c.class_set.result record { negated = c.args.negated; items = items } c.args.members.known are.known c.if-members.true (c.class_set.ensures items are.bytes)
