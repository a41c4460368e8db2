use Rattle.wq_term.proofs.Grammar.{are_shallow}
use Rattle.wq_term.proofs.law.read_expressions_are_shallow.Goals as goal

pub returns : goal.returns
returns c = are_shallow c.texts_say_what_they_spell.ensures
