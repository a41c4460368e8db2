use Rattle.wq_term.proofs.KeptLimits.{read_fit}
use Rattle.wq_term.proofs.law.read_expressions_fit.Goals as goal

pub returns : goal.returns
returns c = read_fit c.texts_say_what_they_spell.ensures
