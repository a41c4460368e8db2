use Rattle.wq_term.proofs.Grammar.{values_say}
use Rattle.wq_term.proofs.law.values_say_what_they_write.Goals as goal

pub returns : goal.returns
returns c = values_say c.texts_say_what_they_spell.ensures
