use Rattle.wq_term.proofs.Grammar.{bounds_say}
use Rattle.wq_term.proofs.law.bounds_say_what_they_write.Goals as goal

pub returns : goal.returns
returns c = bounds_say c.texts_say_what_they_spell.ensures
