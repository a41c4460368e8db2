use Rattle.wq_clock.proofs.Spellings.{says_what_it_spells}
use Rattle.wq_clock.proofs.law.texts_say_what_they_spell.Goals as goal

pub returns : goal.returns
returns c = says_what_it_spells
