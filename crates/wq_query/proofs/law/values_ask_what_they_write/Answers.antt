use Rattle.wq_query.proofs.Grammar.{values_ask}
use Rattle.wq_query.proofs.law.values_ask_what_they_write.Goals as goal

pub returns : goal.returns
returns c =
    values_ask c.values_say_what_they_write.ensures c.bounds_say_what_they_write.ensures c.texts_say_what_they_spell.ensures c.numbers_say_what_they_write.ensures
