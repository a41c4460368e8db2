use Rattle.wq_term.proofs.Grammar.{numbers_say}
use Rattle.wq_term.proofs.law.numbers_say_what_they_write.Goals as goal

pub returns : goal.returns
returns c = numbers_say
