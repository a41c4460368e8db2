-- The first space parts the first word from the rest.
use Rattle.std.proofs.Common.{sym}
use Rattle.wq_replay.proofs.Words.{no_word, word_here}
use Rattle.wq_replay.proofs.script.first_word.Goals as goal

pub returns-in_default : goal.returns-in_default
returns-in_default c = sym (no_word c.args.text.now c.in_default.ensures)

pub returns : goal.returns
returns c = word_here c.args.text.now c.in-Some.at c.in-Some.ensures.0 c.in-Some.ensures.1
