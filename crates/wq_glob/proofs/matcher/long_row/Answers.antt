use Rattle.wq_glob.proofs.EndLemmas.{blank_row}
use Rattle.wq_glob.proofs.matcher.long_row.Goals as goal

pub returns-clause-blank : goal.returns-clause-blank
returns-clause-blank c = blank_row 256
