-- the list is that of this blank view
use Rattle.wq_tests.proofs.session.roots_answer_when_nobody_is_there.Given as goal

abbrev pub ghosts-outlive : goal.ghosts-outlive
ghosts-outlive g a = record { book = a.blank.book }
