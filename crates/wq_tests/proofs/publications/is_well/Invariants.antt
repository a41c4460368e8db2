-- the list is that of this blank view
use Rattle.wq_tests.proofs.publications.is_well.Given as goal

abbrev pub ghosts-talk : goal.ghosts-talk
ghosts-talk g a = record { book = a.blank.book }
