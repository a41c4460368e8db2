-- the list is that of this blank view
use Rattle.wq_tests.proofs.session.desks_over_one_lock_share_programs.Given as goal

abbrev pub ghosts-play_at_lock : goal.ghosts-play_at_lock
ghosts-play_at_lock g a = record { book = a.blank.book }
