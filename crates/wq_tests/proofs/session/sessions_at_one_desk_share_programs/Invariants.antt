-- the list is that of this blank view
use Rattle.wq_tests.proofs.session.sessions_at_one_desk_share_programs.Given as goal

abbrev pub ghosts-play : goal.ghosts-play
ghosts-play g a = record { book = a.blank.book }
