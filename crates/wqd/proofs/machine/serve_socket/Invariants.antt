-- the list of events is that of this blank view
use Rattle.wqd.proofs.machine.serve_socket.Given as goal

abbrev pub ghosts-serve_clients : goal.ghosts-serve_clients
ghosts-serve_clients g a = record { book = a.blank.book }
