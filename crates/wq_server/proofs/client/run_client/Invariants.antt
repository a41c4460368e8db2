-- the history that was just opened
use Rattle.wq_server.proofs.client.run_client.Given as goal

abbrev pub ghosts-run_reading : goal.ghosts-run_reading
ghosts-run_reading g a = record { book = a.opened }
