-- all that the server's threads share may go from one to another
use denote.Param.Send.{sendable}
use Rattle.std.proofs.Crossing.{crosses}
use Rattle.std.proofs.MapsCrossing.{crosses as maps}
use Rattle.wq_daemon.proofs.Sharing.{trigger_send}
use Rattle.wq_daemon.proofs.assembly.serve_clients.Goals as goal
use Rattle.wq_daemon.proofs.lock_host.LockHost.TheSendSync as LockHost
use Rattle.wq_server.proofs.told_tree.ToldTree.TheSendSync as ToldTree

pub run-requires-send-H : goal.run-requires-send-H
run-requires-send-H g c κs within =
    search (LockHost.the_send, ToldTree.the_send, trigger_send, crosses, maps, sendable) depth 60 fits 20000

pub run-requires-sync-H : goal.run-requires-sync-H
run-requires-sync-H g c κs within =
    search (LockHost.the_sync, ToldTree.the_send, trigger_send, crosses, maps, sendable) depth 60 fits 20000
