-- So many subscriptions were told, one after the other.
use Rattle.std.proofs.Common.{option_map}
use Rattle.wq_crawl.specs.At.{at_data}
use Rattle.wq_session.specs.Followed.{follows_of}
use Rattle.wq_session.proofs.Moments.{Told}
use Rattle.wq_session.proofs.session.Session.idle.Given as goal

abbrev pub invariant-loop : goal.invariant-loop
invariant-loop l =
    Told l.fn.root (option_map at_data l.fn.at) (follows_of l.fn.self) l.counter (follows_of l.self) l.place l.lists.items
