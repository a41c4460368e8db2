-- The events that a session took are those that its inbox handed out meanwhile.
-- It is this server's own.
use Rattle.std.specs.Prelude.{◌≡◌, ℕ, List, ◌++◌, Option}
use Rattle.wq_crawl.specs.Basis.{Basis}
use Rattle.wq_stream.specs.declared.event.Event.{Event}
use Rattle.wq_stream.specs.Inbox.{clients, handed}
use Rattle.wq_session.specs.Serving.{EndData, IsServed, PlaceData}
use Rattle.wq_session.specs.Stays.{events_of}

-- If an inbox shows the events of its client that it has handed out, a session adds those that it
-- took, in order, the last one too: it leaves out none, and takes none twice
abbrev pub TakesAllHanded : Basis → Type 0
TakesAllHanded basis = (before after : PlaceData) (old new : Option (List ℕ)) (how : EndData)
    (events : List Event) (served : IsServed basis before old new after how)
    → before.inbox ≡ handed events
    → after.inbox ≡ handed (events ++ clients (events_of basis before old new after how served))
