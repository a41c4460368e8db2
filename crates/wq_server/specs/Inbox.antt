-- The inbox of a client shows its events by the place that the client has.
-- It is this server's own.
use Rattle.std.specs.Prelude.{Bool, true, false}
use Rattle.wq_stream.specs.Inbox.{InboxData, handed, hidden}
use Rattle.wq_server.specs.declared.client.ClientPlace.{ClientPlace}
use Rattle.wq_server.specs.declared.client.ClientPlace.TheVariants.{Kept, Usual}

-- an inbox that may refuse an event shows what it has handed out, but not what is left
abbrev pub shown_kept : InboxData → InboxData
shown_kept (handed events) = handed events
shown_kept shown = hidden

-- the inbox below is shown as it is now or, if an event was refused, as it was before that event
abbrev pub shown_below : Bool → InboxData → InboxData → InboxData
shown_below true before now = before
shown_below false before now = now

-- in a place for everybody it shows what the inbox below shows, and in the kept place what that has
-- handed out, without the event that was refused
abbrev pub shown_by_place : ClientPlace → Bool → InboxData → InboxData → InboxData
shown_by_place Usual is_refused before now = now
shown_by_place Kept is_refused before now = shown_kept (shown_below is_refused before now)
