-- An idle moment of a root in a session: the session looks at the root, and tells its subscriptions
-- the changes.
-- From Watchman's documentation of `subscribe`. If the look is refused, the moment is skipped: this
-- is this server's own.
use Rattle.std.specs.Prelude.{◌≡◌, ◌⊎◌, ℕ, true, List, Option}
use mathlib.Core.List.{IsPrefix}
use Rattle.wq_live.specs.declared.event.RootEvent.{RootEvent}
use Rattle.wq_follow.specs.Subscription.{SubscriptionData}
use Rattle.wq_session.specs.Out.{OutData, silence}
use Rattle.wq_crawl.specs.At.{AtData}
use Rattle.wq_session.specs.Moment.{Idles}
use Rattle.wq_session.specs.Desk.{StandData}
use Rattle.wq_crawl.specs.Basis.{Basis}
use Rattle.wq_crawl.specs.Ready.{KnownData}
use Rattle.wq_crawl.specs.Run.{ShowsNumber}

-- the session looks at the root of this number, in a list that was published, and that begins with
-- all that it knew, and tells its subscriptions; or the look was refused, and there is no output
abbrev pub SeesMoment : Basis → ℕ → List RootEvent → List SubscriptionData → OutData
    → List RootEvent → List SubscriptionData → Type 0
SeesMoment basis root before follows out after left =
    ((at : Option AtData) × IsPrefix before after × ShowsNumber basis.run root after at
    × Idles root at follows out left × basis.published after)
    ⊎ ((after ≡ before) × (out ≡ silence true) × (left ≡ follows) × basis.refused before)

-- the same for the whole state: the session does not ask the roots, and the shelf stays
abbrev pub IsIdled : Basis → ℕ → KnownData → StandData → OutData → KnownData → StandData → Type 0
IsIdled basis root before stand out after left =
    (after.roots ≡ before.roots) × (left.shelf ≡ stand.shelf)
    × SeesMoment basis root before.seen stand.follows out after.seen left.follows
