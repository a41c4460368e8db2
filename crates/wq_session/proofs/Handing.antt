-- An inbox that shows what it has handed out has handed out just the events that the session took.
use Rattle.std.proofs.Common.{◌≡◌, ℕ, List, [], ◌∷◌, ◌++◌, Option, inl, inr, append_assoc, append-nil, refl, sym, ap, subst, ◌∙◌}
use Rattle.wq_crawl.specs.Basis.{Basis}
use Rattle.wq_stream.specs.declared.event.Event.{Event}
use Rattle.wq_stream.specs.Inbox.{Hands, InboxData, clients, handed, of_client}
use Rattle.wq_session.specs.Handing.{TakesAllHanded}
use Rattle.wq_session.specs.Out.{OutData}
use Rattle.wq_session.specs.Serving.{GoesOn, PlaceData, Serves}

-- one event is handed out
one_more : (before after : InboxData) (events : List Event) (event : Event) → before ≡ handed events → Hands before event after
    → after ≡ handed (events ++ of_client event)
one_more before after events event is hands = subst (λ i. Hands i event after) is hands

-- some events are handed out
some_more : (basis : Basis) (before after : PlaceData) (events taken : List Event) (lines : List ℕ) → GoesOn basis before taken lines after
    → before.inbox ≡ handed events → after.inbox ≡ handed (events ++ clients taken)
some_more basis before after events [] lines (none, same) is =
    ap (λ p. p.inbox) same ∙ (is ∙ ap handed (sym (append-nil events)))
some_more basis before after events (event ∷ later) lines (out, next, rest, serves, goes, written, later_on) is =
    some_more basis next after (events ++ of_client event) later rest later_on (one_more before.inbox next.inbox events event is serves.0)
    ∙ ap handed (append_assoc events (of_client event) (clients later))

-- and then one more
then_one : (basis : Basis) (before between after : PlaceData) (events taken : List Event) (last : Event) (lines : List ℕ) (end : OutData)
    → GoesOn basis before taken lines between → Serves basis between last end after → before.inbox ≡ handed events
    → after.inbox ≡ handed (events ++ clients (taken ++ last ∷ []))
then_one basis before between after events [] last lines end (none, same) serves is =
    one_more between.inbox after.inbox events last (ap (λ p. p.inbox) same ∙ is) serves.0
    ∙ ap (λ l. handed (events ++ l)) (sym (append-nil (of_client last)))
then_one basis before between after events (event ∷ later) last lines end (out, next, rest, first, goes, written, later_on) serves is =
    then_one basis next between after (events ++ of_client event) later last rest end later_on serves
    (one_more before.inbox next.inbox events event is first.0)
    ∙ ap handed (append_assoc events (of_client event) (clients (later ++ last ∷ [])))

-- the law
pub takes_all_handed : (basis : Basis) → TakesAllHanded basis
takes_all_handed basis before after old new how events (inl by) is =
    then_one basis before by.between after events by.events by.last by.lines by.out by.goes_on by.serves is
takes_all_handed basis before after old new how events (inr full) is =
    some_more basis before after events full.events full.lines full.goes_on is
