-- What was accepted of a session's events is the shelf at its end.
use Rattle.std.proofs.Common.{◌≡◌, ℕ, true, List, [], ◌∷◌, ◌++◌, Option, Some, Ok, Err, inl, inr, append_assoc, append-nil, refl, sym, ap, subst, ◌∙◌}
use Rattle.wq_crawl.specs.Basis.{Basis}
use Rattle.wq_registry.specs.History.{after_all}
use Rattle.wq_session.specs.Out.{OutData}
use Rattle.wq_ask.specs.Reading.{Asks}
use Rattle.wq_ask.specs.declared.ask.Ask.{Ask}
use Rattle.wq_session.specs.Accepted.{Accepts, AnswersAreCalls, CallNow}
use Rattle.wq_crawl.specs.At.{AtData}
use Rattle.wq_session.specs.At.{ShelfNow}
use Rattle.wq_stream.specs.declared.event.Event.{Event}
use Rattle.wq_stream.specs.declared.event.Event.TheVariants.{Line, Long, Binary, Idle, End, Fault}
use Rattle.wq_session.specs.Desk.{AnswersAt, AnswersShelf, StandData}
use Rattle.wq_crawl.specs.Views.{ReadyData}
use Rattle.wq_session.specs.Desk.{Replies}
use Rattle.wq_session.specs.Serving.{GoesOn, PlaceData, Serves}
use Rattle.wq_session.specs.Stays.{AcceptedStays, AreOfEvent, AreOfEvents}
use Rattle.wq_session.proofs.Reaching.{after_both}

module _ (answers_are_calls : AnswersAreCalls) where
  -- an ask was answered
  answered : (ask : Ask) (at : Option AtData) (shelf : ShelfNow) (stand left : StandData) (out : OutData) → stand.shelf ≡ Some shelf
      → AnswersAt true stand ask at out left
      → (calls : List CallNow) × Accepts true ask at shelf stand.follows out calls × (left.shelf ≡ Some (after_all calls shelf))
  answered ask at shelf stand left out shows answers =
      let it = subst (λ s. AnswersShelf true s stand.follows ask at out left.shelf left.follows) shows answers in
      let made = answers_are_calls true ask at shelf stand.follows out it.0 left.follows it.1 in
      (made.0, made.1, it.2 ∙ ap Some made.2)

  -- or it was refused before
  replied : (event : Event) (ask : Ask) (ready : ReadyData) (shelf : ShelfNow) (stand left : StandData) (out : OutData) → Asks event ask
      → stand.shelf ≡ Some shelf → Replies true ready ask stand out left
      → (calls : List CallNow) × AreOfEvent event shelf calls × (left.shelf ≡ Some (after_all calls shelf))
  replied event ask (Ok at) shelf stand left out asks shows answers =
      let it = answered ask at shelf stand left out shows answers in
      (it.0, inr (ask, asks, at, stand.follows, out, it.1), it.2)
  replied event ask (Err fault) shelf stand left out asks shows (refused, stays) =
      ([], inl refl, ap (λ s. s.shelf) stays ∙ shows)

  -- the calls of an event
  of_event : (basis : Basis) (before after : PlaceData) (event : Event) (out : OutData) (shelf : ShelfNow) → Serves basis before event out after
      → before.shelf ≡ Some shelf
      → (calls : List CallNow) × AreOfEvent event shelf calls × (after.shelf ≡ Some (after_all calls shelf))
  of_event basis before after (Idle root) out shelf (hands, idled) shows = ([], inl refl, idled.1 ∙ shows)
  of_event basis before after (Line line) out shelf (hands, (ask, asks, (ready, readies, replies))) shows =
      replied (Line line) ask ready shelf (record { shelf = before.shelf; follows = before.follows }) (record { shelf = after.shelf; follows = after.follows }) out asks shows replies
  of_event basis before after Long out shelf (hands, (ask, asks, (ready, readies, replies))) shows =
      replied Long ask ready shelf (record { shelf = before.shelf; follows = before.follows }) (record { shelf = after.shelf; follows = after.follows }) out asks shows replies
  of_event basis before after Binary out shelf (hands, (ask, asks, (ready, readies, replies))) shows =
      replied Binary ask ready shelf (record { shelf = before.shelf; follows = before.follows }) (record { shelf = after.shelf; follows = after.follows }) out asks shows replies
  of_event basis before after End out shelf (hands, (ask, asks, (ready, readies, replies))) shows =
      replied End ask ready shelf (record { shelf = before.shelf; follows = before.follows }) (record { shelf = after.shelf; follows = after.follows }) out asks shows replies
  of_event basis before after Fault out shelf (hands, (ask, asks, (ready, readies, replies))) shows =
      replied Fault ask ready shelf (record { shelf = before.shelf; follows = before.follows }) (record { shelf = after.shelf; follows = after.follows }) out asks shows replies

  -- events after which the session goes on
  of_events : (basis : Basis) (before after : PlaceData) (events : List Event) (lines : List ℕ) (shelf : ShelfNow)
      → GoesOn basis before events lines after → before.shelf ≡ Some shelf
      → (calls : List CallNow) × AreOfEvents events shelf calls × (after.shelf ≡ Some (after_all calls shelf))
  of_events basis before after [] lines shelf (none, same) shows = ([], refl, ap (λ p. p.shelf) same ∙ shows)
  of_events basis before after (event ∷ later) lines shelf (out, next, rest, serves, goes, written, on) shows =
      let one = of_event basis before next event out shelf serves shows in
      let more = of_events basis next after later rest (after_all one.0 shelf) on one.2 in
      (one.0 ++ more.0, (one.0, more.0, refl, one.1, more.1), more.2 ∙ ap Some (sym (after_both one.0 more.0 shelf)))

  -- and one event more
  then_last : (events : List Event) (last : Event) (shelf : ShelfNow) (calls more : List CallNow) → AreOfEvents events shelf calls
      → AreOfEvent last (after_all calls shelf) more → AreOfEvents (events ++ last ∷ []) shelf (calls ++ more)
  then_last [] last shelf calls more none of_last =
      (more, [], ap (λ l. l ++ more) none ∙ sym (append-nil more), subst (λ l. AreOfEvent last (after_all l shelf) more) none of_last, refl)
  then_last (event ∷ later) last shelf calls more (first, rest, parts, one, of_rest) of_last = (
    first,
    rest ++ more,
    ap (λ l. l ++ more) parts ∙ append_assoc first rest more,
    one,
    then_last later last (after_all first shelf) rest more of_rest
        (subst (λ s. AreOfEvent last s more) (ap (λ l. after_all l shelf) parts ∙ after_both first rest shelf) of_last),
  )

  -- the law
  pub accepted_stays : (basis : Basis) → AcceptedStays basis
  accepted_stays basis before after old new how shelf (inl by) shows =
      let early = of_events basis before by.between by.events by.lines shelf by.goes_on shows in
      let last = of_event basis by.between after by.last by.out (after_all early.0 shelf) by.serves early.2 in (
        early.0 ++ last.0,
        then_last by.events by.last shelf early.0 last.0 early.1 last.1,
        last.2 ∙ ap Some (sym (after_both early.0 last.0 shelf)),
      )
  accepted_stays basis before after old new how shelf (inr full) shows =
      of_events basis before after full.events full.lines shelf full.goes_on shows
