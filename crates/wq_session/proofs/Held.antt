-- Taking at a shelf and then finishing is an answer there.
use Rattle.std.proofs.Common.{◌≡◌, Bool, List, Option, Some, None, option_map, refl, sym, ap, subst, ◌∙◌}
use Rattle.std.proofs.lemmas.Option.{same_Some}
use Rattle.wq_follow.specs.Subscription.{SubscriptionData}
use Rattle.wq_registry.specs.Shelf.{cursor_unset}
use Rattle.wq_session.specs.Out.{settled, OutData}
use Rattle.wq_ask.specs.declared.ask.Ask.{Ask}
use Rattle.wq_session.specs.declared.cursor.Cursor.{Cursor}
use Rattle.wq_session.specs.Answer.{AnswersAsk, CanFinish, Finishes, TakesAsk, without_cursor}
use Rattle.wq_session.specs.Work.{WorkData}
use Rattle.wq_crawl.specs.At.{AtData}
use Rattle.wq_session.specs.At.{ShelfNow}
use Rattle.wq_session.proofs.Ending.{answered, answered_with}
use Rattle.wq_session.proofs.Finishing.{can_finish}
use Rattle.wq_session.specs.Desk.{AnswersShelf, HoldsShelf, Unsets}

module _ (may_go : Bool) (ask : Ask) (at : Option AtData) (follows left : List SubscriptionData) (work : WorkData) (out given : OutData) where
  -- if no cursor is named, nothing more is done
  pub none_unset : (shelf next : ShelfNow) → TakesAsk ask at shelf work next → Finishes may_go work at follows out left
      → given ≡ settled out → out.unset ≡ None → AnswersAsk may_go ask at shelf follows given next left
  none_unset shelf next takes done is none =
      subst (λ (o : OutData). AnswersAsk may_go ask at shelf follows o next left) (sym is)
      (subst (λ c. AnswersAsk may_go ask at shelf follows (settled out) (without_cursor c next) left) none
      (answered may_go ask at shelf follows work next out left takes done))

  pub kept_answer : (old mid : Option ShelfNow) → HoldsShelf old ask at work mid → Finishes may_go work at follows out left
      → given ≡ settled out → out.unset ≡ None → AnswersShelf may_go old follows ask at given mid left
  kept_answer (Some shelf) mid (next, takes, shown) done is none =
      (next, none_unset shelf next takes done is none, shown)
  kept_answer None mid (shelf, next, reached, takes, shown) done is none =
      (shelf, next, reached, none_unset shelf next takes done is none, shown)

  -- if one is named, it is unset
  pub unset_answer : (old mid after : Option ShelfNow) (cursor : Cursor) → HoldsShelf old ask at work mid
      → Finishes may_go work at follows out left → given ≡ settled out → out.unset ≡ Some cursor → Unsets mid cursor after
      → AnswersShelf may_go old follows ask at given after left
  unset_answer (Some shelf) mid after cursor (next, takes, shown) done is named unsets = (
    cursor_unset cursor.root cursor.name next,
    answered_with may_go ask at shelf follows work next out given left cursor (cursor_unset cursor.root cursor.name next) takes done is named refl,
    unsets ∙ ap (option_map (cursor_unset cursor.root cursor.name)) shown,
  )
  unset_answer None mid after cursor (shelf, next, reached, takes, shown) done is named unsets = (
    shelf,
    cursor_unset cursor.root cursor.name next,
    reached,
    answered_with may_go ask at shelf follows work next out given left cursor (cursor_unset cursor.root cursor.name next) takes done is named refl,
    unsets ∙ ap (option_map (cursor_unset cursor.root cursor.name)) shown,
  )

-- at a shelf that is shown, that is an answer at this shelf
pub shown_answer : (may_go : Bool) (ask : Ask) (at : Option AtData) (follows left : List SubscriptionData) (out : OutData) (shelf next : ShelfNow)
    → AnswersShelf may_go (Some shelf) follows ask at out (Some next) left → AnswersAsk may_go ask at shelf follows out next left
shown_answer may_go ask at follows left out shelf next (after, answers, is) =
    subst (λ (s : ShelfNow). AnswersAsk may_go ask at shelf follows out s left) (sym (cc is)) answers

-- work that was taken can be finished
pub held_finish : (old mid : Option ShelfNow) (ask : Ask) (at : Option AtData) (work : WorkData) → HoldsShelf old ask at work mid
    → CanFinish work at
held_finish (Some shelf) mid ask at work (next, takes, shown) = can_finish ask at shelf work next takes
held_finish None mid ask at work (shelf, next, reached, takes, shown) = can_finish ask at shelf work next takes

-- an ask that was prepared was taken
pub held_as : (old mid after : Option ShelfNow) (ask made : Ask) (at seen : Option AtData) (work : WorkData) → mid ≡ old → made ≡ ask
    → seen ≡ at → HoldsShelf mid made seen work after → HoldsShelf old ask at work after
held_as old mid after ask made at seen work same is there holds =
    subst (λ (s : Option ShelfNow). HoldsShelf s ask at work after) same
    (subst (λ (a : Ask). HoldsShelf mid a at work after) is (subst (λ (r : Option AtData). HoldsShelf mid made r work after) there holds))

-- and at a shelf that is shown
pub taken_as : (old mid after : ShelfNow) (ask made : Ask) (at seen : Option AtData) (work : WorkData) → Some mid ≡ Some old → made ≡ ask
    → seen ≡ at → TakesAsk made seen mid work after → TakesAsk ask at old work after
taken_as old mid after ask made at seen work same is there takes =
    subst (λ (s : ShelfNow). TakesAsk ask at s work after) (same_Some mid old same)
    (subst (λ (a : Ask). TakesAsk a at mid work after) is (subst (λ (r : Option AtData). TakesAsk made r mid work after) there takes))
