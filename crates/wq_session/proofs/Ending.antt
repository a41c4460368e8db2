-- Taking and then finishing gives the answer.
use Rattle.std.proofs.Common.{◌≡◌, inl, inr, Bool, true, false, if◌then◌else◌, List, Option, Some, None, refl, sym, ap, subst, ◌∙◌}
use Rattle.std.specs.Option.{option_map_or}
use Rattle.wq_reply.specs.Plan.{PlanData}
use Rattle.wq_reply.specs.Reply.{reply_of}
use Rattle.wq_view.specs.View.{ViewData}
use Rattle.wq_registry.specs.Shelf.{cursor_unset}
use Rattle.wq_follow.specs.Subscription.{SubscriptionData}
use Rattle.wq_clock.specs.Instance.{InstanceData}
use Rattle.wq_session.specs.Out.{settled, EndsListing, OutData, refuses, replies, runs_out, silence}
use Rattle.wq_ask.specs.declared.refusal.Refusal.TheVariants.{TooManySubscriptions}
use Rattle.wq_ask.specs.declared.ask.Ask.{Ask}
use Rattle.wq_session.specs.declared.cursor.Cursor.{Cursor}
use Rattle.wq_session.proofs.Follows.{followed_stays, is_followed}
use Rattle.wq_session.specs.Answer.{AnswersAsk, Finishes, TakesAsk, AnswerData, DoneData, subscribing_at, subscribing_by, finished, following, giving, listed, IsUnmade, without_cursor}
use Rattle.wq_session.specs.Followed.{has_no_room}
use Rattle.wq_crawl.specs.At.{AtData}
use Rattle.wq_session.specs.At.{ShelfNow}
use Rattle.wq_session.specs.Begun.{taken_ask, takes_memory}
use Rattle.wq_session.specs.Work.{BegunData, WorkData, says, prints, evaluates, begins, drops}

-- the output of a listing names no cursor
none_listed : (plan : PlanData) (at : Option AtData) → (listed plan at).unset ≡ None
none_listed plan None = refl
none_listed plan (Some at) = by at.view
  where
    by : (view : Option ViewData) → (option_map_or (λ view. replies (reply_of plan at.instance view)) view (silence true)).unset ≡ None
    by None = refl
    by (Some view) = refl

-- the output when a subscription begins names none
none_begun : (s : SubscriptionData) (at : Option AtData) (follows : List SubscriptionData)
    → (following s at follows).out.unset ≡ None
none_begun s at follows = by (has_no_room s.number s.name follows) at
  where
    shown : (instance : InstanceData) (view : Option ViewData)
        → (option_map_or (λ view. subscribing_at s instance view follows) view (giving (silence true) follows)).out.unset ≡ None
    shown instance None = refl
    shown instance (Some view) = refl

    by : (full : Bool) (at : Option AtData)
        → (if full then giving (refuses TooManySubscriptions) follows else subscribing_by s at follows).out.unset ≡ None
    by true at = refl
    by false None = refl
    by false (Some at) = shown at.instance at.view

-- the output of finished work names no cursor
pub none_named : (work : WorkData) (at : Option AtData) (follows : List SubscriptionData) → (finished work at follows).out.unset ≡ None
none_named (says out) at follows = refl
none_named (prints d) at follows = refl
none_named (evaluates plan cursor) at follows = none_listed plan at
none_named (begins s) at follows = none_begun s at follows
none_named (drops number name) at follows = refl

-- if no cursor is named, nothing more is done
nothing_more : (out : OutData) (shelf : ShelfNow) → out.unset ≡ None → without_cursor out.unset shelf ≡ shelf
nothing_more out shelf none = ap (λ cursor. without_cursor cursor shelf) none

-- and that is the output
all_given : (out : OutData) → out.unset ≡ None → settled out ≡ out
all_given out none =
    ap (λ cursor. record { reply = out.reply; lists = out.lists; goes_on = out.goes_on; shuts = out.shuts; unset = cursor }) (sym none)

-- a listing without a reply names the cursor that was moved for it, and is one without it
settled_ends : (may_go : Bool) (cursor : Option Cursor) (out : OutData) → EndsListing may_go cursor out
    → EndsListing may_go None (settled out) × (out.unset ≡ cursor)
settled_ends false cursor out ran = (ap settled ran, ap (λ (o : OutData). o.unset) ran)
settled_ends true cursor out (inl ran) = (inl (ap settled ran), ap (λ (o : OutData). o.unset) ran)
settled_ends true cursor out (inr left) = (inr (ap settled left), ap (λ (o : OutData). o.unset) left)

module _ (may_go : Bool) (ask : Ask) (at : Option AtData) (shelf : ShelfNow) (follows : List SubscriptionData) where
  -- the whole of an answer
  whole : (work : WorkData) (after : ShelfNow) (out : OutData) (left : List SubscriptionData)
      → taken_ask ask at shelf ≡ record { work = work; shelf = after } → finished work at follows ≡ giving out left
      → AnswersAsk may_go ask at shelf follows (settled out) (without_cursor out.unset after) left
  whole work after out left is done =
      let none : out.unset ≡ None = ap (λ (d : DoneData). d.out.unset) (sym done) ∙ none_named work at follows in
      inl (ap (λ (b : BegunData). record { done = finished b.work at follows; shelf = b.shelf }) is
      ∙ ap (λ (d : DoneData). record { done = d; shelf = after }) done
      ∙ sym (both (settled out) out (without_cursor out.unset after) after (all_given out none) (nothing_more out after none)))
    where
      both : (o p : OutData) (s t : ShelfNow) → o ≡ p → s ≡ t
          → ◌≡◌ {A = AnswerData} (record { done = giving o left; shelf = s }) (record { done = giving p left; shelf = t })
      both o p s t same alike =
          ap (λ x. record { done = giving x left; shelf = s }) same ∙ ap (λ x. record { done = giving p left; shelf = x }) alike

  -- files were to be listed, and memory ran out, or the client has gone
  unlisted : (plan : PlanData) (cursor : Option Cursor) (after : ShelfNow) (out : OutData)
      → taken_ask ask at shelf ≡ record { work = evaluates plan cursor; shelf = after } → EndsListing may_go cursor out
      → AnswersAsk may_go ask at shelf follows (settled out) (without_cursor out.unset after) follows
  unlisted plan cursor after out is ends =
      let it = settled_ends may_go cursor out ends in inr (inr (
        plan,
        cursor,
        ap (λ (b : BegunData). b.work) is,
        it.0,
        ap (λ c. without_cursor c after) it.1 ∙ ap (λ (b : BegunData). without_cursor cursor b.shelf) (sym is),
        refl,
      ))

  -- or when a reply was printed, or a subscription began or ended, for which the shelf stays
  unkept : (work : WorkData) (after : ShelfNow) → is_followed work ≡ true
      → taken_ask ask at shelf ≡ record { work = work; shelf = after }
      → AnswersAsk may_go ask at shelf follows (runs_out None) after follows
  unkept work after kind is =
      let it = followed_stays ask at shelf (subst (λ (b : BegunData). is_followed b.work ≡ true) (sym is) kind) in
      inr (inl (it.0, refl, ap (λ (b : BegunData). b.shelf) (sym is) ∙ it.1, refl))

  -- the same of an output
  so : (after : ShelfNow) (out given : OutData) → out ≡ given
      → AnswersAsk may_go ask at shelf follows (settled given) (without_cursor given.unset after) follows
      → AnswersAsk may_go ask at shelf follows (settled out) (without_cursor out.unset after) follows
  so after out given same answers =
      subst (λ (o : OutData). AnswersAsk may_go ask at shelf follows (settled o) (without_cursor o.unset after) follows) (sym same) answers

  -- or was told before
  unmade_work : (work : WorkData) (after : ShelfNow) (out : OutData) → taken_ask ask at shelf ≡ record { work = work; shelf = after }
      → IsUnmade may_go work out → AnswersAsk may_go ask at shelf follows (settled out) (without_cursor out.unset after) follows
  unmade_work (says given) after out is same = so after out (settled given) same (whole (says given) after (settled given) follows is refl)
  unmade_work (prints d) after out is same = so after out (runs_out None) same (unkept (prints d) after refl is)
  unmade_work (evaluates plan cursor) after out is ends = unlisted plan cursor after out is ends
  unmade_work (begins s) after out is same = so after out (runs_out None) same (unkept (begins s) after refl is)
  unmade_work (drops number name) after out is same = so after out (runs_out None) same (unkept (drops number name) after refl is)

  -- memory ran out before anything was done
  untaken : (after : ShelfNow) (out : OutData) (left : List SubscriptionData) → takes_memory ask ≡ true
      → after ≡ shelf → Finishes may_go (says (runs_out None)) at follows out left
      → AnswersAsk may_go ask at shelf follows (settled out) (without_cursor out.unset after) left
  untaken after out left takes same (inl is) = of (ap (λ (d : DoneData). d.out) (sym is)) (ap (λ (d : DoneData). d.follows) (sym is))
    where
      of : out ≡ settled (runs_out None) → left ≡ follows → AnswersAsk may_go ask at shelf follows (settled out) (without_cursor out.unset after) left
      of is stay = subst (λ (o : OutData). AnswersAsk may_go ask at shelf follows (settled o) (without_cursor o.unset after) left) (sym is)
          (inr (inl (takes, refl, same, stay)))
  untaken after out left takes same (inr is) =
      subst (λ (o : OutData). AnswersAsk may_go ask at shelf follows (settled o) (without_cursor o.unset after) left) (sym is.0)
      (inr (inl (takes, refl, same, is.1)))

  -- taking and then finishing gives the answer
  pub answered : (work : WorkData) (after : ShelfNow) (out : OutData) (left : List SubscriptionData)
      → TakesAsk ask at shelf work after → Finishes may_go work at follows out left
      → AnswersAsk may_go ask at shelf follows (settled out) (without_cursor out.unset after) left
  answered work after out left (inl is) (inl done) = whole work after out left is done
  answered work after out left (inl is) (inr done) =
      subst (λ (l : List SubscriptionData). AnswersAsk may_go ask at shelf follows (settled out) (without_cursor out.unset after) l) (sym done.1)
      (unmade_work work after out is done.0)
  answered work after out left (inr refused) done =
      untaken after out left refused.0 refused.2 (subst (λ w. Finishes may_go w at follows out left) refused.1 done)

  -- and if a cursor is named, it is unset
  pub answered_with : (work : WorkData) (after : ShelfNow) (out given : OutData) (left : List SubscriptionData)
      (cursor : Cursor) (kept : ShelfNow) → TakesAsk ask at shelf work after → Finishes may_go work at follows out left → given ≡ settled out
      → out.unset ≡ Some cursor → kept ≡ cursor_unset cursor.root cursor.name after → AnswersAsk may_go ask at shelf follows given kept left
  answered_with work after out given left cursor kept takes done is named unset =
      let same : kept ≡ without_cursor out.unset after = unset ∙ ap (λ c. without_cursor c after) (sym named) in
      subst (λ (o : OutData). AnswersAsk may_go ask at shelf follows o kept left) (sym is)
      (subst (λ (s : ShelfNow). AnswersAsk may_go ask at shelf follows (settled out) s left) (sym same) (answered work after out left takes done))
