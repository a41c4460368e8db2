-- The output of files that are listed, whichever threads found them.
use Rattle.std.proofs.Common.{◌≡◌, ◌⊎◌, inl, inr, Bool, true, false, List, ℕ, Option, Some, Result, Ok, Err, MatchResult, refl, sym, ap, subst, ◌∙◌}
use Rattle.std.specs.Prelude.{IfErr, IfOk}
use Rattle.serde_json.specs.Written.{compact_text}
use Rattle.wq_clock.specs.Instance.{InstanceData}
use Rattle.wq_follow.specs.Subscription.{SubscriptionData}
use Rattle.wq_reply.specs.Plan.{PlanData}
use Rattle.wq_reply.specs.Reply.{reply_of}
use Rattle.wq_reply.specs.Search.{MayEnd}
use Rattle.wq_base.specs.declared.asker.Unanswered.{Unanswered}
use Rattle.wq_base.specs.declared.asker.Unanswered.TheVariants.{Gone, NoMemory}
use Rattle.wq_view.specs.View.{ViewData}
use Rattle.wq_session.specs.Out.{EndsListing, OutData, runs_out, saying_text, unanswered}
use Rattle.wq_session.specs.declared.cursor.Cursor.{Cursor}
use Rattle.wq_session.specs.Answer.{Finishes, giving}
use Rattle.wq_session.specs.Work.{evaluates}

-- memory may run out, whether the client may go or not
short : (may_go : Bool) (cursor : Option Cursor) (out : OutData) → out ≡ runs_out cursor → EndsListing may_go cursor out
short true cursor out ran = inl ran
short false cursor out ran = ran

-- the output of the text of a reply, or that there is none, finishes the work
pub listed_finishes : {T : Type 0} (may_go : Bool) (bytes : T → List ℕ) (plan : PlanData) (cursor : Option Cursor) (instance : InstanceData) (view : ViewData)
    (text : Result T Unanswered) (out : OutData) (follows : List SubscriptionData)
    → IfOk text (λ t. bytes t ≡ compact_text (reply_of plan instance view))
    → IfErr text (MayEnd may_go)
    → MatchResult text (λ t. (out ≡ saying_text (bytes t)) ⊎ (out ≡ runs_out cursor)) (λ why. out ≡ unanswered why cursor)
    → Finishes may_go (evaluates plan cursor) (Some (record { instance = instance; view = Some view })) follows out follows
listed_finishes may_go bytes plan cursor instance view (Ok t) out follows is ends (inl says) = inl (ap (λ o. giving o follows) (sym (says ∙ ap saying_text is)))
listed_finishes may_go bytes plan cursor instance view (Ok t) out follows is ends (inr ran) = inr (short may_go cursor out ran, refl)
listed_finishes may_go bytes plan cursor instance view (Err NoMemory) out follows is ends ran = inr (short may_go cursor out ran, refl)
listed_finishes may_go bytes plan cursor instance view (Err Gone) out follows is goes left = inr (subst (λ b. EndsListing b cursor out) (sym goes) (inr left), refl)
