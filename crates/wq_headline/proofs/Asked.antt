-- The reply to an ask of a session is one of the world to that ask.
use Rattle.std.proofs.Common.{◌≡◌, ◌⊎◌, ℕ, ℤ, true, false, List, [], ◌∷◌, ◌++◌, Option, Some, None, Ok, Err, inl, inr, refl, ap, sym, subst, ◌∙◌}
use Rattle.wq_follow.specs.Subscription.{SubscriptionData}
use Rattle.wq_replay.proofs.Worlds.{runs_go_on, runs_one}
use Rattle.wq_replay.specs.Gets.{answered, kept}
use Rattle.wq_replay.specs.Playing.{Runs, sent_to}
use Rattle.wq_replay.specs.World.{HappeningData, WorldData, asked, at_events}
use Rattle.wq_crawl.specs.Basis.{Basis}
use Rattle.wq_session.specs.Serving.{PlaceData, stand_at}
use Rattle.wq_session.specs.Out.{MayRefuse, OutData, runs_out}
use Rattle.wq_crawl.specs.Need.{watch}
use Rattle.wq_session.specs.Need.{need_of}
use Rattle.wq_ask.specs.declared.ask.Ask.{Ask}
use Rattle.wq_ask.specs.declared.ask.Ask.TheVariants.{Alone, OfRoot, OfShelf, Unwatch, Watch}
use Rattle.wq_ask.specs.declared.refusal.Refusal.TheVariants.{NoMemory as OutOfMemory}
use Rattle.wq_session.proofs.Finishing.{can_finish}
use Rattle.wq_session.specs.Answer.{answer, giving}
use Rattle.wq_session.specs.At.{ShelfNow}
use Rattle.wq_session.specs.Begun.{taken_ask, takes_memory}
use Rattle.wq_session.specs.Crawl.{crawl_refusal}
use Rattle.wq_session.specs.Desk.{StandData, stand}
use Rattle.wq_crawl.specs.Views.{ReadyData}
use Rattle.wq_session.specs.Desk.{Replies}
use Rattle.wq_session.specs.Work.{BegunData, WorkData, evaluates}
use Rattle.wq_view.specs.View.{HasOneView}
use Rattle.wq_headline.specs.Alone.{HappensFirst, IsCurrent, ShowsWorld}
use Rattle.wq_headline.proofs.Idled.{own_follows}
use Rattle.wq_headline.proofs.Needs.{IsReadyThere, MayRunOut, ShowsRoots}

-- work that was begun, of its parts
abbrev begun_with : WorkData → ShelfNow → BegunData
begun_with work shelf = record { work = work; shelf = shelf }

-- an ask that needs that a root is watched takes memory
watch_takes_memory : (ask : Ask) (root : List ℕ) → need_of ask ≡ watch root → takes_memory ask ≡ true
watch_takes_memory (Watch text) root is = refl
watch_takes_memory (Unwatch text) root is = refl
watch_takes_memory (OfRoot text first what) root is = refl
watch_takes_memory (OfShelf what) root is = refl
watch_takes_memory (Alone what) root is = absurd cc

-- a refusal that memory ran out is the reply that it ran out
ran_out : (out : OutData) → MayRefuse OutOfMemory out → out ≡ runs_out None
ran_out out (inl is) = is
ran_out out (inr (stays, is)) = is

-- replies to an ask at a shelf that is shown
module _ (ask : Ask) (shelf : ShelfNow) (follows : List SubscriptionData) (out : OutData) (after : Option ShelfNow) (left : List SubscriptionData) where
  -- the reply to an ask that is ready so
  abbrev Reply : ReadyData → Type 0
  Reply ready = Replies false ready ask (stand (Some shelf) follows) out (stand after left)

  -- that memory ran out is the reply to any ask that is answered so
  runs_out_too : takes_memory ask ≡ true → out ≡ runs_out None → after ≡ Some shelf → left ≡ follows → (other : ReadyData) → MayRunOut other → Reply other
  runs_out_too takes is same stays (Ok at) may = (shelf, inr (inl (takes, is, refl, stays)), same)
  runs_out_too takes is same stays (Err fault) may =
      (subst (λ f. MayRefuse (crawl_refusal f) out) (sym may) (inl is), ap (λ s. stand s left) same ∙ ap (stand (Some shelf)) stays)

  -- a reply at no root is exactly the answer there, or memory ran out
  pub exact_or_short : Reply (Ok None) → ((next : ShelfNow) × (after ≡ Some next) × (answer ask None shelf follows ≡ record { done = giving out left; shelf = next }))
      ⊎ ((other : ReadyData) → MayRunOut other → Reply other)
  exact_or_short (next, inl exact, shown) = inl (next, shown, exact)
  exact_or_short (next, inr (inl (takes, is, same, stays)), shown) = inr (runs_out_too takes is (shown ∙ ap Some same) stays)
  exact_or_short (next, inr (inr (plan, cursor, work, is, unset, stays)), shown) =
      absurd (can_finish ask None shelf (evaluates plan cursor) (taken_ask ask None shelf).shelf (inl (ap (λ w. begun_with w (taken_ask ask None shelf).shelf) work)))

  -- a refusal for want of memory is one for an ask that needs that a root is watched
  pub short_of_watch : (root : List ℕ) → need_of ask ≡ watch root → MayRefuse OutOfMemory out → stand after left ≡ stand (Some shelf) follows
      → (other : ReadyData) → MayRunOut other → Reply other
  short_of_watch root needs may same =
      runs_out_too (watch_takes_memory ask root needs) (ran_out out may) (ap (λ (s : StandData). s.shelf) same) (ap (λ (s : StandData). s.follows) same)

  -- a reply leaves a shelf that is shown
  pub shows_after : (ready : ReadyData) → Reply ready → (next : ShelfNow) × (after ≡ Some next)
  shows_after (Ok at) (next, answers, is) = (next, is)
  shows_after (Err fault) (may, is) = (shelf, ap (λ (s : StandData). s.shelf) is)

-- the ask of a client comes after the happenings that it needs, and the world replies as the session
-- does
pub asks_well : (one_view : HasOneView) (basis : Basis) (client : ℤ) (before after : PlaceData) (world : WorldData) (ask : Ask) (out : OutData)
    (ready : ReadyData) (roots : ShowsRoots basis.run before.known world) (current : IsCurrent after.known)
    → IsReadyThere one_view basis before.known after.known world roots current (need_of ask) ready
    → Replies false ready ask (stand (Some world.shelf) (world.follows client)) out (stand_at after)
    → (first : List HappeningData) × (next : WorldData) × HappensFirst (need_of ask) first
    × Runs world (first ++ asked client ask ∷ []) (sent_to client out) next × ShowsWorld basis.run client out.goes_on after next
asks_well one_view basis client before after world ask out ready roots current (first, between, happens, runs, meets, run, shelf, follows) replies =
    let shown = shows_after ask world.shelf (world.follows client) out after.shelf after.follows ready replies in
    let next : WorldData = answered client shown.0 (kept out.goes_on after.follows) (at_events (after.known).seen between) in (
      first,
      next,
      happens,
      runs_go_on world between next first (asked client ask ∷ []) [] (sent_to client out) runs
          (runs_one between next (asked client ask) (sent_to client out) (
            out,
            (
              ready,
              (after.known).seen,
              meets,
              (
                shown.0,
                after.follows,
                subst (λ s. Replies false ready ask (stand (Some s) (between.follows client)) out (stand (Some shown.0) after.follows)) (sym shelf)
                    (subst (λ f. Replies false ready ask (stand (Some world.shelf) (f client)) out (stand (Some shown.0) after.follows)) (sym follows)
                    (subst (λ s. Replies false ready ask (stand (Some world.shelf) (world.follows client)) out (stand s after.follows)) shown.1 replies)),
                refl,
              ),
            ),
            refl,
          )),
      record {
        current = current;
        events = refl;
        shelf = shown.1;
        follows = own_follows client (kept out.goes_on after.follows) between.follows;
        of_run = run ∙ roots.of_run;
        refused = refl;
      },
    )
