-- The lists of an idle moment: those of the subscriptions of its root, none of which is left out.
use Rattle.std.proofs.Common.{◌≡◌, ℕ, Bool, true, false, cond, nat_eq, List, [], ◌∷◌, Option, Some, None, inl, inr, refl, ap, sym, subst, ◌∙◌, arith}
use mathlib.Core.Bool.{false≢true}
use Rattle.std.proofs.lemmas.Bool.Decides.{nat_tests}
use Rattle.wq_session.specs.Out.{OutData}
use Rattle.wq_clock.specs.Run.{RunData, instance_of, run_data}
use Rattle.wq_clock.specs.declared.run.Run.{Run}
use Rattle.wq_follow.specs.Subscription.{SubscriptionData, next_list}
use Rattle.wq_live.specs.Event.{is_shown, passes_over}
use Rattle.wq_live.specs.declared.event.RootEvent.{RootEvent}
use Rattle.wq_crawl.specs.Basis.{Basis}
use Rattle.wq_session.specs.Idling.{IsIdled}
use Rattle.wq_crawl.specs.Run.{ShowsNumber}
use Rattle.wq_session.specs.Serving.{PlaceData, stand_at}
use Rattle.wq_crawl.specs.At.{AtData}
use Rattle.wq_session.specs.Moment.{AreLeft, Idles, MayRunOut, Shown, ToldListData, left_of, listed_once, shown_in, told_list_at, told_lists_of, told_of}
use Rattle.wq_view.specs.View.{IsViewOf}
use Rattle.wq_headline.specs.Exact.{AreListsOf}
use Rattle.wq_headline.specs.Moments.{GetInTurn, GetsLists, HasNews, TellsAll, Wait}

-- the test of numbers is right
pub same_number : (m n : ℕ) → nat_eq m n ≡ true → n ≡ m
same_number m n is = grind (arith, nat_tests)

-- a subscription is told, if it is one of the root
abbrev pub told_if : Shown → SubscriptionData → Bool → ToldListData
told_if shown s b = cond b (told_list_at shown s) (record { lists = []; left = s ∷ [] })

-- what is shown of a root
abbrev pub IsShownAs : RunData → ℕ → List RootEvent → Shown → Type 0
IsShownAs run number events None = is_shown events number ≡ false
IsShownAs run number events (Some (instance, view)) = (instance ≡ instance_of run number) × IsViewOf (passes_over number events) view

number_itself : (n : ℕ) → nat_eq n n ≡ true
number_itself n = grind (arith, nat_tests)

module _ (run : RunData) (number : ℕ) (events : List RootEvent) (shown : Shown) (is : IsShownAs run number events shown) where
  news : (shown : Shown) → IsShownAs run number events shown → (s : SubscriptionData) → s.number ≡ number → MayRunOut shown s → HasNews events s
  news None gone s same may = inl (subst (λ n. is_shown events n ≡ false) (sym same) gone)
  news (Some (instance, view)) (of_root, viewed) s same may = inr (view, subst (λ n. IsViewOf (passes_over n events) view) (sym same) viewed, may)

  waits : (later : List SubscriptionData) → AreLeft number shown later → Wait number events later
  waits [] short = tt
  waits (s ∷ later) (same, may) = (same_number number s.number same, news shown is s (same_number number s.number same) may)

-- the lists of an idle moment
module _ (run : RunData) (number : ℕ) (events : List RootEvent) where
  gets : (b : Bool) (shown : Shown) → IsShownAs run number events shown → (s : SubscriptionData) → nat_eq number s.number ≡ b
      → GetsLists run number events s (told_if shown s b).lists (told_if shown s b).left
  gets true None gone s same = inr (inr (same_number number s.number same, gone, refl, refl))
  gets true (Some (instance, view)) (of_root, viewed) s same =
      inr (inl (same_number number s.number same, view, viewed, ap (λ i. listed_once (next_list i view s)) of_root, refl))
  gets false shown is s other = inl ((λ here. absurd (false≢true (sym other ∙ ap (nat_eq number) here ∙ number_itself number))), refl, refl)

  all_get : (shown : Shown) → IsShownAs run number events shown → (these : List SubscriptionData)
      → GetInTurn run number events these (told_lists_of number shown these) (left_of number shown these)
  all_get shown is [] = (refl, refl)
  all_get shown is (s ∷ these) = (
    (told_of number shown s).lists,
    told_lists_of number shown these,
    (told_of number shown s).left,
    left_of number shown these,
    gets (nat_eq number s.number) shown is s refl,
    refl,
    refl,
    all_get shown is these,
  )

-- all of an idle moment
pub tells_all : (run : RunData) (number : ℕ) (events : List RootEvent) (at : Option AtData) (follows left : List SubscriptionData) (out : OutData)
    → IsShownAs run number events (shown_in at) → (idles : Idles number at follows out left) → TellsAll run number events follows (told_lists_of number (shown_in at) idles.polled) left
tells_all run number events at follows left out shows idles = record {
  first = idles.polled;
  waiting = idles.later;
  parts = idles.parts;
  left = left_of number (shown_in at) idles.polled;
  exact = all_get run number events (shown_in at) shows idles.polled;
  is = idles.left;
  wait = waits run number events (shown_in at) shows idles.later idles.short;
}

-- what is looked at is shown so
shown_as : (run : Run) (number : ℕ) (events : List RootEvent) (at : Option AtData) → ShowsNumber run number events at → IsShownAs (run_data run) number events (shown_in at)
shown_as run number events None (lawful, absent) = absent
shown_as run number events (Some at) (lawful, (there, instance, view, viewed, views)) =
    subst (λ v. IsShownAs (run_data run) number events (shown_in (Some (record { instance = at.instance; view = v })))) (sym viewed) (instance, views)

pub lists_exact : (basis : Basis) (before after : PlaceData) (number : ℕ) (out : OutData)
    → IsIdled basis number before.known (stand_at before) out after.known (stand_at after) → AreListsOf basis before number out after
lists_exact basis before after number out (roots, shelf, inl (at, begins, sees, idles, published)) = inl (
  begins,
  published,
  ap (λ (o : OutData). o.reply) idles.gives,
  subst (λ (o : OutData). TellsAll (run_data basis.run) number (after.known).seen before.follows o.lists after.follows) (sym idles.gives)
      (tells_all (run_data basis.run) number (after.known).seen at before.follows after.follows out (shown_as basis.run number (after.known).seen at sees) idles),
)
lists_exact basis before after number out (roots, shelf, inr (same, silent, left, refused)) = inr (silent, left, subst basis.refused (sym same) refused)
