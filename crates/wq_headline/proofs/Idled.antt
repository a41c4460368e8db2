-- An idle moment in a world leaves out no subscription of its root.
use Rattle.std.proofs.Common.{◌≡◌, ℤ, cond, List, refl, ap, subst, sym, ◌∙◌}
use Rattle.std.proofs.lemmas.Bool.Decides.{Decides-int_eq}
use Rattle.wq_follow.specs.Subscription.{SubscriptionData}
use Rattle.wq_crawl.specs.Meets.{numbered}
use Rattle.wq_replay.specs.Gets.{with_follows}
use Rattle.wq_replay.specs.Playing.{sent_to}
use Rattle.wq_session.specs.Moment.{shown_in, told_lists_of}
use Rattle.wq_headline.specs.Followers.{MomentsAreExact}
use Rattle.wq_headline.specs.Moments.{TellsAll}
use Rattle.wq_headline.proofs.Followed.{world_shows}
use Rattle.wq_headline.proofs.Moments.{tells_all}

-- the subscriptions of a client that were put to a world are those that the client has there
pub own_follows : (client : ℤ) (left : List SubscriptionData) (follows : ℤ → List SubscriptionData) → with_follows client left follows client ≡ left
own_follows client left follows = ap (λ b. cond b left (follows client)) ((Decides-int_eq client client).1 refl)

-- the law
pub moments_are_exact : MomentsAreExact
moments_are_exact world after client number sent (out, (table, left, found, idles, is), sends) = record {
  lists = told_lists_of number (shown_in (numbered number world.run table)) idles.polled;
  exact = subst (TellsAll world.run number world.events (world.follows client) (told_lists_of number (shown_in (numbered number world.run table)) idles.polled))
      (sym (ap (λ w. w.follows client) is ∙ own_follows client left world.follows))
      (tells_all world.run number world.events (numbered number world.run table) (world.follows client) left out (world_shows world.run number world.events table found) idles);
  sends = sends ∙ ap (sent_to client) idles.gives;
}
