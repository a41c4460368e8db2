-- The crawls of a lane, by the lister's state before and after.
use Rattle.std.proofs.Common.{◌≡◌, ℕ, suc, List, [], Option, Some, None, Result, Ok, Err, IsTrue, MatchOption, MatchResult, inl, inr, sym, refl, ap, subst, arith}
use Rattle.wq_view.specs.Listing.{PassData}
use Rattle.wq_record.specs.Seen.{SeenData}
use Rattle.wq_live.specs.declared.event.RootEvent.{RootEvent}
use Rattle.wq_crawl.specs.Crawl.{IsNoPassOver, IsOfRows, IsPassOver, ListerData, crawler_at}
use Rattle.wq_patch.specs.Device.{count_of}
use Rattle.wq_crawl.specs.Publish.{IsPlace, with_start}
use Rattle.wq_crawl.specs.Shared.{FindsOrRefuses, IsNotBefore, StartsRoot, WatchedBetween}
use Rattle.wq_patch.specs.Tree.{ListedData, Lists}
use Rattle.wq_crawl.specs.declared.fault.CrawlFault.{CrawlFault}
use Rattle.wq_crawl.specs.declared.place.Place.{Place}
use Rattle.wq_crawl.specs.declared.place.Place.TheVariants.{Shown, Full, Free}
use Rattle.wq_patch.specs.declared.tree.TreeFault.{TreeFault}

-- a listing that begins now
pub not_before : (listed : Option (ℕ × ListedData)) → IsNotBefore listed listed
not_before None = tt
not_before (Some (count, last)) = omega arith

-- a listing that begins after another one
pub later : (before after : Option (ℕ × ListedData)) (text : List ℕ) (rows : Result (List SeenData) TreeFault) → Lists before text rows after → IsNotBefore before after
later before None text rows lists = tt
later before (Some (count, last)) text rows lists =
    let is : count ≡ suc (count_of before) = ap (λ (p : ℕ × ListedData). p.0) lists in omega arith

pub later_by_pass : (before after : Option (ℕ × ListedData)) (text : List ℕ) (pass : PassData) → IsOfRows before text pass after → IsNotBefore before after
later_by_pass before None text pass over = tt
later_by_pass before (Some after) text pass (rows, lists, lawful, made) = later before (Some after) text (Ok rows) lists

-- a root that was to be watched, by the lister's state before and after
module _ (text : List ℕ) (first began after : ListerData) (from : IsNotBefore first.listed began.listed) where
  -- the root was found, or refused, without a listing since then
  pub found_then : (events : List RootEvent) (place : Place) (result : Result (Option (List RootEvent)) CrawlFault) → FindsOrRefuses text events place result → after ≡ began
      → MatchResult result (λ it. MatchOption it (IsPlace text events Free) (λ told. WatchedBetween text first (Ok told) after)) (λ fault. WatchedBetween text first (Err fault) after)
  found_then events (Shown number) result (shown, inl is) same =
      subst (λ r. MatchResult r (λ it. MatchOption it (IsPlace text events Free) (λ told. WatchedBetween text first (Ok told) after)) (λ fault. WatchedBetween text first (Err fault) after)) (sym is)
      (began, events, events, from, (Shown number, shown, (refl, ap (crawler_at events) same)))
  found_then events (Shown number) result (shown, inr is) same =
      subst (λ r. MatchResult r (λ it. MatchOption it (IsPlace text events Free) (λ told. WatchedBetween text first (Ok told) after)) (λ fault. WatchedBetween text first (Err fault) after)) (sym is)
      (began, events, events, from, (Shown number, shown, (refl, ap (crawler_at events) same)))
  found_then events Full result (full, is) same =
      subst (λ r. MatchResult r (λ it. MatchOption it (IsPlace text events Free) (λ told. WatchedBetween text first (Ok told) after)) (λ fault. WatchedBetween text first (Err fault) after)) (sym is)
      (began, events, events, from, (Full, full, (refl, ap (crawler_at events) same)))
  found_then events Free result (room, is) same =
      subst (λ r. MatchResult r (λ it. MatchOption it (IsPlace text events Free) (λ told. WatchedBetween text first (Ok told) after)) (λ fault. WatchedBetween text first (Err fault) after)) (sym is) room

  -- the root was not listed
  pub not_begun_then : (events : List RootEvent) (fault : CrawlFault) → IsPlace text events Free → IsNoPassOver text (crawler_at events began) fault (crawler_at events after)
      → WatchedBetween text first (Err fault) after
  not_begun_then events fault room none = (began, events, events, from, (Free, room, (refl, inl none)))

-- the root was listed, and was to be started
pub started_then : (text : List ℕ) (first after : ListerData) (pass : PassData) (over : IsPassOver text (crawler_at [] first) pass (crawler_at [] after)) → IsTrue after.whole
    → (events : List RootEvent) (place : Place) (result : Result (List RootEvent) CrawlFault) → StartsRoot text pass events place result → WatchedBetween text first result after
started_then text first after pass over whole events (Shown number) result (shown, inl is) =
    subst (λ r. WatchedBetween text first r after) (sym is) (after, events, events, later_by_pass first.listed after.listed text pass over.0, (Shown number, shown, (refl, refl)))
started_then text first after pass over whole events (Shown number) result (shown, inr is) =
    subst (λ r. WatchedBetween text first r after) (sym is) (after, events, events, later_by_pass first.listed after.listed text pass over.0, (Shown number, shown, (refl, refl)))
started_then text first after pass over whole events Full result (full, is) =
    subst (λ r. WatchedBetween text first r after) (sym is) (after, events, events, later_by_pass first.listed after.listed text pass over.0, (Full, full, (refl, refl)))
started_then text first after pass over whole events Free result (room, inl is) =
    subst (λ r. WatchedBetween text first r after) (sym is) (first, events, with_start text pass events, not_before first.listed, (Free, room, (refl, pass, over, refl, whole)))
started_then text first after pass over whole events Free result (room, inr is) =
    subst (λ r. WatchedBetween text first r after) (sym is) (first, events, events, not_before first.listed, (Free, room, (refl, inr refl)))
