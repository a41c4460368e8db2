-- The crawls of a lane, by the lister's state before and after.
use Rattle.std.proofs.Common.{◌≡◌, ℕ, suc, Bool, true, false, List, Option, Some, None, Result, Ok, Err, IfErr, IfOk, IfSome, IsTrue, ap, inl, inr, sym, refl, subst}
use Rattle.wq_live.specs.Event.{number_of}
use Rattle.wq_live.specs.declared.event.RootEvent.{RootEvent}
use Rattle.wq_crawl.specs.declared.fault.CrawlFault.{CrawlFault}
use Rattle.wq_crawl.specs.declared.relisted.Relisted.{Relisted}
use Rattle.wq_crawl.specs.declared.fault.CrawlFault.TheVariants.{NoMemory}
use Rattle.wq_crawl.specs.Answer.{CrawlData, IsAnswer}
use Rattle.wq_crawl.specs.Crawl.{IsNoPassOver, IsRelisted, ListerData, crawler_at}
use Rattle.wq_crawl.specs.Shared.{CrawledNow, CrawledOnce, GlancedBetween, Publishes, PublishesGlance, Tries, TriesOnce}

module _ (text : List ℕ) (before after : ListerData) (events : List RootEvent) (number : ℕ) (shown : number_of text events ≡ Some number) where
  -- the listing made no pass
  pub not_listed : (fault : CrawlFault) → IsNoPassOver text (crawler_at events before) fault (crawler_at events after) → CrawledNow text before (Err fault) after
  not_listed fault none = inl (Err fault, refl, (events, number, shown, (refl, inl none)), tt)

  pub not_glanced : (fault : CrawlFault) → IsNoPassOver text (crawler_at events before) fault (crawler_at events after) → GlancedBetween text before (Err fault) after
  not_glanced fault none = inl (Err fault, refl, (events, number, shown, (refl, inl none)))

  module _ (relisted : Relisted) (over : IsRelisted number text (crawler_at events before) relisted (crawler_at events after)) where
    -- the listing was to be published
    pub listed_then : (result : Result (Option (Option CrawlData)) CrawlFault) → IsTrue after.whole → Publishes text before result after → TriesOnce text before result after
    listed_then (Ok None) whole is = inr (events, number, relisted, shown, over)
    listed_then (Ok (Some None)) whole is = absurd is
    listed_then (Ok (Some (Some crawl))) whole is = inl (Ok crawl.told, refl, is, whole)
    listed_then (Err fault) whole is = inl (Err fault, refl, is, tt)

    -- so was that of a glance
    pub glanced_then : (result : Result Bool CrawlFault) → PublishesGlance text before result after → GlancedBetween text before result after
    glanced_then (Ok true) (told, is) = inl (Ok told, refl, is)
    glanced_then (Ok false) is = inr (inl (inr (events, number, relisted, shown, over), refl))
    glanced_then (Err fault) is = inl (Err fault, refl, is)

-- one more try
pub next_try : (text : List ℕ) (first before after : ListerData) (tries : ℕ) → Tries tries text first before → TriesOnce text before (Ok None) after
    → (tries : ℕ) × Tries tries text first after
next_try text first before after tries tried (inl same) = (tries, subst (Tries tries text first) (sym same) tried)
next_try text first before after tries tried (inr overtaken) = (suc tries, (before, tried, overtaken))

pub refused_try : (text : List ℕ) (first before after : ListerData) (fault : CrawlFault) → (tries : ℕ) × Tries tries text first before
    → TriesOnce text before (Err fault) after → CrawledOnce text first (Err fault) after
refused_try text first before after fault (tries, tried) is = (tries, before, tried, is)

-- an earlier crawl serves: the present list is the answer, or the root is another one, or memory ran out
pub again_then : (published : List RootEvent → Type 0) (text : List ℕ) (lister : ListerData) (number : ℕ) (result : Result (Option (Option CrawlData)) CrawlFault)
    → IfOk result (λ it. IfSome it (IsAnswer published text))
    → IfErr result (λ fault. (fault ≡ NoMemory) × (events : List RootEvent) × (number_of text events ≡ Some number))
    → TriesOnce text lister result lister
again_then published text lister number (Ok None) answer short = inl refl
again_then published text lister number (Ok (Some None)) (events, given, gone) short = inr (refl, inl (events, gone, refl))
again_then published text lister number (Ok (Some (Some crawl))) (given, shown) short = inr (refl, inr (inr (crawl.told, crawl.number, shown, refl)))
again_then published text lister number (Err fault) answer (is, events, shown) = inr (refl, inr (inl (events, number, shown, ap Err is)))
