-- The results of the parts of meeting a need, for each need.
use Rattle.std.proofs.Common.{◌≡◌, ℕ, true, List, Option, Some, None, Result, Ok, Err, inl, inr, refl, sym, ap, subst}
use Rattle.wq_clock.specs.Instance.{InstanceData}
use Rattle.wq_crawl.specs.Crawl.{CrawlerData, tells}
use Rattle.wq_crawl.specs.Roots.{RootRequestData, RootsGive, passing, showing, ending}
use Rattle.wq_crawl.specs.declared.fault.CrawlFault.{CrawlFault}
use Rattle.wq_live.specs.declared.event.RootEvent.{RootEvent}
use Rattle.wq_crawl.specs.Basis.{Basis}
use Rattle.wq_crawl.specs.Meeting.{EndsAtEnd, IsAtEnd, IsMet, IsShared, LearnsAndSees, Met, SeesNumber, SeesRoot, SeesText}
use Rattle.wq_crawl.specs.Ready.{HearsFirst, ended, ended_by, known}
use Rattle.wq_crawl.specs.Need.{NeedData, look, crawl, watch, unwatch}
use Rattle.wq_crawl.specs.At.{AtData}
use Rattle.wq_crawl.specs.Views.{ReadyData, SaysReady, is_of_root}

-- an ask is ready at a root that is looked at, whether there is a share of its view or not
ready_at : (need : NeedData) → is_of_root need ≡ true → (at : Option AtData) (result : Met) → IsShared at result → SaysReady need (Ok at) result
ready_at need of_root at (Ok root) is = ap Ok is
ready_at need of_root at (Err fault) is = inr (is, of_root, at, refl)

module _ (basis : Basis) (root : List ℕ) (seen after : List RootEvent) (result : Met) where
  -- a look meets the need of one
  pub met_by_look : (given : Option CrawlerData) → SeesRoot basis root seen result after
      → IsMet basis (look root) (known given seen) result (known given after)
  met_by_look given (at, sees, shared) = (Ok at, (at, (refl, sees), refl), ready_at (look root) refl at result shared)

  -- the roots are asked first
  heard_first : (need : NeedData) → is_of_root need ≡ true → (request : RootRequestData) (told : Result (Option (List RootEvent)) CrawlFault)
      (given later : Option CrawlerData) → RootsGive given request told later → LearnsAndSees basis root told seen result after
      → (ready : ReadyData) × HearsFirst basis root request (known given seen) ready (known later after) × SaysReady need ready result
  heard_first need of_root request (Ok told) given later gives (heard, learns, (at, sees, shared)) =
      (Ok at, (Ok told, known later heard, (gives, learns), (at, (refl, sees), refl)), ready_at need of_root at result shared)
  heard_first need of_root request (Err fault) given later gives (is, same) = (
    Err fault,
    (Err fault, known later seen, (gives, refl), (refl, ap (known later) same)),
    subst (SaysReady need (Err fault)) (sym is) (inl refl),
  )

  -- a crawl
  pub met_by_crawl : (told : Result (Option (List RootEvent)) CrawlFault) (given later : Option CrawlerData) → RootsGive given (passing root) told later
      → LearnsAndSees basis root told seen result after → IsMet basis (crawl root) (known given seen) result (known later after)
  met_by_crawl told given later gives sees = heard_first (crawl root) refl (passing root) told given later gives sees

  -- a watch
  pub met_by_open : (told : Result (Option (List RootEvent)) CrawlFault) (given later : Option CrawlerData) → RootsGive given (showing root) told later
      → LearnsAndSees basis root told seen result after → IsMet basis (watch root) (known given seen) result (known later after)
  met_by_open told given later gives sees = heard_first (watch root) refl (showing root) told given later gives sees

-- the end of a root that is not shown
pub met_at_none : (basis : Basis) (root : List ℕ) (seen after : List RootEvent) (given : Option CrawlerData) → SeesNumber basis root seen None after
    → IsMet basis (unwatch root) (known given seen) (Ok None) (known given after)
met_at_none basis root seen after given (Some at, sees, is) = absurd cc
met_at_none basis root seen after given (None, sees, is) = (Ok None, (None, known given after, (refl, sees), (refl, refl)), refl)

-- the result at the end of a root
at_its_end : (need : NeedData) (at : AtData) (result : Met) → IsAtEnd at.instance result → SaysReady need (Ok (Some (ended at.instance))) result
at_its_end need at (Ok root) is = ap Ok (sym is)
at_its_end need at (Err fault) is = absurd is

-- the end of a root that is shown
module _ (basis : Basis) (root : List ℕ) (seen looked after : List RootEvent) (result : Met) (given later : Option CrawlerData) where
  ends_it : (at : AtData) (told : Result (List RootEvent) CrawlFault) → SeesText basis root seen (Some at) looked
      → RootsGive given (ending (at.instance).root) (tells told) later → EndsAtEnd at.instance told looked result after
      → IsMet basis (unwatch root) (known given seen) result (known later after)
  ends_it at (Ok told) sees gives (learns, is) =
      (ended_by at (Ok told), (Some at, known given looked, (refl, sees), (Ok told, (gives, learns), refl)), at_its_end (unwatch root) at result is)
  ends_it at (Err fault) sees gives (is, same) = (
    Err fault,
    (Some at, known given looked, (refl, sees), (Err fault, (gives, same), refl)),
    subst (SaysReady (unwatch root) (Err fault)) (sym is) (inl refl),
  )

  pub met_at_end : (instance : InstanceData) (told : Result (List RootEvent) CrawlFault) → SeesNumber basis root seen (Some instance) looked
      → RootsGive given (ending instance.root) (tells told) later → EndsAtEnd instance told looked result after
      → IsMet basis (unwatch root) (known given seen) result (known later after)
  met_at_end instance told (None, sees, is) gives ends = absurd cc
  met_at_end instance told (Some at, sees, is) gives ends =
      let same : instance ≡ at.instance = cc is in
      ends_it at told sees (subst (λ (i : InstanceData). RootsGive given (ending i.root) (tells told) later) same gives)
      (subst (λ i. EndsAtEnd i told looked result after) same ends)
