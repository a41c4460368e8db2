-- What a listing came to, published over a list in which its root is as it was.
use Rattle.std.proofs.Common.{◌≡◌, ℕ, ℤ, List, find, Option, Some, option_map, bytes_eq, Result, Ok, Err, IfErr, MatchResult, Vec, inl, inr, sym, refl, ap, subst, ◌∙◌}
use Rattle.std.specs.declared.alloc.Global.{Global}
use Rattle.wq_view.specs.Listing.{PassData}
use Rattle.wq_view.specs.View.{IsViewOf, ViewData}
use Rattle.wq_view.specs.declared.patch.Patch.{Patch}
use Rattle.wq_live.specs.declared.event.RootEvent.{RootEvent}
use Rattle.wq_live.specs.Event.{Root, number_of, passes_over, shown}
use Rattle.wq_live.proofs.Events.{shown_after_pass}
use Rattle.wq_view.specs.Change.{pass_by}
use Rattle.wq_crawl.specs.declared.fault.CrawlFault.{CrawlFault}
use Rattle.wq_crawl.specs.declared.relisted.Relisted.{Relisted}
use Rattle.wq_crawl.specs.declared.relisted.Relisted.TheVariants.{Pass, Patched}
use Rattle.wq_crawl.specs.Answer.{CrawlData}
use Rattle.wq_crawl.specs.Shared.{CrawledFrom, Publishes, PublishesGlance}
use Rattle.wq_crawl.specs.Crawl.{CrawledAt, CrawlerData, IsRelisted, IsTakable, ListerData, crawler_at, makes}
use Rattle.wq_crawl.specs.Publish.{IsNotTakenIn, Passes}
use Rattle.wq_crawl.proofs.Crawling.{crawled_at, patched_at}

-- so each root keeps its number
pub numbers_stay : (text : List ℕ) (before after : List RootEvent) (number : ℕ) (pass : PassData) → Passes before number pass after → number_of text after ≡ number_of text before
numbers_stay text before after number pass (inl (still, same)) = ap (number_of text) same
numbers_stay text before after number pass (inr (news, few, added)) =
    ap (number_of text) added
    ∙ ap (λ roots. option_map (λ (root : Root). root.number) (find (λ (root : Root). bytes_eq root.text text) roots)) (shown_after_pass before number pass)

-- whatever became of the pass
pub numbers_kept : (text : List ℕ) (before after : List RootEvent) (number : ℕ) (pass : PassData) (result : Result (List RootEvent) CrawlFault)
    → MatchResult result (λ told. (told ≡ after) × Passes before number pass after) (λ fault. (after ≡ before) × IsNotTakenIn before number pass fault)
    → number_of text after ≡ number_of text before
numbers_kept text before after number pass (Ok told) (is, passes) = numbers_stay text before after number pass passes
numbers_kept text before after number pass (Err fault) (same, why) = ap (number_of text) same

-- a listing that can be published
pub takable : (number : ℕ) (text : List ℕ) (events : List RootEvent) (before after : ListerData) (relisted : Relisted)
    → IsRelisted number text (crawler_at events before) relisted (crawler_at events after) → IsTakable number events relisted
takable number text events before after (Pass pass) is = tt
takable number text events before after (Patched patches second) (view, is_view, over, make, in_range) = (view, is_view, make, in_range)

module _ (number : ℕ) (text : List ℕ) (events later : List RootEvent) (before after : ListerData) (result : Result (List RootEvent) CrawlFault) where
  -- a pass
  pub pass_published : (pass : PassData) → IsRelisted number text (crawler_at events before) (Pass pass) (crawler_at events after)
      → MatchResult result (λ told. (told ≡ later) × Passes events number pass later) (λ fault. (later ≡ events) × IsNotTakenIn events number pass fault)
      → CrawledAt number text (crawler_at events before) result (crawler_at later after)
  pass_published pass over published = crawled_at text (crawler_at events before) (crawler_at events after) (crawler_at later after) pass number result refl over refl refl published

  -- patches
  pub patches_published : (patches : Vec Patch Global) (given : List Patch) (second z : ℤ) → IsRelisted number text (crawler_at events before) (Patched patches second) (crawler_at events after)
      → given ≡ patches.items → z ≡ second
      → ((view : ViewData) → IsViewOf (passes_over number events) view → MatchResult result
      (λ told. (told ≡ later) × Passes events number (pass_by view.records given z) later)
      (λ fault. (later ≡ events) × IsNotTakenIn events number (pass_by view.records given z) fault))
      → CrawledAt number text (crawler_at events before) result (crawler_at later after)
  patches_published patches given second z over same at published =
      patched_at number text (crawler_at events before) (crawler_at events after) (crawler_at later after) result patches given second z refl over refl refl same at published

-- a fact of one listing is one of the same listing
pub same_listing : (number n : ℕ) (relisted r : Relisted) (text : List ℕ) (b a x y : CrawlerData) (result : Result (List RootEvent) CrawlFault) → n ≡ number → r ≡ relisted
    → (IsRelisted n text b r a → CrawledAt n text x result y) → IsRelisted number text b relisted a → CrawledAt number text x result y
same_listing number n relisted r text b a x y result is_n is_r given over =
    subst (λ n. CrawledAt n text x result y) is_n (given (subst (λ r. IsRelisted n text b r a) (sym is_r) (subst (λ n. IsRelisted n text b relisted a) (sym is_n) over)))

-- a listing beside one list is a listing beside another, in which the root is the same
pub relisted_later : (number : ℕ) (text : List ℕ) (told events : List RootEvent) (before after : ListerData) (relisted : Relisted)
    → passes_over number events ≡ passes_over number told
    → IsRelisted number text (crawler_at told before) relisted (crawler_at told after)
    → IsRelisted number text (crawler_at events before) relisted (crawler_at events after)
relisted_later number text told events before after (Pass pass) same over = over
relisted_later number text told events before after (Patched patches second) same (view, is_view, over, make, in_range) =
    (view, subst (λ history. IsViewOf history view) (sym same) is_view, over, make, in_range)

-- so is one that can be published
pub takable_later : (number : ℕ) (told events : List RootEvent) (relisted : Relisted) → passes_over number events ≡ passes_over number told
    → IsTakable number told relisted → IsTakable number events relisted
takable_later number told events (Pass pass) same is = tt
takable_later number told events (Patched patches second) same (view, is_view, make, in_range) =
    (view, subst (λ history. IsViewOf history view) (sym same) is_view, make, in_range)

module _ (text : List ℕ) (events later : List RootEvent) (number count : ℕ) (before after : ListerData) (shown : number_of text events ≡ Some number) where
  -- a listing was published, and this is the answer
  pub published_now : (crawl : Option CrawlData) → crawl ≡ Some (record { told = later; number = number; count = count })
      → CrawledAt number text (crawler_at events before) (Ok later) (crawler_at later after) → Publishes text before (Ok (Some crawl)) after
  published_now crawl is crawled =
      subst (λ (c : Option CrawlData). Publishes text before (Ok (Some c)) after) (sym is) (events, number, shown, crawled)

  -- or it was refused
  pub refused_now : (fault : CrawlFault) → later ≡ events → CrawledAt number text (crawler_at events before) (Err fault) (crawler_at later after)
      → CrawledFrom text before (Err fault) after
  refused_now fault same crawled =
      (events, number, shown, subst (λ (l : List RootEvent). CrawledAt number text (crawler_at events before) (Err fault) (crawler_at l after)) same crawled)

  -- what a glance came to was published, or refused
  pub glance_made : (result : Result (List RootEvent) CrawlFault) → IfErr result (λ _. later ≡ events)
      → CrawledAt number text (crawler_at events before) result (crawler_at later after) → PublishesGlance text before (makes result) after
  glance_made (Ok told) err (same, pass, over, passes) = (later, (events, number, shown, (refl, pass, over, passes)))
  glance_made (Err fault) same crawled = refused_now fault same crawled
