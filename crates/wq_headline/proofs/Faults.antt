-- The faults of crawls and watchings that count for a need in a world.
use Rattle.std.proofs.Common.{◌≡◌, ℕ, Bool, true, false, is_some, if◌then◌else◌, List, Option, Some, None, refl, ap, ◌∙◌}
use Rattle.std.proofs.lemmas.Slice.Eq.{bytes_eq-Decides}
use Rattle.wq_crawl.specs.declared.fault.CrawlFault.{CrawlFault}
use Rattle.wq_live.specs.Table.{TableData, number_by_text}
use Rattle.wq_crawl.specs.Meets.{fault_for, refused_fault}
use Rattle.wq_crawl.specs.Meets.{RefusedData, shows_root}
use Rattle.wq_crawl.specs.Need.{NeedData, none, look, crawl, watch, unwatch}

-- no need has a fault if nothing was refused
pub no_fault : (need : NeedData) (table : TableData) → fault_for need table None ≡ None
no_fault none table = refl
no_fault (look root) table = refl
no_fault (crawl root) table = by (shows_root root table)
  where
    by : (b : Bool) → ◌≡◌ {A = Option CrawlFault} (if b then None else None) None
    by true = refl
    by false = refl
no_fault (watch root) table = by (shows_root root table)
  where
    by : (b : Bool) → ◌≡◌ {A = Option CrawlFault} (if b then None else None) None
    by true = refl
    by false = refl
no_fault (unwatch root) table = refl

-- a crawl or a watching that was refused
abbrev pub refusal : List ℕ → CrawlFault → Option RefusedData
refusal root fault = Some (record { root = root; fault = fault })

-- the fault of a crawl counts if its root is shown
pub crawl_fault : (root : List ℕ) (fault : CrawlFault) (table : TableData) (number : ℕ) → number_by_text root table ≡ Some number
    → fault_for (crawl root) table (refusal root fault) ≡ Some fault
crawl_fault root fault table number there =
    ap (λ (n : Option ℕ). if is_some n then refused_fault root (refusal root fault) else None) there
    ∙ ap (λ b. if b then Some fault else None) ((bytes_eq-Decides root root).1 refl)

-- the fault of a watching counts if its root is not shown
pub watch_fault : (root : List ℕ) (fault : CrawlFault) (table : TableData) → number_by_text root table ≡ None
    → fault_for (watch root) table (refusal root fault) ≡ Some fault
watch_fault root fault table absent =
    ap (λ (n : Option ℕ). if is_some n then None else refused_fault root (refusal root fault)) absent
    ∙ ap (λ b. if b then Some fault else None) ((bytes_eq-Decides root root).1 refl)
