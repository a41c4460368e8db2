-- The roots of a world meet a need, by the steps of the code.
use Rattle.std.proofs.Common.{◌≡◌, ℕ, List, [], ◌∷◌, ◌++◌, Option, Some, None, Result, Ok, Err, inl, inr, refl, sym, ap, subst}
use Rattle.wq_clock.specs.Run.{RunData}
use Rattle.wq_crawl.specs.declared.fault.CrawlFault.{CrawlFault}
use Rattle.wq_live.specs.Table.{IsTableOf, TableData}
use Rattle.wq_live.specs.declared.event.RootEvent.{RootEvent}
use Rattle.wq_live.specs.declared.event.RootEvent.TheVariants.{Ended}
use Rattle.wq_crawl.specs.Need.{NeedData}
use Rattle.wq_crawl.specs.Views.{ReadyData, SaysReady}
use Rattle.wq_crawl.specs.declared.views.RootAt.{RootAt}
use Rattle.wq_crawl.specs.Meets.{Meets, MeetsAt, MeetsFor, at_end, ending, fault_for, looked}
use Rattle.wq_crawl.specs.Tables.{EndsTable, Finds}
use Rattle.wq_crawl.specs.Meets.{RefusedData}

-- the roots of a world meet a need, whatever history the table has
abbrev pub MeetsAll : NeedData → RunData → Option RefusedData → TableData → ReadyData → TableData → Type 0
MeetsAll need run refused before ready after = (events : List RootEvent) → IsTableOf events before
    → (later : List RootEvent) × Meets need run refused events ready later × IsTableOf later after

-- and the code has this result
abbrev pub MeetsBy : NeedData → RunData → Option RefusedData → TableData → Result (Option RootAt) CrawlFault → TableData → Type 0
MeetsBy need run refused before result after =
    (ready : ReadyData) × MeetsAll need run refused before ready after × SaysReady need ready result

module _ (need : NeedData) (run : RunData) (refused : Option RefusedData) (before : TableData) where
  -- a crawl or a watching was refused
  pub met_refused : (fault : CrawlFault) → Some fault ≡ fault_for need before refused → MeetsBy need run refused before (Err fault) before
  met_refused fault is = (
    Err fault,
    (λ events of. (events, (before, of, subst (λ f. MeetsFor f need run before events (Err fault) events) is (refl, refl)), of)),
    inl refl,
  )

  -- a root that is looked at
  pub met_looked : (result : Result (Option RootAt) CrawlFault) → None ≡ fault_for need before refused → None ≡ ending need before
      → Finds need run before result → MeetsBy need run refused before result before
  met_looked result is none found = (
    Ok (looked need run before),
    (λ events of. (
      events,
      (
        before,
        of,
        subst (λ f. MeetsFor f need run before events (Ok (looked need run before)) events) is
            (subst (λ n. MeetsAt n need run before events (Ok (looked need run before)) events) none (refl, refl)),
      ),
      of,
    )),
    by result found,
  )
    where
      by : (r : Result (Option RootAt) CrawlFault) → Finds need run before r → SaysReady need (Ok (looked need run before)) r
      by (Ok root) it = ap Ok (sym it)
      by (Err fault) (short, of_root) = inr (short, of_root, looked need run before, refl)

  -- a root that has ended
  pub met_ended : (number : ℕ) (result : Result (Option RootAt) CrawlFault) (after : TableData) → None ≡ fault_for need before refused
      → Some number ≡ ending need before → EndsTable number run before result after → MeetsBy need run refused before result after
  met_ended number (Ok root) after is some (at, ends) = (
    Ok (Some (at_end run number)),
    (λ events of. (
      events ++ Ended number ∷ [],
      (
        before,
        of,
        subst (λ f. MeetsFor f need run before events (Ok (Some (at_end run number))) (events ++ Ended number ∷ [])) is
            (subst (λ n. MeetsAt n need run before events (Ok (Some (at_end run number))) (events ++ Ended number ∷ [])) some (inl (refl, refl))),
      ),
      ends events of,
    )),
    ap Ok (sym at),
  )
  met_ended number (Err fault) after is some (short, same) = (
    Err fault,
    (λ events of. (
      events,
      (
        before,
        of,
        subst (λ f. MeetsFor f need run before events (Err fault) events) is
            (subst (λ n. MeetsAt n need run before events (Err fault) events) some (inr (ap Err short, refl))),
      ),
      subst (λ t. IsTableOf events t) (sym same) of,
    )),
    inl refl,
  )
