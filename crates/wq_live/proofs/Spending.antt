-- A pass for which a root has no tick left, by the result of the root's view.
use Rattle.std.proofs.Common.{◌≡◌, ◌≢◌, ◌↔◌, ℕ, true, List, length, Result, Ok, Err, sym, ap, ◌∙◌}
use Rattle.wq_record.specs.Limit.{max_tick}
use Rattle.wq_view.specs.Listing.{PassData}
use Rattle.wq_view.specs.History.{last_stats}
use Rattle.wq_view.specs.declared.view.ViewFault.{ViewFault}
use Rattle.wq_view.specs.declared.view.ViewFault.TheVariants.{TicksSpent, NoMemory}
use Rattle.wq_live.specs.declared.event.RootEvent.{RootEvent}
use Rattle.wq_live.specs.Event.{is_shown, passes_over}
use Rattle.wq_live.specs.Table.{WantsForTicks}
use Rattle.wq_live.proofs.Finding.{same_fault}

-- the ticks of a root that is shown are spent if its view has none left
pub wants_by_view : {Q : Type 0} (events : List RootEvent) (n : ℕ) (pass : PassData) (tick : ℕ) → is_shown events n ≡ true → tick ≡ length (passes_over n events)
    → (Q ↔ ((tick ≡ max_tick) × (last_stats (passes_over n events) ≢ pass.stats))) → (Q ↔ WantsForTicks events n pass)
wants_by_view events n pass tick shown same iff =
    ((λ q. let both = iff.0 q in ((shown, both.1), sym same ∙ both.0)), (λ wants. iff.1 (same ∙ wants.1, wants.0.1)))

-- the view's error is the error of the call
pub same_error : {A B P : Type 0} (r : Result A ViewFault) (v : Result B ViewFault) (e : ViewFault) → r ≡ Err e → v ≡ Err e → ((v ≡ Err TicksSpent) ↔ P) → ((r ≡ Err TicksSpent) ↔ P)
same_error r v e is was iff = ((λ h. iff.0 (was ∙ ap Err (same_fault (sym is ∙ h)))), (λ p. is ∙ ap Err (same_fault (sym was ∙ iff.1 p))))

-- memory ran out if the view had a tick left
pub no_memory : {A B P : Type 0} (r : Result A ViewFault) (v : Result B ViewFault) (b : B) (e : ViewFault) → r ≡ Err e → e ≡ NoMemory → v ≡ Ok b → ((v ≡ Err TicksSpent) ↔ P) → ((r ≡ Err TicksSpent) ↔ P)
no_memory r v b e is lacking ok iff = ((λ h. absurd (cc (h, is, lacking))), (λ p. absurd (cc (iff.1 p, ok))))

-- all went well
pub well : {A B P : Type 0} (a : A) (v : Result B ViewFault) (b : B) → v ≡ Ok b → ((v ≡ Err TicksSpent) ↔ P) → ((◌≡◌ {A = Result A ViewFault} (Ok a) (Err TicksSpent)) ↔ P)
well a v b ok iff = ((λ h. absurd (cc h)), (λ p. absurd (cc (iff.1 p, ok))))
