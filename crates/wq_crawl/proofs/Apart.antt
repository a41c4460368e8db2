-- An event of one root changes no other.
use Rattle.std.proofs.Common.{◌≡◌, ◌==◌, ◌+◌, ◌||◌, ℕ, Bool, true, false, not, List, [], ◌∷◌, ◌++◌, filter, length, Result, Ok, Err, MatchResult, inl, inr, refl, ap, sym, subst, ◌∙◌}
use Rattle.std.specs.FinMap.{len}
use Rattle.std.specs.List.{list_any}
use Rattle.std.proofs.lemmas.List.{append-nil, append_assoc}
use Rattle.std.proofs.lemmas.List.Elements.{filter_map-append, filter-append, filter_agree}
use Rattle.std.proofs.lemmas.List.Folds.{list_any-append}
use Rattle.std.proofs.lemmas.Bool.{eqb-true}
use Rattle.std.proofs.Math.Bool.{or-false}
use Rattle.wq_view.specs.Listing.{PassData}
use Rattle.wq_live.specs.declared.event.RootEvent.{RootEvent}
use Rattle.wq_live.specs.declared.event.RootEvent.TheVariants.{Started, Passed, Ended}
use Rattle.wq_live.specs.Event.{Root, first_history, has_ended, is_end_of, is_shown, passes_over, shown, start_in, started}
use Rattle.wq_live.proofs.Events.{passes_after, shown_after_end, shown_after_pass}
use Rattle.wq_crawl.specs.declared.fault.CrawlFault.{CrawlFault}
use Rattle.wq_crawl.specs.Publish.{EndsRoot, IsNotTakenIn, OthersStay, Passes, with_start}

-- different numbers are told apart
differs : (number other : ℕ) → (other ≡ number → ⊥) → (number == other) ≡ false
differs number other apart = at (number == other) refl
  where
    at : (b : Bool) → (number == other) ≡ b → (number == other) ≡ false
    at true is = absurd (apart (sym (eqb-true number other is)))
    at false is = is

pub same_apart : (number : ℕ) (before after : List RootEvent) → after ≡ before → OthersStay number before after
same_apart number before after same other apart = (ap (λ events. is_shown events other) same, ap (passes_over other) same)

after_both : (number : ℕ) (before mid after : List RootEvent) → OthersStay number before mid → OthersStay number mid after → OthersStay number before after
after_both number before mid after first second other apart =
    let one = first other apart in
    let two = second other apart in
    (two.0 ∙ one.0, two.1 ∙ one.1)

-- a pass
passed_apart : (number : ℕ) (pass : PassData) (events : List RootEvent) → OthersStay number events (events ++ Passed number pass ∷ [])
passed_apart number pass events other apart = (
  ap (list_any (λ (root : Root). root.number == other)) (shown_after_pass events number pass),
  passes_after other events (Passed number pass) ∙ rw (differs number other apart) (append-nil (passes_over other events)),
)

-- an end
without_other : (number other : ℕ) → (other ≡ number → ⊥) → (roots : List Root)
    → list_any (λ (root : Root). root.number == other) (filter (λ (root : Root). not (root.number == number)) roots) ≡ list_any (λ (root : Root). root.number == other) roots
without_other number other apart [] = refl
without_other number other apart (r ∷ rs) = at (r.number == number) refl (without_other number other apart rs)
  where
    at : (b : Bool) → (r.number == number) ≡ b
        → list_any (λ (root : Root). root.number == other) (filter (λ (root : Root). not (root.number == number)) rs) ≡ list_any (λ (root : Root). root.number == other) rs
        → list_any (λ (root : Root). root.number == other) (filter (λ (root : Root). not (root.number == number)) (r ∷ rs)) ≡ list_any (λ (root : Root). root.number == other) (r ∷ rs)
    at true is later =
        let its : (r.number == other) ≡ false = subst (λ n. (n == other) ≡ false) (sym (eqb-true r.number number is)) (differs number other apart) in
        rw (is, its) later
    at false is later = rw is (ap (λ b. (r.number == other) || b) later)

ended_apart : (number : ℕ) (events : List RootEvent) → OthersStay number events (events ++ Ended number ∷ [])
ended_apart number events other apart = (
  ap (list_any (λ (root : Root). root.number == other)) (shown_after_end events number) ∙ without_other number other apart (shown events),
  passes_after other events (Ended number) ∙ append-nil (passes_over other events),
)

-- a start
none_of : (number other : ℕ) → (other ≡ number → ⊥) → (text : List ℕ) (keeps : Root → Bool)
    → list_any (λ (root : Root). root.number == other) (filter keeps (record { number = number; text = text } ∷ [])) ≡ false
none_of number other apart text keeps = at (keeps (record { number = number; text = text })) refl
  where
    at : (b : Bool) → keeps (record { number = number; text = text }) ≡ b
        → list_any (λ (root : Root). root.number == other) (filter keeps (record { number = number; text = text } ∷ [])) ≡ false
    at true is = rw (is, differs number other apart) refl
    at false is = rw is refl

started_apart : (number : ℕ) (text : List ℕ) (events : List RootEvent) → OthersStay number events (events ++ Started number text ∷ [])
started_apart number text events other apart =
    let root : Root = record { number = number; text = text } in
    let of : Root → Bool = λ r. r.number == other in
    let keeps : Root → Bool = λ r. not (has_ended events r.number) in
    let same : (r : Root) → not (has_ended (events ++ Started number text ∷ []) r.number) ≡ keeps r
    = λ r. ap not (list_any-append (is_end_of r.number) events (Started number text ∷ []) ∙ or-false (has_ended events r.number)) in
    let shows : shown (events ++ Started number text ∷ []) ≡ shown events ++ filter keeps (root ∷ [])
    = ap (λ l. filter (λ (r : Root). not (has_ended (events ++ Started number text ∷ []) r.number)) l) (filter_map-append start_in events (Started number text ∷ []))
    ∙ filter_agree (λ (r : Root). not (has_ended (events ++ Started number text ∷ []) r.number)) keeps same (started events ++ root ∷ [])
    ∙ filter-append keeps (started events) (root ∷ []) in (
      ap (list_any of) shows ∙ list_any-append of (shown events) (filter keeps (root ∷ []))
          ∙ ap (λ b. list_any of (shown events) || b) (none_of number other apart text keeps) ∙ or-false (list_any of (shown events)),
      passes_after other events (Started number text) ∙ append-nil (passes_over other events),
    )

pub start_apart : (text : List ℕ) (pass : PassData) (events after : List RootEvent) → after ≡ with_start text pass events → OthersStay (length (started events) + 1) events after
start_apart text pass events after is = subst (OthersStay (length (started events) + 1) events) (sym is) (at (len pass.stats == 0) refl)
  where
    at : (b : Bool) → (len pass.stats == 0) ≡ b → OthersStay (length (started events) + 1) events (with_start text pass events)
    at true none = rw none (started_apart (length (started events) + 1) text events)
    at false some =
        let number = length (started events) + 1 in
        let first = events ++ Started number text ∷ [] in
        let both = after_both number events first (first ++ Passed number pass ∷ []) (started_apart number text events) (passed_apart number pass first) in
        rw some (subst (OthersStay number events) (append_assoc events (Started number text ∷ []) (Passed number pass ∷ [])) both)

-- whatever became of a pass
pass_apart : (number : ℕ) (before after : List RootEvent) (pass : PassData) → Passes before number pass after → OthersStay number before after
pass_apart number before after pass (inl (still, same)) = same_apart number before after same
pass_apart number before after pass (inr (news, few, added)) = subst (OthersStay number before) (sym added) (passed_apart number pass before)

pub kept_apart : (number : ℕ) (before after : List RootEvent) (pass : PassData) (result : Result (List RootEvent) CrawlFault)
    → MatchResult result (λ told. (told ≡ after) × Passes before number pass after) (λ fault. (after ≡ before) × IsNotTakenIn before number pass fault)
    → OthersStay number before after
kept_apart number before after pass (Ok told) (is, passes) = pass_apart number before after pass passes
kept_apart number before after pass (Err fault) (same, why) = same_apart number before after same

-- whatever became of an end
pub end_apart : (number : ℕ) (before after : List RootEvent) → EndsRoot before number after → OthersStay number before after
end_apart number before after (inl (gone, same)) = same_apart number before after same
end_apart number before after (inr (shows, added)) = subst (OthersStay number before) (sym added) (ended_apart number before)
