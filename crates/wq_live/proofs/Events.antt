-- The changes that one more event makes in the roots that were started or are shown, and in their passes.
use Rattle.std.proofs.Common.{◌≡◌, ◌≢◌, ◌==◌, ℕ, ◌<◌, ◌≤◌, Bool, true, false, not, ◌&&◌, ◌||◌, List, [], ◌∷◌, ◌++◌, filter, None, refl, ap, sym, ◌∙◌, arith, append-nil}
use Rattle.std.specs.FinMap.{FinMap, empty}
use Rattle.std.specs.List.{AllByRecursion}
use Rattle.std.proofs.lemmas.List.Elements.{filter_map-append, filter-append, filter_agree}
use Rattle.std.proofs.lemmas.List.Folds.{list_any-append}
use Rattle.std.proofs.lemmas.Bool.Decides.{nat_tests}
use Rattle.std.proofs.Math.Bool.{or-false}
use Rattle.wq_record.specs.Seen.{Stat}
use Rattle.wq_record.specs.Name.{name_cmp}
use Rattle.wq_view.specs.Listing.{PassData}
use Rattle.wq_view.specs.History.{History, Differ, DifferFrom, last_stats}
use Rattle.wq_live.specs.declared.event.RootEvent.{RootEvent}
use Rattle.wq_live.specs.declared.event.RootEvent.TheVariants.{Started, Passed, Ended}
use Rattle.wq_live.specs.Event.{Root, start_in, pass_in, is_end_of, number_in, started, has_ended, shown, passes_over}
use Rattle.wq_live.proofs.Roots.{less_differs, filter_twice}

-- an event of another root is no pass over this one
no_pass : (n : ℕ) (e : RootEvent) → number_in e < n → pass_in n e ≡ None
no_pass n (Started m t) lt = refl
no_pass n (Passed m p) lt = rw (less_differs m n lt) refl
no_pass n (Ended m) lt = refl

no_end : (n : ℕ) (e : RootEvent) → number_in e < n → is_end_of n e ≡ false
no_end n (Started m t) lt = refl
no_end n (Passed m p) lt = refl
no_end n (Ended m) lt = grind (arith, nat_tests)

-- a number that no root got has no events yet
pub unknown_passes : (n k : ℕ) (events : List RootEvent) → k < n → AllByRecursion (λ e. number_in e ≤ k) events → passes_over n events ≡ []
unknown_passes n k [] lt all = refl
unknown_passes n k (e ∷ es) lt all = rw (no_pass n e (omega (arith, all.0))) (unknown_passes n k es lt all.1)

pub unknown_end : (n k : ℕ) (events : List RootEvent) → k < n → AllByRecursion (λ e. number_in e ≤ k) events → has_ended events n ≡ false
unknown_end n k [] lt all = refl
unknown_end n k (e ∷ es) lt all = rw (no_end n e (omega (arith, all.0))) (unknown_end n k es lt all.1)

-- the numbers of the roots that were started are among those of the events
pub known_starts : (k : ℕ) (events : List RootEvent) → AllByRecursion (λ e. number_in e ≤ k) events → AllByRecursion (λ (root : Root). root.number ≤ k) (started events)
known_starts k [] all = all
known_starts k (Started m t ∷ es) all = (all.0, known_starts k es all.1)
known_starts k (Passed m p ∷ es) all = known_starts k es all.1
known_starts k (Ended m ∷ es) all = known_starts k es all.1

-- only a start adds to the roots that were started
pub started_after_pass : (events : List RootEvent) (n : ℕ) (p : PassData) → started (events ++ Passed n p ∷ []) ≡ started events
started_after_pass events n p = filter_map-append start_in events (Passed n p ∷ []) ∙ append-nil (started events)

-- an event that neither starts nor ends a root shows the same roots
pub shown_after_pass : (events : List RootEvent) (n : ℕ) (p : PassData) → shown (events ++ Passed n p ∷ []) ≡ shown events
shown_after_pass events n p =
    ap (λ l. filter (λ (root : Root). not (has_ended (events ++ Passed n p ∷ []) root.number)) l) (started_after_pass events n p)
    ∙ filter_agree (λ (root : Root). not (has_ended (events ++ Passed n p ∷ []) root.number)) (λ (root : Root). not (has_ended events root.number))
    (λ root. ap not (list_any-append (is_end_of root.number) events (Passed n p ∷ []) ∙ or-false (has_ended events root.number))) (started events)

-- a start shows one more root, if its number is new
pub shown_after_start : (events : List RootEvent) (n k : ℕ) (text : List ℕ) → k < n → AllByRecursion (λ e. number_in e ≤ k) events
    → shown (events ++ Started n text ∷ []) ≡ shown events ++ record { number = n; text = text } ∷ []
shown_after_start events n k text lt known =
    let root : Root = record { number = n; text = text } in
    let same : (r : Root) → not (has_ended (events ++ Started n text ∷ []) r.number) ≡ not (has_ended events r.number)
    = λ r. ap not (list_any-append (is_end_of r.number) events (Started n text ∷ []) ∙ or-false (has_ended events r.number)) in
    let new : filter (λ (r : Root). not (has_ended events r.number)) (root ∷ []) ≡ root ∷ [] = rw (unknown_end n k events lt known) refl in
    ap (λ l. filter (λ (r : Root). not (has_ended (events ++ Started n text ∷ []) r.number)) l) (filter_map-append start_in events (Started n text ∷ []))
    ∙ filter_agree (λ (r : Root). not (has_ended (events ++ Started n text ∷ []) r.number)) (λ (r : Root). not (has_ended events r.number)) same (started events ++ root ∷ [])
    ∙ filter-append (λ (r : Root). not (has_ended events r.number)) (started events) (root ∷ [])
    ∙ ap (λ l. shown events ++ l) new

-- an end shows one root less
pub shown_after_end : (events : List RootEvent) (n : ℕ) → shown (events ++ Ended n ∷ []) ≡ filter (λ (r : Root). not (r.number == n)) (shown events)
shown_after_end events n =
    let same : (r : Root) → not (has_ended (events ++ Ended n ∷ []) r.number) ≡ (not (has_ended events r.number) && not (r.number == n))
    = λ r. ap not (list_any-append (is_end_of r.number) events (Ended n ∷ [])) ∙ parts (has_ended events r.number) (r.number == n) in
    ap (λ l. filter (λ (r : Root). not (has_ended (events ++ Ended n ∷ []) r.number)) l) (filter_map-append start_in events (Ended n ∷ []) ∙ append-nil (started events))
    ∙ filter_agree (λ (r : Root). not (has_ended (events ++ Ended n ∷ []) r.number)) (λ (r : Root). not (has_ended events r.number) && not (r.number == n)) same (started events)
    ∙ sym (filter_twice (λ (r : Root). not (has_ended events r.number)) (λ (r : Root). not (r.number == n)) (started events))
  where
    parts : (a b : Bool) → not (a || (b || false)) ≡ (not a && not b)
    parts true b = refl
    parts false true = refl
    parts false false = refl

-- the passes over a root that one more event adds
pub passes_after : (m : ℕ) (events : List RootEvent) (e : RootEvent) → passes_over m (events ++ e ∷ []) ≡ passes_over m events ++ passes_over m (e ∷ [])
passes_after m events e = filter_map-append (pass_in m) events (e ∷ [])

-- the map of the last pass, with this map before the first
abbrev last_from : FinMap name_cmp Stat → History → FinMap name_cmp Stat
last_from before [] = before
last_from before (p ∷ ps) = last_from p.stats ps

last_is : (p : PassData) (h : History) → last_stats (p ∷ h) ≡ last_from p.stats h
last_is p [] = refl
last_is p (q ∷ h) = last_is q h

more_differ : (before : FinMap name_cmp Stat) (h : History) (p : PassData) → DifferFrom before h → last_from before h ≢ p.stats → DifferFrom before (h ++ p ∷ [])
more_differ before [] p d new = (new, tt)
more_differ before (q ∷ h) p d new = (d.0, more_differ q.stats h p d.1 new)

last_from_empty : (h : History) → last_from empty h ≡ last_stats h
last_from_empty [] = refl
last_from_empty (p ∷ h) = sym (last_is p h)

-- a history and a pass that saw something else than its last one
pub differ_more : (h : History) (p : PassData) → Differ h → last_stats h ≢ p.stats → Differ (h ++ p ∷ [])
differ_more h p d new = more_differ empty h p d (λ e. new (sym (last_from_empty h) ∙ e))
