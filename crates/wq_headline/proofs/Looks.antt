-- The root that a look finds in a list, and the root that its table has.
use Rattle.std.proofs.Common.{◌≡◌, ◌⊎◌, ℕ, is_some, List, find, Option, Some, None, option_map, inl, inr, refl, ap, sym, subst, ◌∙◌}
use Rattle.std.proofs.lemmas.Option.{same_Some}
use mathlib.Core.Bool.{false≢true}
use Rattle.wq_clock.specs.Instance.{InstanceData}
use Rattle.wq_clock.specs.Run.{RunData, instance_of, run_data}
use Rattle.wq_clock.specs.declared.run.Run.{Run}
use Rattle.wq_live.specs.Event.{Root, number_of, passes_over}
use Rattle.wq_live.specs.Table.{IsTableOf, RootView, TableData, has_number, has_text, root_by_text, root_of}
use Rattle.wq_live.specs.declared.event.RootEvent.{RootEvent}
use Rattle.wq_live.proofs.Roots.{found_number}
use Rattle.wq_crawl.specs.Meets.{at_root}
use Rattle.wq_crawl.specs.Run.{ShowsAt}
use Rattle.wq_crawl.specs.At.{AtData}
use Rattle.wq_view.specs.View.{HasOneView, IsViewOf, ViewData}
use Rattle.wq_headline.specs.Lists.{LooksFindRoots, NumbersFindRoots}
use Rattle.wq_headline.proofs.Lists.{found_view, named, number_by, shown_by}

-- the root that is looked at, of its parts
abbrev at_of : InstanceData → Option ViewData → AtData
at_of instance view = record { instance = instance; view = view }

-- a root that is looked at is this one, if it has its number and a view of its history
one_root : HasOneView → (run : RunData) (events : List RootEvent) (root : RootView) (at : AtData) (number : ℕ) (view : ViewData) → root.number ≡ number
    → IsViewOf (passes_over root.number events) root.view → at.instance ≡ instance_of run number → at.view ≡ Some view
    → IsViewOf (passes_over number events) view → at ≡ at_root run root
one_root one_view run events root at number view numbers held instance there views =
    let same : view ≡ root.view = one_view (passes_over number events) view root.view views (subst (λ n. IsViewOf (passes_over n events) root.view) numbers held) in
    ap (λ i. at_of i at.view) (instance ∙ ap (instance_of run) (sym numbers))
    ∙ ap (at_of (instance_of run root.number)) (there ∙ ap Some same)

-- a search that finds nothing without views finds nothing
none_found : (run : RunData) (found : Option RootView) → None ≡ option_map root_of found → None ≡ option_map (at_root run) found
none_found run None is = refl
none_found run (Some root) is = absurd cc

pub looks_find_roots : HasOneView → LooksFindRoots
looks_find_roots one_view run text events table None is (lawful, absent) =
    none_found (run_data run) (root_by_text text table) (sym absent ∙ named events table is text)
looks_find_roots one_view run text events table (Some at) is (lawful, (root, found, instance, view, there, views)) =
    by (root_by_text text table) refl (sym found ∙ named events table is text)
  where
    by : (found : Option RootView) → root_by_text text table ≡ found → Some root ≡ option_map root_of found
        → Some at ≡ option_map (at_root (run_data run)) found
    by None here same = absurd cc
    by (Some r) here same =
        let numbers : root.number ≡ r.number = ap (λ (root : Root). root.number) (same_Some _ _ same) in
        ap Some (one_root one_view (run_data run) events r at root.number view (sym numbers) (found_view events table is (has_text text) r here) instance there views)

pub numbers_find_roots : HasOneView → NumbersFindRoots
numbers_find_roots one_view run number events table None is (lawful, absent) = by (find (has_number number) table.roots) refl
  where
    by : (found : Option RootView) → find (has_number number) table.roots ≡ found → None ≡ option_map (at_root (run_data run)) found
    by None here = refl
    by (Some r) here = absurd (false≢true (sym absent ∙ shown_by events table is number ∙ ap is_some here))
numbers_find_roots one_view run number events table (Some at) is (lawful, (there, instance, view, viewed, views)) = by (find (has_number number) table.roots) refl
  where
    by : (found : Option RootView) → find (has_number number) table.roots ≡ found → Some at ≡ option_map (at_root (run_data run)) found
    by None here = absurd (false≢true (sym (ap is_some here) ∙ sym (shown_by events table is number) ∙ there))
    by (Some r) here =
        ap Some (one_root one_view (run_data run) events r at number view (found_number number table.roots r here)
        (found_view events table is (has_number number) r here) instance viewed views)

-- a search that finds no number finds no root
none_by_number : (found : Option RootView) → option_map (λ (root : RootView). root.number) found ≡ None → found ≡ None
none_by_number None is = refl
none_by_number (Some root) is = absurd cc

-- a look finds the root that the table has, or it was refused though the root is shown
pub root_at : {X P Y Q : Type 0} → HasOneView → (run : Run) (root : List ℕ) (seen : List RootEvent) (table : TableData) (at : Option AtData) → IsTableOf seen table
    → (X × ShowsAt run root seen at × P) ⊎ (Y × (at ≡ None) × Q)
    → (at ≡ option_map (at_root (run_data run)) (root_by_text root table)) ⊎ ((number : ℕ) × (number_of root seen ≡ Some number) × (at ≡ None) × Y × Q)
root_at one_view run root seen table at is (inl (begins, shows, published)) = inl (looks_find_roots one_view run root seen table at is shows)
root_at {X} {P} {Y} {Q} one_view run root seen table at is (inr (same, unseen, refused)) = by (number_of root seen) refl
  where
    by : (number : Option ℕ) → number_of root seen ≡ number
        → (at ≡ option_map (at_root (run_data run)) (root_by_text root table)) ⊎ ((number : ℕ) × (number_of root seen ≡ Some number) × (at ≡ None) × Y × Q)
    by None gone = inl (unseen ∙ sym (ap (option_map (at_root (run_data run))) (none_by_number (root_by_text root table) (number_by seen table is root ∙ gone))))
    by (Some number) there = inr (number, there, unseen, same, refused)
