-- The table after a pass, and the root that a number finds.
use Rattle.std.proofs.Common.{◌≡◌, ◌≢◌, ◌==◌, ℕ, ℤ, ◌≤◌, Bool, true, false, List, [], ◌∷◌, ◌++◌, map, length, Option, Some, None, is_some, IfSome, refl, ap, sym, subst, ◌∙◌, append-nil}
use Rattle.std.specs.List.{find}
use Rattle.std.proofs.lemmas.List.Elements.{All-weaker, All-push, All-map, recursion_from_All}
use Rattle.std.proofs.lemmas.Bool.{eqb-true}
use Rattle.wq_view.specs.Listing.{PassData}
use Rattle.wq_view.specs.Change.{pass_by}
use Rattle.wq_view.specs.History.{Differ, History, last_stats}
use Rattle.wq_view.specs.declared.patch.Patch.{Patch}
use Rattle.wq_view.specs.View.{HasOneView, ViewData, IsViewOf}
use Rattle.wq_live.specs.declared.event.RootEvent.{RootEvent}
use Rattle.wq_live.specs.declared.event.RootEvent.TheVariants.{Passed}
use Rattle.wq_live.specs.Event.{number_in, started, is_shown, passes_over, IsLawfulList}
use Rattle.wq_live.specs.Table.{RootView, TableData, IsTableOf, has_number, with_view}
use Rattle.wq_live.proofs.Roots.{turned, any_of_number, found_passes, same_roots}
use Rattle.wq_live.proofs.Events.{started_after_pass, shown_after_pass, passes_after, differ_more}
use Rattle.wq_live.proofs.Starts.{roots_known}

module _ (events : List RootEvent) (table : TableData) (is : IsTableOf events table) (n : ℕ) where
  in_table : is_shown events n ≡ is_some (find (has_number n) table.roots)
  in_table = rw (sym is.roots) (any_of_number n table.roots)

  -- a number that finds no root is that of no root that is shown
  pub not_shown : find (has_number n) table.roots ≡ None → is_shown events n ≡ false
  not_shown none = in_table ∙ ap is_some none

  -- a number that finds a root is that of a root that is shown
  pub is_there : (root : RootView) → find (has_number n) table.roots ≡ Some root → is_shown events n ≡ true
  is_there root found = in_table ∙ ap is_some found

  -- the root that is found has the view of its passes
  pub found_view : (root : RootView) → find (has_number n) table.roots ≡ Some root → IsViewOf (passes_over n events) root.view
  found_view root found =
      let it = found_passes (has_number n) (λ (root : RootView). IsViewOf (passes_over root.number events) root.view) table.roots root found
      (recursion_from_All (λ (root : RootView). IsViewOf (passes_over root.number events) root.view) table.roots is.views) in
      subst (λ m. IsViewOf (passes_over m events) root.view) (eqb-true root.number n it.0) it.1

  -- the number of the root that is found was given
  pub found_known : (root : RootView) → find (has_number n) table.roots ≡ Some root → n ≤ table.given
  found_known root found =
      let it = found_passes (has_number n) (λ (root : RootView). root.number ≤ table.given) table.roots root found (roots_known events table is) in
      subst (λ m. m ≤ table.given) (eqb-true root.number n it.0) it.1

  module _ (pass : PassData) where
    abbrev passed : RootEvent
    passed = Passed n pass

    other : (m : ℕ) → (n == m) ≡ false → passes_over m (events ++ passed ∷ []) ≡ passes_over m events
    other m e = passes_after m events passed ∙ rw e (append-nil (passes_over m events))

    own : (m : ℕ) → (n == m) ≡ true → passes_over m (events ++ passed ∷ []) ≡ passes_over m events ++ pass ∷ []
    own m e = passes_after m events passed ∙ rw e refl

    lawful : n ≤ table.given → last_stats (passes_over n events) ≢ pass.stats → IsLawfulList (events ++ passed ∷ [])
    lawful given new = record {
      numbers = rw (started_after_pass events n pass) is.lawful.numbers;
      known = rw (started_after_pass events n pass) (All-push (λ e. number_in e ≤ length (started events)) events passed is.lawful.known (rw (sym is.given) given));
      differ = λ m. differs m (n == m) refl;
    }
      where
        differs : (m : ℕ) (b : Bool) → (n == m) ≡ b → Differ (passes_over m (events ++ passed ∷ []))
        differs m true e = rw (own m e) (differ_more (passes_over m events) pass (is.lawful.differ m) (subst (λ k. last_stats (passes_over k events) ≢ pass.stats) (eqb-true n m e) new))
        differs m false e = rw (other m e) (is.lawful.differ m)

    -- a pass that saw something else than the last one over its root
    pub after_pass : (view : ViewData) → n ≤ table.given → last_stats (passes_over n events) ≢ pass.stats → IsViewOf (passes_over n events ++ pass ∷ []) view
        → IsTableOf (events ++ passed ∷ []) (record { roots = map (with_view n view) table.roots; given = table.given })
    after_pass view given new of = record {
      lawful = lawful given new;
      given = is.given ∙ ap length (sym (started_after_pass events n pass));
      roots = same_roots n view table.roots ∙ is.roots ∙ sym (shown_after_pass events n pass);
      views = All-map (λ (root : RootView). IsViewOf (passes_over root.number (events ++ passed ∷ [])) root.view) (with_view n view) table.roots
          (All-weaker (λ (root : RootView). IsViewOf (passes_over root.number events) root.view) (λ (root : RootView). IsViewOf (passes_over (with_view n view root).number (events ++ passed ∷ [])) (with_view n view root).view)
          (λ root v. shows root v (root.number == n) refl) table.roots is.views);
    }
      where
        shows : (root : RootView) → IsViewOf (passes_over root.number events) root.view → (b : Bool) → (root.number == n) ≡ b
            → IsViewOf (passes_over (with_view n view root).number (events ++ passed ∷ [])) (with_view n view root).view
        shows root v true e = rw (e, own root.number (turned root.number n true e)) (subst (λ k. IsViewOf (passes_over k events ++ pass ∷ []) view) (sym (eqb-true root.number n e)) of)
        shows root v false e = rw (e, other root.number (turned root.number n false e)) v

-- a root of a table has the view of the passes over it
pub base_found : HasOneView → (events : List RootEvent) (table : TableData) → IsTableOf events table → (n : ℕ) (view : ViewData) → IsViewOf (passes_over n events) view → IfSome (find (has_number n) table.roots) (λ root. view ≡ root.view)
base_found one events table is n view is_view = by (find (has_number n) table.roots) refl
  where
    by : (root : Option RootView) → find (has_number n) table.roots ≡ root → IfSome root (λ root. view ≡ root.view)
    by None found = tt
    by (Some root) found = one (passes_over n events) view root.view is_view (found_view events table is n root found)

-- patches make one pass with each view of a history
pub same_pass : HasOneView → (history : History) (base view : ViewData) (patches : List Patch) (given second : ℤ) → given ≡ second → IsViewOf history base → IsViewOf history view → pass_by base.records patches given ≡ pass_by view.records patches second
same_pass one history base view patches given second same is_base is_view =
    ap (λ z. pass_by base.records patches z) same ∙ ap (λ (v : ViewData). pass_by v.records patches second) (one history base view is_base is_view)
