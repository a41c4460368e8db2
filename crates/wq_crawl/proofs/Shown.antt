-- The root that is found in a list, by its text and by its number.
use Rattle.std.proofs.Common.{◌≡◌, ◌==◌, ℕ, Bool, true, false, cond, IfErr, IfOk, List, [], ◌∷◌, Option, Some, None, Result, Ok, Err, option_map, bytes_eq, refl, ap, subst, sym, ◌∙◌}
use Rattle.std.specs.List.{find, list_any}
use Rattle.std.proofs.lemmas.Option.{same_Some}
use Rattle.std.proofs.lemmas.Bool.{eq-eqb}
use Rattle.wq_clock.specs.Instance.{InstanceData}
use Rattle.wq_clock.specs.Run.{instance_of, run_data}
use Rattle.wq_clock.specs.declared.run.Run.{Run}
use Rattle.wq_live.specs.Event.{IsLawfulList, Root, is_shown, passes_over, shown, shown_root}
use Rattle.wq_live.specs.declared.event.RootEvent.{RootEvent}
use Rattle.wq_crawl.specs.At.{AtData}
use Rattle.wq_view.specs.View.{IsViewOf, ViewData}
use Rattle.wq_crawl.specs.Run.{ShowsAt, ShowsNumber}

-- a root whose number was found was found
pub root_found : (found : Option Root) (number : ℕ) → Some number ≡ option_map (λ (root : Root). root.number) found
    → (root : Root) × (found ≡ Some root) × (number ≡ root.number)
root_found None number is = absurd cc
root_found (Some root) number is = (root, refl, cc is)

-- the root that is looked at, from the look of a lawful list
pub shows_it : (run : Run) (text : List ℕ) (events : List RootEvent) (number : ℕ) (at : AtData) (view : ViewData)
    → IsLawfulList events → Some number ≡ option_map (λ (root : Root). root.number) (shown_root text events)
    → at.instance ≡ instance_of (run_data run) number → at.view ≡ Some view → IsViewOf (passes_over number events) view
    → ShowsAt run text events (Some at)
shows_it run text events number at view lawful found instance there views =
    let it = root_found (shown_root text events) number found in (
      lawful,
      (
        it.0,
        it.1,
        instance ∙ ap (instance_of (run_data run)) it.2,
        view,
        there,
        subst (λ n. IsViewOf (passes_over n events) view) it.2 views,
      ),
    )

-- the root of a text has the number of this instance, or there is neither
abbrev pub IsNumbered : (Option AtData → Type 0) → Option InstanceData → Type 0
IsNumbered shows instance = (at : Option AtData) × shows at × (instance ≡ option_map (λ at. at.instance) at)

module _ (run : Run) (text : List ℕ) (events : List RootEvent) (lawful : IsLawfulList events) where
  -- the number that was found is that of a root that is looked at
  pub number_shown : (number : ℕ) (instance : InstanceData) (view : ViewData) → Some number ≡ option_map (λ (root : Root). root.number) (shown_root text events)
      → instance ≡ instance_of (run_data run) number → IsViewOf (passes_over number events) view
      → IsNumbered (ShowsAt run text events) (Some instance)
  number_shown number instance view found is views = (
    Some (record { instance = instance; view = Some view }),
    shows_it run text events number (record { instance = instance; view = Some view }) view lawful found is refl views,
    refl,
  )

  -- and if none was found, no root is shown
  pub none_shown : None ≡ option_map (λ (root : Root). root.number) (shown_root text events) → IsNumbered (ShowsAt run text events) None
  none_shown found = (None, (lawful, by (shown_root text events) found), refl)
    where
      by : (found : Option Root) → None ≡ option_map (λ (root : Root). root.number) found → found ≡ None
      by None is = refl
      by (Some root) is = absurd cc

-- a root that is found by its text is found by its number
pub number_found : (text : List ℕ) (roots : List Root) (root : Root) → find (λ (r : Root). bytes_eq r.text text) roots ≡ Some root
    → list_any (λ (r : Root). r.number == root.number) roots ≡ true
number_found text [] root h = absurd cc
number_found text (r ∷ rs) root h = at (bytes_eq r.text text) refl (λ k. number_found text rs root k)
  where
    either : (c : Bool) → (r.number == root.number) ≡ c → list_any (λ (x : Root). x.number == root.number) rs ≡ true
        → list_any (λ (x : Root). x.number == root.number) (r ∷ rs) ≡ true
    either true f later = rw f refl
    either false f later = rw f later

    at : (b : Bool) → bytes_eq r.text text ≡ b → (find (λ (x : Root). bytes_eq x.text text) rs ≡ Some root → list_any (λ (x : Root). x.number == root.number) rs ≡ true)
        → list_any (λ (x : Root). x.number == root.number) (r ∷ rs) ≡ true
    at true e later =
        let same : r ≡ root = same_Some _ _ (subst (λ c. cond c (Some r) (find (λ (x : Root). bytes_eq x.text text) rs) ≡ Some root) e h) in
        rw (subst (λ (x : Root). (r.number == x.number) ≡ true) same (eq-eqb r.number r.number refl)) refl
    at false e later =
        either (r.number == root.number) refl
        (later (subst (λ c. cond c (Some r) (find (λ (x : Root). bytes_eq x.text text) rs) ≡ Some root) e h))

module _ (run : Run) (events : List RootEvent) (number : ℕ) (at : AtData) (same : number ≡ (at.instance).root) where
  -- the root of a text, at its number
  pub shows_by_number : (text : List ℕ) (shared : Option AtData) → ShowsAt run text events (Some at) → ShowsNumber run number events shared
      → ShowsAt run text events shared
  shows_by_number text None (lawful, (root, is, instance, view, there, views)) (also, hidden) =
      let num : number ≡ root.number = same ∙ ap (λ (i : InstanceData). i.root) instance in
      let there : is_shown events number ≡ true = subst (λ n. is_shown events n ≡ true) (sym num) (number_found text (shown events) root is) in
      absurd (cc (hidden, there))
  shows_by_number text (Some s) (lawful, (root, is, instance, view, there, views)) (also, (found, place, seen, has, of_it)) =
      let num : number ≡ root.number = same ∙ ap (λ (i : InstanceData). i.root) instance in
      (lawful, (root, is, place ∙ ap (instance_of (run_data run)) num, seen, has, subst (λ n. IsViewOf (passes_over n events) seen) num of_it))

module _ (shows : Option AtData → Type 0) where
  -- a root that has a number is looked at
  pub one_shown : (instance : InstanceData) → IsNumbered shows (Some instance) → (at : AtData) × shows (Some at) × (instance ≡ at.instance)
  one_shown instance (None, it, is) = absurd (cc is)
  one_shown instance (Some at, it, is) = (at, it, same_Some _ _ is)

  -- and if there is no number, none is
  pub none_there : IsNumbered shows None → shows None
  none_there (None, it, is) = it
  none_there (Some at, it, is) = absurd (cc is)

-- a fact of each result
pub still_ok : {A B : Type 0} (P Q : A → Type 0) (r : Result A B) → ((a : A) → P a → Q a) → IfOk r P → IfOk r Q
still_ok P Q (Ok a) each is = each a is
still_ok P Q (Err e) each is = tt

-- a fact whatever the result is
pub even_err : {A B : Type 0} (P : Type 0) (r : Result A B) → P → IfErr r (λ _. P)
even_err P (Ok a) is = tt
even_err P (Err e) is = is
