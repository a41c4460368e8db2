-- The roots of tables, as sessions look at them.
use Rattle.std.proofs.Common.{◌≡◌, ◌==◌, ℕ, ◌+◌, ◌≤◌, ◌<◌, Bool, true, false, cond, not, suc, zero, List, find, filter, length, drop, get_or, arith, sym, subst, [], ◌∷◌, map, Option, Some, None, option_map, refl, ap, ◌∙◌, IfOk, MatchOption, Result, Ok}
use Rattle.wq_clock.specs.Instance.{InstanceData}
use Rattle.wq_live.specs.Event.{Root, has_ended, started}
use Rattle.std.specs.List.{AllByRecursion, range_with_len}
use Rattle.std.proofs.lemmas.Option.{same_Some}
use Rattle.std.proofs.lemmas.Bool.{eqb-true}
use Rattle.wq_live.specs.Table.{IsTableOf, RootView, TableData, has_number, root_of}
use Rattle.wq_live.specs.declared.event.RootEvent.{RootEvent}
use Rattle.wq_crawl.specs.At.{AtData}
use Rattle.wq_view.specs.View.{ViewData}
use Rattle.wq_clock.specs.Run.{RunData, instance_of}
use Rattle.wq_crawl.specs.Meets.{at_root}

-- the root that is looked at, of its parts
abbrev pub at_data_of : InstanceData → Option ViewData → AtData
at_data_of instance view = record { instance = instance; view = view }

-- a root that is found by its number and its view is the one that is looked at
pub at_found : (mine : RunData) (found : Option RootView) (number : ℕ) (view : ViewData) (instance : InstanceData)
    → Some number ≡ option_map (λ (r : RootView). r.number) found → Some view ≡ option_map (λ (r : RootView). r.view) found
    → instance ≡ instance_of mine number → Some (at_data_of instance (Some view)) ≡ option_map (at_root mine) found
at_found mine None number view instance numbered viewed is = absurd cc
at_found mine (Some r) number view instance numbered viewed is =
    let n : number ≡ r.number = same_Some _ _ numbered in
    let v : view ≡ r.view = same_Some _ _ viewed in
    ap (λ i. Some (at_data_of i (Some view))) (is ∙ ap (instance_of mine) n)
    ∙ ap (λ v. Some (at_data_of (instance_of mine r.number) (Some v))) v

-- roots that were numbered one after the other have no number past the last one
known_started : (roots : List Root) (a n limit : ℕ) → a + n ≤ 1 + limit → map (λ (root : Root). root.number) roots ≡ range_with_len a n
    → AllByRecursion (λ (root : Root). root.number ≤ limit) roots
known_started [] a n limit fits is = tt
known_started (r ∷ roots) a zero limit fits is = absurd cc
known_started (r ∷ roots) a (suc n) limit fits is =
    let first : r.number ≡ a = ap (λ (l : List ℕ). get_or l 0 0) is in
    let later : map (λ (root : Root). root.number) roots ≡ range_with_len (a + 1) n = ap (drop 1) is in
    (omega (arith, fits, first), known_started roots (a + 1) n limit (omega (arith, fits)) later)

-- and neither have those of them that pass a test
known_filtered : (limit : ℕ) (test : Root → Bool) (roots : List Root) → AllByRecursion (λ (root : Root). root.number ≤ limit) roots
    → AllByRecursion (λ (root : Root). root.number ≤ limit) (filter test roots)
known_filtered limit test [] all = tt
known_filtered limit test (r ∷ roots) all = by (test r) (known_filtered limit test roots all.1)
  where
    by : (b : Bool) → AllByRecursion (λ (root : Root). root.number ≤ limit) (filter test roots)
        → AllByRecursion (λ (root : Root). root.number ≤ limit) (cond b (r ∷ filter test roots) (filter test roots))
    by true later = (all.0, later)
    by false later = later

known_views : (limit : ℕ) (roots : List RootView) → AllByRecursion (λ (root : Root). root.number ≤ limit) (map root_of roots)
    → AllByRecursion (λ (r : RootView). r.number ≤ limit) roots
known_views limit [] all = tt
known_views limit (r ∷ roots) all = (all.0, known_views limit roots all.1)

-- the numbers of the roots of a table were given
roots_known : (events : List RootEvent) (table : TableData) → IsTableOf events table
    → AllByRecursion (λ (r : RootView). r.number ≤ table.given) table.roots
roots_known events table is =
    let bound : 1 + length (started events) ≤ 1 + table.given = omega (arith, is.given) in
    let all = known_started (started events) 1 (length (started events)) table.given bound (is.lawful).numbers in
    known_views table.given table.roots
    (subst (λ (roots : List Root). AllByRecursion (λ (root : Root). root.number ≤ table.given) roots) (sym is.roots)
    (known_filtered table.given (λ (root : Root). not (has_ended events root.number)) (started events) all))

-- the root that is found by its number has it
pub numbered_found : (number : ℕ) (roots : List RootView)
    → option_map (λ (r : RootView). r.number) (find (has_number number) roots) ≡ option_map (λ (r : RootView). number) (find (has_number number) roots)
numbered_found number [] = refl
numbered_found number (r ∷ roots) = by (r.number == number) refl (numbered_found number roots)
  where
    by : (b : Bool) → (r.number == number) ≡ b
        → option_map (λ (r : RootView). r.number) (find (has_number number) roots) ≡ option_map (λ (r : RootView). number) (find (has_number number) roots)
        → option_map (λ (r : RootView). r.number) (cond b (Some r) (find (has_number number) roots))
        ≡ option_map (λ (r : RootView). number) (cond b (Some r) (find (has_number number) roots))
    by true is later = ap Some (eqb-true r.number number is)
    by false is later = later

-- a root that is found by this number is the one that is looked at
pub at_numbered : (mine : RunData) (number : ℕ) (found : Option RootView) (view : ViewData) (instance : InstanceData)
    → option_map (λ (r : RootView). r.number) found ≡ option_map (λ (r : RootView). number) found
    → Some view ≡ option_map (λ (r : RootView). r.view) found → instance ≡ instance_of mine number
    → Some (at_data_of instance (Some view)) ≡ option_map (at_root mine) found
at_numbered mine number None view instance same viewed is = absurd cc
at_numbered mine number (Some r) view instance same viewed is = at_found mine (Some r) number view instance (sym same) viewed is

none_past : (number given : ℕ) (roots : List RootView) → given < number → AllByRecursion (λ (r : RootView). r.number ≤ given) roots
    → find (has_number number) roots ≡ None
none_past number given [] past all = refl
none_past number given (r ∷ roots) past all = by (r.number == number) refl (none_past number given roots past all.1)
  where
    by : (b : Bool) → (r.number == number) ≡ b → find (has_number number) roots ≡ None
        → cond b (Some r) (find (has_number number) roots) ≡ None
    by true is later = let same = eqb-true r.number number is in absurd (omega (arith, past, all.0, same))
    by false is later = later

-- no root has a number that was not given yet
pub at_past : (mine : RunData) (number : ℕ) (events : List RootEvent) (table : TableData) → IsTableOf events table
    → table.given < number → None ≡ option_map (at_root mine) (find (has_number number) table.roots)
at_past mine number events table is past =
    sym (ap (option_map (at_root mine)) (none_past number table.given table.roots past (roots_known events table is)))

-- a fact about an option that was given
pub given_some : {X E : Type 0} (A : Type 0) (B : X → Type 0) (result : Result (Option X) E) (field : Option X) (x : X) → result ≡ Ok field
    → field ≡ Some x → IfOk result (λ next. MatchOption next A B) → B x
given_some A B result field x is some holds =
    subst (λ f. MatchOption f A B) some (subst (λ r. IfOk r (λ next. MatchOption next A B)) is holds)
