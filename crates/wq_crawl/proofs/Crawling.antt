-- The result for a root that was listed and then published.
use Rattle.std.proofs.Common.{◌≡◌, ◌≤◌, ℕ, ℤ, Bool, true, false, cond, List, [], ◌∷◌, length, find, Option, Some, None, option_map, Result, Ok, Err, IfOk, IsTrue, MatchResult, Vec, inr, sym, refl, ap, subst, ◌∙◌}
use Rattle.std.specs.List.{All, AllByRecursion, list_all}
use Rattle.std.proofs.lemmas.List.Elements.{recursion_from_All}
use Rattle.std.proofs.lemmas.Option.{same_Some}
use Rattle.wq_live.specs.Event.{passes_over}
use Rattle.wq_live.specs.Table.{IsTableOf, RootView, TableData, has_text, number_by_text, root_by_text}
use Rattle.wq_view.specs.Limit.{max_listing_rows}
use Rattle.std.specs.declared.alloc.Global.{Global}
use Rattle.wq_record.specs.RecordData.{RecordData}
use Rattle.wq_record.specs.Seen.{SeenData, is_count, is_lawful_row}
use Rattle.wq_view.specs.Patch.{patched}
use Rattle.wq_view.specs.Patching.{ArePatches}
use Rattle.wq_view.specs.declared.patch.Patch.{Patch}
use Rattle.wq_view.specs.Change.{pass_by}
use Rattle.wq_view.specs.View.{IsViewOf, NamesRise, ViewData}
use Rattle.wq_view.specs.declared.listing.PassFault.{PassFault}
use Rattle.wq_patch.specs.declared.tree.Listing.{Listing}
use Rattle.wq_patch.specs.declared.tree.Listing.TheVariants.{Rows, Patches}
use Rattle.wq_patch.specs.declared.tree.TreeFault.{TreeFault}
use Rattle.wq_crawl.specs.declared.relisted.Relisted.TheVariants.{Patched}
use Rattle.wq_patch.specs.Tree.{AreLawful, IsFew, ListingFits, ListedData, Lists, rows_given_again, rows_listed}
use Rattle.wq_patch.specs.Device.{Gave}
use Rattle.wq_live.specs.declared.event.RootEvent.{RootEvent}
use Rattle.wq_view.specs.Listing.{PassData, is_of_whole, listing_fault, listing_of}
use Rattle.wq_crawl.specs.declared.fault.CrawlFault.{CrawlFault}
use Rattle.wq_crawl.specs.declared.fault.CrawlFault.TheVariants.{NoMemory, Pass as NoPass}
use Rattle.wq_crawl.specs.Crawl.{Began, CrawledAt, CrawlerData, IsNoPassOver, IsOfRows, IsPassOver, IsRelisted, ListsAgain}
use Rattle.wq_crawl.specs.Publish.{IsNotTakenIn, Passes, with_start}

-- what a search finds passes a test of all
found_passes : {A : Type 0} (P : A → Type 0) (test : A → Bool) (xs : List A) (x : A) → All P xs → find test xs ≡ Some x → P x
found_passes P test xs x all is = at xs (recursion_from_All P xs all) is
  where
    at : (xs : List _) → AllByRecursion P xs → find test xs ≡ Some x → P x
    at [] all is = absurd (cc)
    at (y ∷ ys) all is = by (test y) (at ys all.1) is
      where
        by : (b : Bool) → (find test ys ≡ Some x → P x) → cond b (Some y) (find test ys) ≡ Some x → P x
        by true later is = subst P (same_Some y x is) all.0
        by false later is = later is

-- a table shows the view of the passes over a root
pub view_at : (events : List RootEvent) (table : TableData) (text : List ℕ) (number : ℕ) (view : ViewData) → IsTableOf events table
    → Some number ≡ number_by_text text table → Some view ≡ option_map (λ root. root.view) (root_by_text text table)
    → IsViewOf (passes_over number events) view
view_at events table text number view of number_is view_is = at (root_by_text text table) refl number_is view_is
  where
    at : (found : Option RootView) → root_by_text text table ≡ found → Some number ≡ option_map (λ root. root.number) found
        → Some view ≡ option_map (λ root. root.view) found → IsViewOf (passes_over number events) view
    at None is n v = absurd (cc)
    at (Some root) is n v =
        let one = found_passes (λ (root : RootView). IsViewOf (passes_over root.number events) root.view) (has_text text) table.roots root of.views is in
        subst (λ n. IsViewOf (passes_over n events) view) (sym (same_Some number root.number n))
        (subst (λ v. IsViewOf (passes_over root.number events) v) (sym (same_Some view root.view v)) one)

-- a tree that listed a root with this view
pub lists_again : (number : ℕ) (text : List ℕ) (before after : CrawlerData) (view : ViewData) (result : Result Listing TreeFault)
    → IsViewOf (passes_over number before.events) view
    → IfOk result (λ listing. IsTrue (list_all is_lawful_row (rows_listed view.records listing)))
    → IfOk result (IsFew view.records) → IfOk result (ListingFits view.records) → Lists before.listed text (rows_given_again view.records result) after.listed
    → MatchResult result (λ listing. ListsAgain number text before listing after) (λ fault. Lists before.listed text (Err fault) after.listed)
lists_again number text before after view (Ok (Rows rows)) is_view lawful few fit lists = (lists, lawful)
lists_again number text before after view (Ok (Patches patches)) is_view lawful few fit lists = (view, is_view, lists, record { fit = fit; lawful = lawful }, few)
lists_again number text before after view (Err fault) is_view lawful few fit lists = lists

-- rows that are lawful beside a view are lawful
pub lawful_rows : (records : List RecordData) (result : Result Listing TreeFault) → IfOk result (λ listing. IsTrue (list_all is_lawful_row (rows_listed records listing)))
    → IfOk result AreLawful
lawful_rows records (Ok (Rows rows)) lawful = lawful
lawful_rows records (Ok (Patches patches)) lawful = tt
lawful_rows records (Err fault) lawful = tt

-- a pass of rows that were listed
of_rows : (before after : Option (ℕ × ListedData)) (text : List ℕ) (rows : List SeenData) (second : ℤ) → Lists before text (Ok rows) after
    → listing_fault rows second ≡ None → IsOfRows before text (listing_of rows second) after
of_rows before None text rows second lists lawful = tt
of_rows before (Some after) text rows second lists lawful = (rows, lists, lawful, refl)

-- a root that was listed, and then the clock was asked
module _ (number : ℕ) (text : List ℕ) (before begun mid shown : CrawlerData) (clock : Option (ℕ × ℤ)) (second : ℤ)
    (kept : begun ≡ before) (is : shown ≡ mid) (waited : mid.clock ≡ begun.clock) (gave : Gave shown.clock second clock) where
  gave_then : Gave before.clock second clock
  gave_then = subst (λ k. Gave k second clock) (ap (λ (c : CrawlerData). c.clock) is ∙ waited ∙ ap (λ (c : CrawlerData). c.clock) kept) gave

  lists_then : (rows : List SeenData) → Lists begun.listed text (Ok rows) mid.listed → Lists before.listed text (Ok rows) shown.listed
  lists_then rows lists =
      subst (λ l. Lists before.listed text (Ok rows) l) (sym (ap (λ (c : CrawlerData). c.listed) is))
      (subst (λ l. Lists l text (Ok rows) mid.listed) (ap (λ (c : CrawlerData). c.listed) kept) lists)

  -- it gave rows, and they make a pass
  pub rows_over : (rows : List SeenData) (pass : PassData) → Lists begun.listed text (Ok rows) mid.listed → listing_fault rows second ≡ None
      → pass ≡ listing_of rows second → IsPassOver text before pass (record shown { clock = clock })
  rows_over rows pass lists lawful made =
      subst (λ p. IsPassOver text before p (record shown { clock = clock })) (sym made)
      (of_rows before.listed shown.listed text rows second (lists_then rows lists) lawful, gave_then)

  -- it gave rows that make no pass
  pub rows_fault : (rows : List SeenData) (why : PassFault) → Lists begun.listed text (Ok rows) mid.listed → IsTrue (list_all is_lawful_row rows)
      → IsTrue (is_of_whole why) → listing_fault rows second ≡ Some why → IsNoPassOver text before (NoPass why) (record shown { clock = clock })
  rows_fault rows why lists lawful whole fault = inr (rows, second, why, lists_then rows lists, gave_then, lawful, whole, fault, refl)

  -- the files differ by patches from those of the view
  pub patches_over : (patches : Vec Patch Global) → ListsAgain number text begun (Patches patches) mid
      → ((records : List RecordData) (ps : List Patch) → NamesRise records → ArePatches records ps → IsTrue (list_all is_lawful_row (patched records ps))
      → length (patched records ps) ≤ max_listing_rows → None ≡ listing_fault (patched records ps) second)
      → IsTrue (is_count second) → IsRelisted number text before (Patched patches second) (record shown { clock = clock })
  patches_over patches (view, is_view, lists, make, few) fault in_range = (
    view,
    subst (λ (c : CrawlerData). IsViewOf (passes_over number c.events) view) kept is_view,
    rows_over (patched view.records patches.items) (pass_by view.records patches.items second) lists (sym (fault view.records patches.items is_view.ordered make.fit make.lawful few)) refl,
    make,
    in_range,
  )

  -- the same if the pass has a fault
  pub patches_fault : (patches : Vec Patch Global) (why : PassFault) → ListsAgain number text begun (Patches patches) mid → IsTrue (is_of_whole why)
      → ((records : List RecordData) (ps : List Patch) → NamesRise records → ArePatches records ps → IsTrue (list_all is_lawful_row (patched records ps))
      → length (patched records ps) ≤ max_listing_rows → Some why ≡ listing_fault (patched records ps) second)
      → IsNoPassOver text before (NoPass why) (record shown { clock = clock })
  patches_fault patches why (view, is_view, lists, make, few) whole fault =
      rows_fault (patched view.records patches.items) why lists make.lawful whole (sym (fault view.records patches.items is_view.ordered make.fit make.lawful few))

module _ (text : List ℕ) (before mid after : CrawlerData) (pass : PassData) where
  -- a pass over a root remains one if nothing more is listed, and the clock is not asked again
  still : IsPassOver text before pass mid → after.listed ≡ mid.listed → after.clock ≡ mid.clock → IsPassOver text before pass after
  still (rows, second) listed clock =
      (subst (IsOfRows before.listed text pass) (sym listed) rows, subst (Gave before.clock pass.second) (sym clock) second)

  -- a root that is shown
  pub crawled_at : (number : ℕ) (result : Result (List RootEvent) CrawlFault) → mid.events ≡ before.events → IsPassOver text before pass mid
      → after.listed ≡ mid.listed → after.clock ≡ mid.clock
      → MatchResult result (λ told. (told ≡ after.events) × Passes mid.events number pass after.events)
      (λ fault. (after.events ≡ mid.events) × IsNotTakenIn mid.events number pass fault) → CrawledAt number text before result after
  crawled_at number (Ok told) kept over listed second (same, passes) =
      (same, pass, still over listed second, subst (λ l. Passes l number pass after.events) kept passes)
  crawled_at number (Err fault) kept over listed second (is, why) =
      (is ∙ kept, inr (pass, still over listed second, subst (λ l. IsNotTakenIn l number pass fault) kept why))

  -- a root that is not shown
  pub began : (result : Result (List RootEvent) CrawlFault) → mid.events ≡ before.events → IsPassOver text before pass mid
      → after.listed ≡ mid.listed → after.clock ≡ mid.clock
      → MatchResult result (λ told. (told ≡ after.events) × (after.events ≡ with_start text pass mid.events))
      (λ fault. (after.events ≡ mid.events) × (fault ≡ NoMemory)) → IsTrue after.whole → Began text before result after
  began (Ok told) kept over listed second (same, added) whole = (same, pass, still over listed second, added ∙ ap (with_start text pass) kept, whole)
  began (Err fault) kept over listed second (is, lacking) whole = (is ∙ kept, inr lacking)

-- a root over which a pass in patches was published
pub patched_at : (number : ℕ) (text : List ℕ) (before mid after : CrawlerData) (result : Result (List RootEvent) CrawlFault) (patches : Vec Patch Global) (given : List Patch) (second z : ℤ)
    → mid.events ≡ before.events → IsRelisted number text before (Patched patches second) mid → after.listed ≡ mid.listed → after.clock ≡ mid.clock
    → given ≡ patches.items → z ≡ second
    → ((view : ViewData) → IsViewOf (passes_over number mid.events) view → MatchResult result
    (λ told. (told ≡ after.events) × Passes mid.events number (pass_by view.records given z) after.events)
    (λ fault. (after.events ≡ mid.events) × IsNotTakenIn mid.events number (pass_by view.records given z) fault))
    → CrawledAt number text before result after
patched_at number text before mid after result patches given second z kept (view, is_view, over, make, in_range) listed clock same at published =
    let of = subst (λ events. IsViewOf (passes_over number events) view) (sym kept) is_view in
    let pass_is : pass_by view.records given z ≡ pass_by view.records patches.items second = ap (λ ps. pass_by view.records ps z) same ∙ ap (pass_by view.records patches.items) at in
    crawled_at text before mid after (pass_by view.records patches.items second) number result kept over listed clock
    (subst (λ (pass : PassData). MatchResult result (λ told. (told ≡ after.events) × Passes mid.events number pass after.events) (λ fault. (after.events ≡ mid.events) × IsNotTakenIn mid.events number pass fault)) pass_is (published view of))
