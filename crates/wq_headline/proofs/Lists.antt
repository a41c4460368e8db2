-- Lists of events and of roots: a root by its text and by its number, and the end of a root.
use Rattle.std.proofs.Common.{◌≡◌, ◌==◌, ◌⊎◌, ◌||◌, not, cond, ℕ, Bool, true, false, is_some, List, [], ◌∷◌, ◌++◌, filter, bytes_eq, Option, Some, None, option_map, inl, inr, refl, ap, sym, subst, ◌∙◌}
use mathlib.Core.Bool.{false≢true}
use mathlib.Core.List.{IsPrefix}
use Rattle.std.specs.List.{AllByRecursion, find, list_any}
use Rattle.std.proofs.lemmas.List.Elements.{recursion_from_All}
use Rattle.std.proofs.lemmas.List.Folds.{list_any-append}
use Rattle.std.proofs.lemmas.Option.{same_Some}
use Rattle.std.proofs.lemmas.Bool.{eq-eqb, eqb-true, or_right}
use Rattle.wq_crawl.specs.Publish.{EndsRoot}
use Rattle.wq_live.specs.Event.{Root, has_ended, is_end_of, is_shown, number_of, passes_over, shown, shown_root, started}
use Rattle.wq_live.specs.Table.{IsTableOf, RootView, TableData, has_number, number_by_text, root_by_text, root_of}
use Rattle.wq_live.specs.declared.event.RootEvent.{RootEvent}
use Rattle.wq_live.specs.declared.event.RootEvent.TheVariants.{Ended}
use Rattle.wq_live.proofs.Roots.{any_of_number, root_of_text}
use Rattle.wq_view.specs.View.{IsViewOf}

-- an element that is found has each fact that holds of all
pub found_holds : {X : Type 0} (p : X → Bool) (P : X → Type 0) (xs : List X) (x : X) → find p xs ≡ Some x → AllByRecursion P xs → P x
found_holds p P [] x is all = absurd cc
found_holds p P (y ∷ ys) x is all = by (p y) is (λ later. found_holds p P ys x later all.1)
  where
    by : (b : Bool) → cond b (Some y) (find p ys) ≡ Some x → (find p ys ≡ Some x → P x) → P x
    by true is later = subst P (same_Some _ _ is) all.0
    by false is later = later is

module _ (events : List RootEvent) (table : TableData) (is : IsTableOf events table) where
  -- the root of a text, in the list and in the table
  pub named : (text : List ℕ) → shown_root text events ≡ option_map root_of (root_by_text text table)
  named text = ap (find (λ (root : Root). bytes_eq root.text text)) (sym is.roots) ∙ root_of_text text table.roots

  -- its number
  pub number_by : (text : List ℕ) → number_by_text text table ≡ number_of text events
  number_by text = numbers (root_by_text text table) ∙ sym (ap (option_map (λ (root : Root). root.number)) (named text))
    where
      numbers : (found : Option RootView) → option_map (λ (root : RootView). root.number) found ≡ option_map (λ (root : Root). root.number) (option_map root_of found)
      numbers None = refl
      numbers (Some root) = refl

  -- a number is shown if the table has it
  pub shown_by : (number : ℕ) → is_shown events number ≡ is_some (find (has_number number) table.roots)
  shown_by number = ap (list_any (λ (root : Root). root.number == number)) (sym is.roots) ∙ any_of_number number table.roots

  -- the view of a root that the table has
  pub found_view : (p : RootView → Bool) (root : RootView) → find p table.roots ≡ Some root → IsViewOf (passes_over root.number events) root.view
  found_view p root found =
      found_holds p (λ (root : RootView). IsViewOf (passes_over root.number events) root.view) table.roots root found
      (recursion_from_All (λ (root : RootView). IsViewOf (passes_over root.number events) root.view) table.roots is.views)

-- a root that is found by its text is shown under its number
find_listed : (text : List ℕ) (roots : List Root) (root : Root) → find (λ (root : Root). bytes_eq root.text text) roots ≡ Some root
    → list_any (λ (r : Root). r.number == root.number) roots ≡ true
find_listed text [] root is = absurd cc
find_listed text (r ∷ roots) root is = by (bytes_eq r.text text) is (find_listed text roots root)
  where
    by : (b : Bool) → cond b (Some r) (find (λ (root : Root). bytes_eq root.text text) roots) ≡ Some root
        → (find (λ (root : Root). bytes_eq root.text text) roots ≡ Some root → list_any (λ (r : Root). r.number == root.number) roots ≡ true)
        → list_any (λ (r : Root). r.number == root.number) (r ∷ roots) ≡ true
    by true is later =
        let same : r ≡ root = same_Some _ _ is in
        ap (λ b. b || list_any (λ (r : Root). r.number == root.number) roots)
        (ap (λ (s : Root). s.number == root.number) same ∙ eq-eqb root.number root.number refl)
    by false is later = ap (λ b. (r.number == root.number) || b) (later is) ∙ or_right (r.number == root.number) true refl

shown_there : (text : List ℕ) (events : List RootEvent) (root : Root) → shown_root text events ≡ Some root → is_shown events root.number ≡ true
shown_there text events root is = find_listed text (shown events) root is

-- no root that has ended is shown
gone : (events : List RootEvent) (number : ℕ) (roots : List Root) → has_ended events number ≡ true
    → list_any (λ (r : Root). r.number == number) (filter (λ (r : Root). not (has_ended events r.number)) roots) ≡ false
gone events number [] over = refl
gone events number (r ∷ roots) over = by (r.number == number) (has_ended events r.number) refl refl (gone events number roots over)
  where
    by : (same past : Bool) → (r.number == number) ≡ same → has_ended events r.number ≡ past
        → list_any (λ (r : Root). r.number == number) (filter (λ (r : Root). not (has_ended events r.number)) roots) ≡ false
        → list_any (λ (r : Root). r.number == number)
        (cond (not past) (r ∷ filter (λ (r : Root). not (has_ended events r.number)) roots) (filter (λ (r : Root). not (has_ended events r.number)) roots)) ≡ false
    by same true is ends later = later
    by true false is lives later = absurd (false≢true (sym lives ∙ ap (has_ended events) (eqb-true r.number number is) ∙ over))
    by false false is lives later =
        ap (λ b. b || list_any (λ (r : Root). r.number == number) (filter (λ (r : Root). not (has_ended events r.number)) roots)) is ∙ later

gone_after_end : (events : List RootEvent) (number : ℕ) → is_shown (events ++ Ended number ∷ []) number ≡ false
gone_after_end events number =
    gone (events ++ Ended number ∷ []) number (started (events ++ Ended number ∷ []))
    (list_any-append (is_end_of number) events (Ended number ∷ [])
    ∙ ap (λ b. has_ended events number || (b || false)) (eq-eqb number number refl) ∙ or_right (has_ended events number) true refl)

-- two lists that begin one another are one
begins_both : {A : Type 0} (xs ys : List A) → IsPrefix xs ys → IsPrefix ys xs → ys ≡ xs
begins_both [] [] p q = refl
begins_both [] (y ∷ ys) p q = absurd (cc (q.1))
begins_both (x ∷ xs) [] p q = absurd (cc (p.1))
begins_both (x ∷ xs) (y ∷ ys) p q =
    let rest = begins_both xs ys (p.0, cc (p.1)) (q.0, cc (q.1)) in cc (p.1, rest)

nothing_more : {A : Type 0} (xs ys : List A) → xs ++ ys ≡ [] → xs ≡ []
nothing_more [] ys is = refl
nothing_more (x ∷ xs) ys is = absurd (cc is)

-- between a list and the same with one more there is nothing
between_lists : {A : Type 0} (xs ys : List A) (z : A) → IsPrefix xs ys → IsPrefix ys (xs ++ z ∷ []) → (ys ≡ xs) ⊎ (ys ≡ xs ++ z ∷ [])
between_lists [] [] z p q = inl refl
between_lists [] (y ∷ ys) z p q =
    let rest : ys ≡ [] = nothing_more ys q.0 (cc (q.1)) in
    let first : y ≡ z = cc (q.1) in
    inr (cc (first, rest))
between_lists (x ∷ xs) [] z p q = absurd (cc (p.1))
between_lists (x ∷ xs) (y ∷ ys) z p q = by (cc (p.1)) (between_lists xs ys z (p.0, cc (p.1)) (q.0, cc (q.1)))
  where
    by : x ≡ y → (ys ≡ xs) ⊎ (ys ≡ xs ++ z ∷ []) → (y ∷ ys ≡ x ∷ xs) ⊎ (y ∷ ys ≡ x ∷ xs ++ z ∷ [])
    by heads (inl same) = inl (cc (heads, same))
    by heads (inr same) = inr (cc (heads, same))

-- the list in which a root was shown before its end is the list before that end
pub list_before : (crawler seen left : List RootEvent) (text : List ℕ) (root : Root) (number : ℕ) → number ≡ root.number → IsPrefix crawler seen → IsPrefix seen left
    → EndsRoot crawler number left → shown_root text seen ≡ Some root
    → (seen ≡ crawler) × (is_shown crawler number ≡ true) × (left ≡ crawler ++ Ended number ∷ [])
list_before crawler seen left text root number same begins goes (inl (hidden, kept)) found =
    let is = begins_both crawler seen begins (subst (IsPrefix seen) kept goes) in
    let there = shown_there text crawler root (subst (λ e. shown_root text e ≡ Some root) is found) in
    absurd (false≢true (sym hidden ∙ ap (is_shown crawler) same ∙ there))
list_before crawler seen left text root number same begins goes (inr (there, ends)) found =
    by (between_lists crawler seen (Ended number) begins (subst (IsPrefix seen) ends goes))
  where
    by : (seen ≡ crawler) ⊎ (seen ≡ crawler ++ Ended number ∷ []) → (seen ≡ crawler) × (is_shown crawler number ≡ true) × (left ≡ crawler ++ Ended number ∷ [])
    by (inl is) = (is, there, ends)
    by (inr is) =
        absurd (false≢true (sym (gone_after_end crawler number) ∙ ap (λ e. is_shown e number) (sym is) ∙ ap (is_shown seen) same ∙ shown_there text seen root found))
