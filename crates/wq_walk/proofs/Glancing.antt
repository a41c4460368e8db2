-- The steps of a glance, as the code takes them.
use Rattle.std.proofs.Common.{◌≡◌, ◌-◌, ◌&&◌, ◌==◌, ℕ, suc, false, IsTrue, List, [], ◌∷◌, ◌++◌, All, take, drop, length, get_or, Result, Ok, Err, IfOk, IfSome, Option, Some, slice_get, inl, inr, refl, ap, sym, subst, ◌∙◌}
use Rattle.std.specs.Prelude.{is_ok, nat_le, nat_lt}
use Rattle.std.specs.FinMap.{nat_cmp-IsAntisymmetric}
use Rattle.std.specs.List.{HoldsAt}
use Rattle.std.specs.List.Sorted.{IsSearchInRange}
use Rattle.std.specs.Option.{option_map_or}
use Rattle.std.specs.Ordering.{nat_cmp}
use Rattle.std.specs.declared.cmp.Ordering.TheVariants.{Equal}
use Rattle.std.proofs.lemmas.Bool.{eq-eqb, false≢true}
use Rattle.std.proofs.lemmas.List.Elements.{All-get_or, All-push, All-weaker}
use Rattle.std.proofs.lemmas.Option.{same_Some}
use Rattle.std.proofs.lemmas.Slice.Eq.{bytes_eq-Decides}
use Rattle.wq_view.specs.SeenRows.{seen_row, seen_rows}
use Rattle.wq_view.specs.Below.{is_below}
use Rattle.wq_patch.specs.Recent.{is_one_of_names}
use Rattle.wq_view.specs.Position.{has_name, passes_at}
use Rattle.wq_record.specs.RecordData.{RecordData, record_named}
use Rattle.wq_record.specs.Seen.{SeenData, Stat}
use Rattle.wq_record.specs.declared.kind.Kind.TheVariants.{Dir}
use Rattle.wq_disk.specs.declared.part.Part.{Part}
use Rattle.wq_walk.specs.Glance.{AreGlanceSteps, GlanceEnds, IsGlance, IsGlanceStep, IsGlancedAt, IsUnchanged, ListAll, ListsAt, rows_below}
use Rattle.wq_walk.specs.Listed.{IsPathOf}
use Rattle.wq_walk.specs.Part.{whole_part}
use Rattle.wq_disk.specs.Told.{GivesStat, Has}
use Rattle.wq_disk.specs.Directory.{DirectoryData, IsDone}
use Rattle.wq_walk.specs.Walk.{IsStep, WalkData, name_of_path, row_with_stat, rows_of_file}
use Rattle.wq_walk.specs.Accounts.{IsOneOf}
use Rattle.wq_walk.proofs.Accounts.{any_left, any_right}
use Rattle.wq_walk.proofs.BelowRun.{rows_of_run}

-- the place of a glance
abbrev place : List DirectoryData → DirectoryData → List SeenData → WalkData
place above here rows = record { above = above; here = here; rows = rows }

-- no steps lead from a glance to its own place
pub begins : (says : GivesStat) (has : Has) (records : List RecordData) (asked : List (List ℕ)) (root_len : ℕ) (before : WalkData)
    → (steps : ℕ) × AreGlanceSteps says has records asked root_len steps before before
unfolding AreGlanceSteps
begins says has records asked root_len before = (0, refl)

-- a glance without a next step has ended
pub ended : (says : GivesStat) (has : Has) (records : List RecordData) (asked : List (List ℕ)) (root_len : ℕ) (before now : WalkData) (above : List DirectoryData) (here : DirectoryData) (rows : List SeenData)
    → ((steps : ℕ) × AreGlanceSteps says has records asked root_len steps before now)
    → IsDone here × (place above here rows ≡ now) × (above ≡ [])
    → GlanceEnds says has records asked root_len before rows
ended says has records asked root_len before now above here rows (steps, leads) (done, same, none) =
    (steps, here, subst (λ (w : WalkData). AreGlanceSteps says has records asked root_len steps before w) (sym same ∙ ap (λ above. place above here rows) none) leads, done)

-- a glance with a next step
pub further : (says : GivesStat) (has : Has) (records records' : List RecordData) (asked asked' : List (List ℕ)) (root_len root_len' : ℕ) (before mid after : WalkData)
    → records ≡ records' → asked ≡ asked' → root_len ≡ root_len'
    → ((steps : ℕ) × AreGlanceSteps says has records' asked' root_len' steps before mid)
    → IsGlanceStep says has records asked root_len mid after
    → (steps : ℕ) × AreGlanceSteps says has records' asked' root_len' steps before after
unfolding AreGlanceSteps
further says has records records' asked asked' root_len root_len' before mid after a q b (steps, leads) step =
    (suc steps, (mid, leads, subst (λ rs. IsGlanceStep says has rs asked' root_len' mid after) a (subst (λ names. IsGlanceStep says has records names root_len' mid after) q (subst (λ r. IsGlanceStep says has records asked r mid after) b step))))

-- a step of a walk of the whole tree is one of a glance
pub walks : (says : GivesStat) (has : Has) (records : List RecordData) (asked : List (List ℕ)) (root_len : ℕ) (part : Part) (before after : WalkData)
    → part ≡ whole_part → IsStep says has root_len part before after → IsGlanceStep says has records asked root_len before after
walks says has records asked root_len part before after is step = inl (subst (λ p. IsStep says has root_len p before after) is step)

-- to keep what a view has below the next directory that waits is one too
pub keeps : (says : GivesStat) (has : Has) (records : List RecordData) (asked : List (List ℕ)) (root_len root_len' : ℕ) (above above' : List DirectoryData) (first next : DirectoryData) (name path : List ℕ) (start end : ℕ) (old new : List SeenData)
    → (first.waiting ≡ next.waiting ++ (name ∷ [])) × (first.path ≡ next.path) × (first.left ≡ next.left)
    → above' ≡ above → root_len' ≡ root_len → path ≡ next.path ++ name
    → IsUnchanged records old (name_of_path root_len' path)
    → is_one_of_names asked (name_of_path root_len' path) ≡ false
    → ((i : ℕ) → passes_at (is_below (name_of_path root_len' path)) records i ≡ (nat_le start i && nat_lt i end))
    → new ≡ old ++ seen_rows (take (end - start) (drop start records))
    → IsGlanceStep says has records asked root_len (record { above = above; here = first; rows = old }) (record { above = above'; here = next; rows = new })
keeps says has records asked root_len root_len' above above' first next name path start end old new (waiting, at, left) same len is known unasked exact added = inr (
  name,
  next.waiting,
  waiting,
  subst (IsUnchanged records old) named known,
  ap (is_one_of_names asked) (sym named) ∙ unasked,
  λ i. record { above = same i; here = here i; rows = (added ∙ rows) i },
)
  where
    named : name_of_path root_len' path ≡ name_of_path root_len (first.path ++ name)
    named = (λ i. name_of_path (len i) ((is ∙ ap (λ p. p ++ name) (sym at)) i))

    here : next ≡ record { path = first.path; left = first.left; waiting = next.waiting }
    here = λ i. record { path = sym at i; left = sym left i; waiting = next.waiting }

    rows : old ++ seen_rows (take (end - start) (drop start records)) ≡ old ++ rows_below (name_of_path root_len (first.path ++ name)) records
    rows = ap (λ rs. old ++ rs) (sym (rows_of_run (name_of_path root_len' path) records start end exact) ∙ ap (λ n. rows_below n records) named)

-- what is listed stays so if rows come
pub still_listed : (records : List RecordData) (rows more : List SeenData) (places : List ℕ) → ListAll records rows places → ListAll records (rows ++ more) places
still_listed records rows more places listed =
    All-weaker (ListsAt records rows) (ListsAt records (rows ++ more)) (λ place (known, at, one). (known, at, any_left (λ (row : SeenData). row ≡ seen_row known) rows more one)) places listed

-- so does what is listed at the places that were noted
pub listed_more : (records : List RecordData) (old new more : List SeenData) (places places' : List ℕ)
    → new ≡ old ++ more → places' ≡ places → ListAll records old places → ListAll records new places'
listed_more records old new more places places' added same listed =
    subst (ListAll records new) (sym same) (subst (λ rows. ListAll records rows places) (sym added) (still_listed records old more places listed))

-- a fact of what is given
pub of_given : {A : Type 0} (P : A → Type 0) (given : Option A) (a : A) → given ≡ Some a → IfSome given P → P a
of_given P given a is holds = subst (λ o. IfSome o P) is holds

-- the row that was listed last is listed
pub listed_last : (part : Part) (name : List ℕ) (stat : Stat) (old new : List SeenData) → part ≡ whole_part → new ≡ old ++ rows_of_file part name stat
    → IsOneOf (row_with_stat name stat) new
listed_last part name stat old new whole is =
    subst (IsOneOf (row_with_stat name stat)) (sym (is ∙ ap (λ p. old ++ rows_of_file p name stat) whole))
    (any_right (λ (row : SeenData). row ≡ row_with_stat name stat) old (row_with_stat name stat ∷ []) (inl refl))

-- the record that a look-up finds has the name
pub found_name : (name : List ℕ) (records : List RecordData) (at : ℕ) (known : RecordData)
    → ((i : ℕ) → passes_at (has_name name) records i ≡ (i == at)) → slice_get records at ≡ Some known → known.name ≡ name
found_name name records at known only is =
    (bytes_eq-Decides known.name name).0 (sym (ap (λ o. option_map_or (has_name name) o false) is) ∙ only at ∙ eq-eqb at at refl)

-- a directory is noted if its record says what was listed
pub noted : (records : List RecordData) (rows : List SeenData) (places : List ℕ) (at : ℕ) (known : RecordData) (name : List ℕ) (stat : Stat)
    → ListAll records rows places → slice_get records at ≡ Some known → known.name ≡ name → seen_row known ≡ row_with_stat known.name stat
    → IsOneOf (row_with_stat name stat) rows → ListAll records rows (places ++ (at ∷ []))
noted records rows places at known name stat listed is named same one =
    All-push (ListsAt records rows) places at listed
    (known, is, subst (λ (row : SeenData). IsOneOf row rows) (sym (same ∙ ap (λ n. row_with_stat n stat) named)) one)

-- what was listed of the record that a look-up finds
pub unchanged : (records : List RecordData) (rows : List SeenData) (name : List ℕ) (at : ℕ) (known : RecordData)
    → slice_get records at ≡ record_named name records → slice_get records at ≡ Some known → IsTrue known.exists → known.kind ≡ Dir
    → ListsAt records rows at → IsUnchanged records rows name
unchanged records rows name at known found is exists kind (other, is_other, one) =
    (known, sym found ∙ is, exists, kind, subst (λ (r : RecordData). IsOneOf (seen_row r) rows) (same_Some other known (sym is_other ∙ is)) one)

-- a place that a search finds was noted
pub noted_at : (P : ℕ → Type 0) (places : List ℕ) (at : ℕ) (found : Result ℕ ℕ) → All P places
    → IsSearchInRange found (length places) → IfOk found (HoldsAt (λ y. nat_cmp y at ≡ Equal) places)
    → IsTrue (is_ok found) → P at
noted_at P places at (Ok i) all bound is ok =
    subst P (nat_cmp-IsAntisymmetric (get_or places i 0) at (is 0)) (All-get_or P places i 0 bound all)
noted_at P places at (Err i) all bound is ok = absurd (false≢true ok)

-- the listing of what a glance at a root's path found
pub glanced_at : {A E : Type 0} (items : A → List SeenData) (says : GivesStat) (has : Has) (records : List RecordData) (asked : List (List ℕ)) (root path : List ℕ) (found : List SeenData) (result : Result A E)
    → IsPathOf root path → IsGlance says has records asked path found → IfOk result (λ rows. items rows ≡ found)
    → IfOk result (λ rows. IsGlancedAt says has records asked root (items rows))
glanced_at items says has records asked root path found (Ok rows) at glance is = (path, at, subst (λ rs. IsGlance says has records asked path rs) (sym is) glance)
glanced_at items says has records asked root path found (Err fault) at glance is = tt
