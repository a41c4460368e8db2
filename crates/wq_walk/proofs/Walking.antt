-- The steps of a walk, as the code takes them.
use Rattle.std.proofs.Common.{◌≡◌, ℕ, suc, Bool, false, List, [], ◌∷◌, ◌++◌, inl, refl, ap, sym, subst, ◌∙◌, if◌then◌else◌, append-nil, Option, Some, None, MatchOption}
use Rattle.std.proofs.lemmas.Option.{none-some}
use Rattle.std.specs.Str.{byte}
use Rattle.wq_record.specs.Seen.{SeenData}
use Rattle.wq_disk.specs.declared.part.Part.{Part}
use Rattle.wq_disk.specs.Told.{GivesStat, Has, HasEntries}
use Rattle.wq_disk.specs.Directory.{DirectoryData, IsDone, fresh}
use Rattle.wq_walk.specs.Walk.{AreSteps, Enters, IsLooked, IsPassedOver, IsStep, LooksAtName, WalkData, WalkEnds, after_look, name_of_path}

-- the place of a walk
abbrev walk : List DirectoryData → DirectoryData → List SeenData → WalkData
walk above here rows = record { above = above; here = here; rows = rows }

-- a path that is made of two parts
pub path_of : (path front front' back back' : List ℕ) → path ≡ front ++ back → front ≡ front' → back ≡ back' → path ≡ front' ++ back'
path_of path front front' back back' is a b = is ∙ (λ i. a i ++ b i)

-- the facts if nothing is seen
pub unseen : {X A : Type 0} (B : X → Type 0) (seen : Option X) → seen ≡ None → MatchOption seen A B → A
unseen B None is at = at
unseen B (Some x) is at = absurd (none-some x (sym is))

-- a file that is passed over adds no row
pub passed_over : (says : GivesStat) (root_len : ℕ) (part : Part) (path : List ℕ) (rows : List SeenData)
    → IsPassedOver says part path (name_of_path root_len path)
    → (added : List SeenData) × IsLooked says root_len part path added false × (rows ≡ rows ++ added)
passed_over says root_len part path rows over = ([], inl (over, refl, refl), sym (append-nil rows))

-- the result at a path is the result at an equal path
pub found_at : (says : GivesStat) (root_len root_len' : ℕ) (part : Part) (path path' : List ℕ) (enters enters' : Bool) (old new : List SeenData)
    → root_len ≡ root_len' → path ≡ path' → enters ≡ enters'
    → ((rows : List SeenData) × IsLooked says root_len part path rows enters × (new ≡ old ++ rows))
    → (rows : List SeenData) × IsLooked says root_len' part path' rows enters' × (new ≡ old ++ rows)
found_at says root_len root_len' part path path' enters enters' old new a b c found =
    subst (λ e. (rows : List SeenData) × IsLooked says root_len' part path' rows e × (new ≡ old ++ rows)) c
    (subst (λ p. (rows : List SeenData) × IsLooked says root_len' part p rows enters × (new ≡ old ++ rows)) b
    (subst (λ r. (rows : List SeenData) × IsLooked says r part path rows enters × (new ≡ old ++ rows)) a found))

-- a directory was read at an equal path
pub read_at : (has : Has) (path path' : List ℕ) (names : List (List ℕ)) → path ≡ path' → HasEntries has path names → HasEntries has path' names
read_at has path path' names is read = subst (λ p. HasEntries has p names) is read

-- a look at the next name of a directory is a step
pub looks : (says : GivesStat) (root_len : ℕ) (part : Part) (above above' : List DirectoryData) (first next last : DirectoryData) (name : List ℕ) (old new : List SeenData)
    → (first.left ≡ next.left ++ (name ∷ [])) × (first.path ≡ next.path) × (first.waiting ≡ next.waiting)
    → above' ≡ above
    → ((rows : List SeenData) × (enters : Bool) × IsLooked says root_len part (next.path ++ name) rows enters × (new ≡ old ++ rows) × (last ≡ after_look next next.left name enters))
    → LooksAtName says root_len part (record { above = above; here = first; rows = old }) (record { above = above'; here = last; rows = new })
looks says root_len part above above' first next last name old new (left, path, waiting) same (rows, enters, look, added, is) = (
  name,
  next.left,
  rows,
  enters,
  left,
  subst (λ p. IsLooked says root_len part (p ++ name) rows enters) (sym path) look,
  λ i. record { above = same i; here = (is ∙ here) i; rows = added i },
)
  where
    here : after_look next next.left name enters ≡ after_look first next.left name enters
    here = λ i. record { path = sym path i; left = next.left; waiting = if enters then sym waiting i ++ (name ∷ []) else sym waiting i }

-- to enter the next directory that waits is a step
pub enters : (has : Has) (above above' : List DirectoryData) (first next last : DirectoryData) (name : List ℕ) (old new : List SeenData)
    → (first.waiting ≡ next.waiting ++ (name ∷ [])) × (first.path ≡ next.path) × (first.left ≡ next.left)
    → above' ≡ above ++ (next ∷ []) → new ≡ old
    → ((names : List (List ℕ)) × HasEntries has (next.path ++ name) names × (last ≡ fresh (next.path ++ name ++ (byte "/" ∷ [])) names))
    → Enters has (record { above = above; here = first; rows = old }) (record { above = above'; here = last; rows = new })
enters has above above' first next last name old new (waiting, path, left) pushed same (names, read, is) = (
  name,
  next.waiting,
  names,
  waiting,
  subst (λ p. HasEntries has (p ++ name) names) (sym path) read,
  λ i. record { above = (pushed ∙ kept) i; here = (is ∙ here) i; rows = same i },
)
  where
    kept : above ++ (next ∷ []) ≡ above ++ (record { path = first.path; left = first.left; waiting = next.waiting } ∷ [])
    kept = λ i. above ++ (record { path = sym path i; left = sym left i; waiting = next.waiting } ∷ [])

    here : fresh (next.path ++ name ++ (byte "/" ∷ [])) names ≡ fresh (first.path ++ name ++ (byte "/" ∷ [])) names
    here = λ i. fresh (sym path i ++ name ++ (byte "/" ∷ [])) names

-- no steps lead from a walk to its own place
pub begins : (says : GivesStat) (has : Has) (root_len : ℕ) (part : Part) (before : WalkData) → (steps : ℕ) × AreSteps says has root_len part steps before before
unfolding AreSteps
begins says has root_len part before = (0, refl)

-- a walk without a next step has ended
pub ended : (says : GivesStat) (has : Has) (root_len : ℕ) (part : Part) (before now : WalkData) (above : List DirectoryData) (here : DirectoryData) (rows : List SeenData)
    → ((steps : ℕ) × AreSteps says has root_len part steps before now)
    → IsDone here × (walk above here rows ≡ now) × (above ≡ [])
    → WalkEnds says has root_len part before rows
ended says has root_len part before now above here rows (steps, leads) (done, same, none) =
    (steps, here, subst (λ (w : WalkData). AreSteps says has root_len part steps before w) (sym same ∙ ap (λ above. walk above here rows) none) leads, done)

-- a walk with a next step
pub further : (says : GivesStat) (has : Has) (root_len root_len' : ℕ) (part part' : Part) (before mid after : WalkData)
    → root_len ≡ root_len' → part ≡ part'
    → ((steps : ℕ) × AreSteps says has root_len' part' steps before mid)
    → IsStep says has root_len part mid after
    → (steps : ℕ) × AreSteps says has root_len' part' steps before after
unfolding AreSteps
further says has root_len root_len' part part' before mid after a b (steps, leads) step =
    (suc steps, (mid, leads, subst (λ p. IsStep says has root_len' p mid after) b (subst (λ r. IsStep says has r part mid after) a step)))
