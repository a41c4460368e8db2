-- The rows of a walk are of their paths, and the walk accounts for each name: by its steps.
use Rattle.std.proofs.Common.{◌≡◌, ◌⊎◌, ℕ, zero, suc, Bool, true, false, List, [], ◌∷◌, ◌++◌, All, IsTrue, inl, inr, refl, ap, sym, subst, ◌∙◌, if◌then◌else◌, append_assoc, append-nil, Some, length}
use Rattle.std.proofs.lemmas.List.Elements.{All-append, All-cons, All-nil, All-pop, All-push}
use Rattle.std.proofs.lemmas.List.Prefix.{front_rest}
use Rattle.std.specs.Str.{byte}
use Rattle.wq_record.specs.Seen.{SeenData, Stat}
use Rattle.wq_record.specs.declared.kind.Kind.TheVariants.{Dir}
use Rattle.wq_disk.specs.declared.part.Part.{Part}
use Rattle.wq_disk.specs.Part.{is_in}
use Rattle.wq_disk.specs.Told.{GivesEntries, GivesStat, Has, HasEntries}
use Rattle.wq_walk.specs.Accounts.{AnyOf, IsAccountedFor, IsAmongRead, IsOneOf, IsRowOfPath, NamesAreAccountedFor, ReadData, RowsAreOfPaths, WasRead}
use Rattle.wq_disk.specs.Directory.{DirectoryData, IsDone, fresh}
use Rattle.wq_walk.specs.Walk.{AreSteps, HasNoneBelow, IsEntered, IsLooked, IsPassedOver, IsStep, WalkData, after_look, name_of_path, row_with_stat, rows_of_file}

-- the path of a directory begins with the root's
abbrev pub Below : List ℕ → DirectoryData → Type 0
Below root directory = (rest : List ℕ) × (directory.path ≡ root ++ rest)

-- each directory of a walk is below the root, and each row so far is of its path
abbrev pub Sound : GivesStat → List ℕ → Part → WalkData → Type 0
Sound says root part w =
    Below root w.here × All (Below root) w.above × All (IsRowOfPath says root part) w.rows

-- the rows of a file are of its path
file_rows : (says : GivesStat) (root : List ℕ) (part : Part) (name : List ℕ) (stat : Stat)
    → says (root ++ name) (Some stat) → All (IsRowOfPath says root part) (rows_of_file part name stat)
file_rows says root part name stat told = at (is_in part name) refl
  where
    at : (b : Bool) → is_in part name ≡ b
        → All (IsRowOfPath says root part) (if b then row_with_stat name stat ∷ [] else [])
    at true e =
        All-cons (IsRowOfPath says root part) (row_with_stat name stat) [] (stat, told, refl, e)
        (All-nil (IsRowOfPath says root part))
    at false e = All-nil (IsRowOfPath says root part)

-- so are the rows of a look at a path below the root
pub look_rows : (says : GivesStat) (root : List ℕ) (part : Part) (rest path : List ℕ) (rows : List SeenData)
    (enters : Bool) → path ≡ root ++ rest → IsLooked says (length root) part path rows enters
    → All (IsRowOfPath says root part) rows
look_rows says root part rest path rows enters is (inl (over, none, not)) =
    subst (All (IsRowOfPath says root part)) (sym none) (All-nil (IsRowOfPath says root part))
look_rows says root part rest path rows enters is (inr (stat, told, are, entered)) =
    subst (All (IsRowOfPath says root part)) (sym are)
    (subst (λ n. All (IsRowOfPath says root part) (rows_of_file part n stat))
    (sym (front_rest path root rest is))
    (file_rows says root part rest stat (subst (λ p. says p (Some stat)) is told)))

-- a step keeps that
pub sound_step : (says : GivesStat) (has : Has) (root : List ℕ) (part : Part) (before after : WalkData)
    → Sound says root part before → IsStep says has (length root) part before after
    → Sound says root part after
sound_step says has root part before after (here, above, rows) (inl (name, left, added, enters, next, look, is)) =
    subst (Sound says root part) (sym is) (
      here,
      above,
      All-append (IsRowOfPath says root part) before.rows added rows
          (look_rows says root part (here.0 ++ name) _ added enters
          (ap (λ p. p ++ name) here.1 ∙ append_assoc root here.0 name) look),
    )
sound_step says has root part before after (here, above, rows) (inr (inl (name, waiting, names, next, read, is))) =
    subst (Sound says root part) (sym is) (
      (
        here.0 ++ name ++ (byte "/" ∷ []),
        ap (λ p. p ++ name ++ (byte "/" ∷ [])) here.1 ∙ ap (λ p. p ++ (byte "/" ∷ [])) (append_assoc root here.0 name)
            ∙ append_assoc root (here.0 ++ name) (byte "/" ∷ []),
      ),
      All-push (Below root) before.above (record before.here { waiting = waiting }) above here,
      rows,
    )
sound_step says has root part before after (here, above, rows) (inr (inr (done, up, same))) =
    let parts = All-pop (Below root) before.above after.above (Some after.here) up above in
    (parts.1, parts.0, subst (All (IsRowOfPath says root part)) (sym same) rows)

-- so do some steps
sound_steps : (says : GivesStat) (has : Has) (root : List ℕ) (part : Part) (n : ℕ) (before after : WalkData)
    → Sound says root part before → AreSteps says has (length root) part n before after
    → Sound says root part after
unfolding AreSteps
sound_steps says has root part zero before after sound is = subst (Sound says root part) (sym is) sound
sound_steps says has root part (suc n) before after sound (mid, leads, one) =
    sound_step says has root part mid after (sound_steps says has root part n before mid sound leads) one

-- each row of a walk is of the path of its name
pub rows_are_of_paths : (says : GivesStat) (has : Has) → RowsAreOfPaths says has
rows_are_of_paths says has root part rows (names, read, (steps, last, leads, done)) =
    (sound_steps says has root part steps (record { above = []; here = fresh root names; rows = [] })
    (record { above = []; here = last; rows = rows })
    (([], sym (append-nil root)), All-nil (Below root), All-nil (IsRowOfPath says root part)) leads).2

-- a fact of some item of a list holds of some item of a longer one
pub any_left : {X : Type 0} (P : X → Type 0) (xs ys : List X) → AnyOf P xs → AnyOf P (xs ++ ys)
any_left P [] ys none = absurd none
any_left P (x ∷ xs) ys (inl p) = inl p
any_left P (x ∷ xs) ys (inr a) = inr (any_left P xs ys a)

pub any_right : {X : Type 0} (P : X → Type 0) (xs ys : List X) → AnyOf P ys → AnyOf P (xs ++ ys)
any_right P [] ys a = a
any_right P (x ∷ xs) ys a = inr (any_right P xs ys a)

-- a fact of some item of two lists holds of some item of one of them
any_split : {X : Type 0} (P : X → Type 0) (xs ys : List X) → AnyOf P (xs ++ ys)
    → AnyOf P xs ⊎ AnyOf P ys
any_split P [] ys a = inr a
any_split P (x ∷ xs) ys (inl p) = inl (inl p)
any_split P (x ∷ xs) ys (inr a) = further (any_split P xs ys a)
  where
    further : AnyOf P xs ⊎ AnyOf P ys → AnyOf P (x ∷ xs) ⊎ AnyOf P ys
    further (inl a) = inl (inr a)
    further (inr a) = inr a

-- a fact of some item of a list and one more
pub any_last : {X : Type 0} (P : X → Type 0) (xs : List X) (x : X) → AnyOf P (xs ++ (x ∷ []))
    → AnyOf P xs ⊎ P x
any_last P xs x a = only (any_split P xs (x ∷ []) a)
  where
    only : AnyOf P xs ⊎ AnyOf P (x ∷ []) → AnyOf P xs ⊎ P x
    only (inl a) = inl a
    only (inr (inl p)) = inr p
    only (inr (inr none)) = absurd none

pub any_map : {X : Type 0} (P Q : X → Type 0) → ((x : X) → P x → Q x) → (xs : List X) → AnyOf P xs → AnyOf Q xs
any_map P Q f [] none = absurd none
any_map P Q f (x ∷ xs) (inl p) = inl (f x p)
any_map P Q f (x ∷ xs) (inr a) = inr (any_map P Q f xs a)

-- a path is one of a directory and one of these names there
abbrev pub IsIn : List ℕ → List (List ℕ) → List ℕ → Type 0
IsIn directory names path = AnyOf (λ name. path ≡ directory ++ name) names

-- a path at which a walk has not looked yet, and one that it enters later
abbrev pub Left : WalkData → List ℕ → Type 0
Left w path =
    IsIn w.here.path w.here.left path ⊎ AnyOf (λ (d : DirectoryData). IsIn d.path d.left path) w.above

abbrev pub Waits : WalkData → List ℕ → Type 0
Waits w path =
    IsIn w.here.path w.here.waiting path ⊎ AnyOf (λ (d : DirectoryData). IsIn d.path d.waiting path) w.above

-- the paths of the directories that a glance kept in place of reading them, beside the rows that it
-- lists
abbrev pub Kept : Type 1
Kept = List SeenData → List ℕ → Type 0

-- what is kept stays so if rows come
abbrev pub StaysKept : Kept → Type 0
StaysKept kept = (rows more : List SeenData) (path : List ℕ) → kept rows path → kept (rows ++ more) path

-- what is known of a directory at a path: no name below it is in the part, it was kept or read, or it
-- waits
abbrev pub Entered : Kept → ℕ → Part → WalkData → List ReadData → List ℕ → Type 0
Entered kept root_len part w read path =
    HasNoneBelow part (name_of_path root_len path)
    ⊎ (kept w.rows path ⊎ (IsAmongRead read (path ++ (byte "/" ∷ [])) ⊎ Waits w path))

-- what is known of a path in the midst of a walk
abbrev pub Known : Kept → GivesStat → ℕ → Part → WalkData → List ReadData → List ℕ → Type 0
Known kept says root_len part w read path =
    Left w path ⊎ (IsPassedOver says part path (name_of_path root_len path)
    ⊎ ((stat : Stat) × says path (Some stat)
    × (IsTrue (is_in part (name_of_path root_len path))
    → IsOneOf (row_with_stat (name_of_path root_len path) stat) w.rows)
    × (stat.kind ≡ Dir → Entered kept root_len part w read path)))

-- what was known of a path before a step, after it
pub carry : (kept : Kept) (says : GivesStat) (root_len : ℕ) (part : Part) (before after : WalkData) (read more : List ReadData)
    (path : List ℕ) → (Left before path → Known kept says root_len part after more path)
    → (Waits before path → kept after.rows path ⊎ (IsAmongRead more (path ++ (byte "/" ∷ [])) ⊎ Waits after path))
    → (IsAmongRead read (path ++ (byte "/" ∷ [])) → IsAmongRead more (path ++ (byte "/" ∷ [])))
    → ((row : SeenData) → IsOneOf row before.rows → IsOneOf row after.rows)
    → (kept before.rows path → kept after.rows path)
    → Known kept says root_len part before read path → Known kept says root_len part after more path
carry kept says root_len part before after read more path left waits reads rows keeps (inl is) = left is
carry kept says root_len part before after read more path left waits reads rows keeps (inr (inl over)) = inr (inl over)
carry kept says root_len part before after read more path left waits reads rows keeps (inr (inr (stat, told, listed, entered))) =
    inr (inr (stat, told, (λ within. rows _ (listed within)), λ kind. further (entered kind)))
  where
    further : Entered kept root_len part before read path → Entered kept root_len part after more path
    further (inl none) = inl none
    further (inr (inl is)) = inr (inl (keeps is))
    further (inr (inr (inl was))) = inr (inr (inl (reads was)))
    further (inr (inr (inr wait))) = inr (waits wait)

-- the directories that were read account for all names, as far as the walk has come
abbrev pub Accounts : Kept → GivesStat → Has → List ℕ → Part → WalkData → Type 0
Accounts kept says has root part w =
    (read : List ReadData) × IsAmongRead read root
    × ((d : ReadData) → IsOneOf d read → WasRead has root d)
    × ((d : ReadData) → IsOneOf d read → (name : List ℕ) → IsOneOf name d.names
    → Known kept says (length root) part w read (d.path ++ name))

-- what is known of the path of a look
look_known : (kept : Kept) (says : GivesStat) (root_len : ℕ) (part : Part) (before : WalkData) (read : List ReadData)
    (name : List ℕ) (left : List (List ℕ)) (added : List SeenData) (enters : Bool)
    → IsLooked says root_len part (before.here.path ++ name) added enters
    → Known kept says root_len part (record {
      above = before.above;
      here = after_look before.here left name enters;
      rows = before.rows ++ added;
    }) read (before.here.path ++ name)
look_known kept says root_len part before read name left added enters (inl (over, none, not)) = inr (inl over)
look_known kept says root_len part before read name left added enters (inr (stat, told, are, entered)) =
    inr (inr (stat, told, listed, goes enters entered))
  where
    path : List ℕ
    path = before.here.path ++ name

    row : SeenData
    row = row_with_stat (name_of_path root_len path) stat

    listed : IsTrue (is_in part (name_of_path root_len path)) → IsOneOf row (before.rows ++ added)
    listed within =
        any_right (λ (y : SeenData). y ≡ row) before.rows added
        (subst (IsOneOf row) (sym (are ∙ ap (λ b. if b then row ∷ [] else []) within)) (inl refl))

    goes : (b : Bool) → IsEntered part (name_of_path root_len path) stat b → stat.kind ≡ Dir
        → Entered kept root_len part (record {
          above = before.above;
          here = after_look before.here left name b;
          rows = before.rows ++ added;
        }) read path
    goes true entered kind =
        inr (inr (inr (inl (any_right (λ n. path ≡ before.here.path ++ n) before.here.waiting (name ∷ []) (inl refl)))))
    goes false entered kind = inl (entered kind)

-- a path that waited before a look still waits
look_waits : (before : WalkData) (name : List ℕ) (left : List (List ℕ)) (rows : List SeenData) (enters : Bool)
    (path : List ℕ) → Waits before path
    → Waits (record { above = before.above; here = after_look before.here left name enters; rows = rows }) path
look_waits before name left rows true path (inl is) =
    inl (any_left (λ n. path ≡ before.here.path ++ n) before.here.waiting (name ∷ []) is)
look_waits before name left rows false path (inl is) = inl is
look_waits before name left rows true path (inr is) = inr is
look_waits before name left rows false path (inr is) = inr is

-- a look accounts for its name
account_look : (kept : Kept) (still : StaysKept kept) (says : GivesStat) (has : Has) (root : List ℕ) (part : Part) (before : WalkData) (name : List ℕ)
    (left : List (List ℕ)) (added : List SeenData) (enters : Bool)
    → before.here.left ≡ left ++ (name ∷ [])
    → IsLooked says (length root) part (before.here.path ++ name) added enters
    → Accounts kept says has root part before
    → Accounts kept says has root part (record {
      above = before.above;
      here = after_look before.here left name enters;
      rows = before.rows ++ added;
    })
account_look kept still says has root part before name left added enters next look (read, top, was, known) = (
  read,
  top,
  was,
  λ d one n among.
      carry kept says (length root) part before after read read (d.path ++ n) (from (d.path ++ n))
      (λ wait. inr (inr (look_waits before name left (before.rows ++ added) enters (d.path ++ n) wait))) (λ is. is)
      (λ row is. any_left (λ (y : SeenData). y ≡ row) before.rows added is) (still before.rows added (d.path ++ n)) (known d one n among),
)
  where
    after : WalkData
    after = record {
      above = before.above;
      here = after_look before.here left name enters;
      rows = before.rows ++ added;
    }

    at : (path : List ℕ)
        → IsIn before.here.path left path ⊎ (path ≡ before.here.path ++ name)
        → Known kept says (length root) part after read path
    at path (inl is) = inl (inl is)
    at path (inr is) =
        subst (Known kept says (length root) part after read) (sym is)
        (look_known kept says (length root) part before read name left added enters look)

    from : (path : List ℕ) → Left before path → Known kept says (length root) part after read path
    from path (inl is) =
        at path (any_last (λ n. path ≡ before.here.path ++ n) left name
        (subst (λ names. IsIn before.here.path names path) next is))
    from path (inr is) = inl (inr is)

-- to enter a directory keeps all accounts
account_enter : (kept : Kept) (says : GivesStat) (has : Has) (root : List ℕ) (part : Part) (before : WalkData) (name : List ℕ)
    (waiting names : List (List ℕ)) → before.here.waiting ≡ waiting ++ (name ∷ [])
    → HasEntries has (before.here.path ++ name) names → Accounts kept says has root part before
    → Accounts kept says has root part (record {
      above = before.above ++ (record before.here { waiting = waiting } ∷ []);
      here = fresh (before.here.path ++ name ++ (byte "/" ∷ [])) names;
      rows = before.rows;
    })
account_enter kept says has root part before name waiting names next told (read, top, was, known) =
    (new ∷ read, (top.0, inr top.1), all, λ d one n among. of d one n among)
  where
    new : ReadData
    new = record { path = before.here.path ++ name ++ (byte "/" ∷ []); names = names }

    over : DirectoryData
    over = record before.here { waiting = waiting }

    after : WalkData
    after = record {
      above = before.above ++ (over ∷ []);
      here = fresh (before.here.path ++ name ++ (byte "/" ∷ [])) names;
      rows = before.rows;
    }

    all : (d : ReadData) → IsOneOf d (new ∷ read) → WasRead has root d
    all d (inl is) = subst (WasRead has root) is (inr (before.here.path ++ name, refl, told))
    all d (inr one) = was d one

    from : (path : List ℕ) → Left before path → Known kept says (length root) part after (new ∷ read) path
    from path (inl is) = inl (inr (any_right (λ (d : DirectoryData). IsIn d.path d.left path) before.above (over ∷ []) (inl is)))
    from path (inr is) = inl (inr (any_left (λ (d : DirectoryData). IsIn d.path d.left path) before.above (over ∷ []) is))

    split : (path : List ℕ) → IsIn before.here.path waiting path ⊎ (path ≡ before.here.path ++ name)
        → IsAmongRead (new ∷ read) (path ++ (byte "/" ∷ [])) ⊎ Waits after path
    split path (inl is) = inr (inr (any_right (λ (d : DirectoryData). IsIn d.path d.waiting path) before.above (over ∷ []) (inl is)))
    split path (inr is) = inl (names, inl (ap (λ p. record { path = p ++ (byte "/" ∷ []); names = names }) (sym is)))

    waits : (path : List ℕ) → Waits before path
        → IsAmongRead (new ∷ read) (path ++ (byte "/" ∷ [])) ⊎ Waits after path
    waits path (inl is) =
        split path (any_last (λ n. path ≡ before.here.path ++ n) waiting name
        (subst (λ left. IsIn before.here.path left path) next is))
    waits path (inr is) =
        inr (inr (any_left (λ (d : DirectoryData). IsIn d.path d.waiting path) before.above (over ∷ []) is))

    of : (d : ReadData) → IsOneOf d (new ∷ read) → (n : List ℕ) → IsOneOf n d.names
        → Known kept says (length root) part after (new ∷ read) (d.path ++ n)
    of d (inl is) n among =
        subst (λ (e : ReadData). IsOneOf n e.names → Known kept says (length root) part after (new ∷ read) (e.path ++ n)) is
        (λ one. inl (inl (any_map (λ m. m ≡ n) (λ m. new.path ++ n ≡ new.path ++ m) (λ m e. ap (λ k. new.path ++ k) (sym e)) names one)))
        among
    of d (inr one) n among =
        carry kept says (length root) part before after read (new ∷ read) (d.path ++ n) (from (d.path ++ n))
        (λ wait. inr (waits (d.path ++ n) wait)) (λ is. (is.0, inr is.1)) (λ row is. is) (λ is. is) (known d one n among)

-- so does to leave one
account_leave : (kept : Kept) (says : GivesStat) (has : Has) (root : List ℕ) (part : Part) (before after : WalkData)
    → IsDone before.here → before.above ≡ after.above ++ (after.here ∷ []) → after.rows ≡ before.rows
    → Accounts kept says has root part before → Accounts kept says has root part after
account_leave kept says has root part before after (none, still) up same (read, top, was, known) = (
  read,
  top,
  was,
  λ d one n among.
      carry kept says (length root) part before after read read (d.path ++ n) (λ is. inl (left (d.path ++ n) is))
      (λ is. inr (inr (waits (d.path ++ n) is))) (λ is. is) (λ row is. subst (IsOneOf row) (sym same) is)
      (λ is. subst (λ rows. kept rows (d.path ++ n)) (sym same) is)
      (known d one n among),
)
  where
    turn : {A B : Type 0} → A ⊎ B → B ⊎ A
    turn (inl a) = inr a
    turn (inr b) = inl b

    left : (path : List ℕ) → Left before path → Left after path
    left path (inl is) = absurd (subst (λ names. IsIn before.here.path names path) none is)
    left path (inr is) =
        turn (any_last (λ (d : DirectoryData). IsIn d.path d.left path) after.above after.here
        (subst (AnyOf (λ (d : DirectoryData). IsIn d.path d.left path)) up is))

    waits : (path : List ℕ) → Waits before path → Waits after path
    waits path (inl is) = absurd (subst (λ names. IsIn before.here.path names path) still is)
    waits path (inr is) =
        turn (any_last (λ (d : DirectoryData). IsIn d.path d.waiting path) after.above after.here
        (subst (AnyOf (λ (d : DirectoryData). IsIn d.path d.waiting path)) up is))

-- each step keeps all accounts
pub account_step : (kept : Kept) (still : StaysKept kept) (says : GivesStat) (has : Has) (root : List ℕ) (part : Part) (before after : WalkData)
    → Accounts kept says has root part before → IsStep says has (length root) part before after
    → Accounts kept says has root part after
account_step kept still says has root part before after all (inl (name, left, added, enters, next, look, is)) =
    subst (Accounts kept says has root part) (sym is)
    (account_look kept still says has root part before name left added enters next look all)
account_step kept still says has root part before after all (inr (inl (name, waiting, names, next, told, is))) =
    subst (Accounts kept says has root part) (sym is)
    (account_enter kept says has root part before name waiting names next told all)
account_step kept still says has root part before after all (inr (inr (done, up, same))) =
    account_leave kept says has root part before after done up same all

account_steps : (kept : Kept) (still : StaysKept kept) (says : GivesStat) (has : Has) (root : List ℕ) (part : Part) (n : ℕ) (before after : WalkData)
    → Accounts kept says has root part before → AreSteps says has (length root) part n before after
    → Accounts kept says has root part after
unfolding AreSteps
account_steps kept still says has root part zero before after all is = subst (Accounts kept says has root part) (sym is) all
account_steps kept still says has root part (suc n) before after all (mid, leads, one) =
    account_step kept still says has root part mid after (account_steps kept still says has root part n before mid all leads) one

-- what is known of a path at the end
abbrev pub IsEnded : Kept → GivesStat → ℕ → Part → List ReadData → List SeenData → List ℕ → Type 0
IsEnded kept says root_len part read rows path =
    IsPassedOver says part path (name_of_path root_len path)
    ⊎ ((stat : Stat) × says path (Some stat)
    × (IsTrue (is_in part (name_of_path root_len path))
    → IsOneOf (row_with_stat (name_of_path root_len path) stat) rows)
    × (stat.kind ≡ Dir → HasNoneBelow part (name_of_path root_len path)
    ⊎ (kept rows path ⊎ IsAmongRead read (path ++ (byte "/" ∷ [])))))

-- at the end nothing is left and nothing waits
pub account_end : (kept : Kept) (says : GivesStat) (root_len : ℕ) (part : Part) (last : DirectoryData) (rows : List SeenData)
    (read : List ReadData) (path : List ℕ) → IsDone last
    → Known kept says root_len part (record { above = []; here = last; rows = rows }) read path
    → IsEnded kept says root_len part read rows path
account_end kept says root_len part last rows read path (none, still) (inl (inl is)) =
    absurd (subst (λ names. IsIn last.path names path) none is)
account_end kept says root_len part last rows read path (none, still) (inl (inr is)) = absurd is
account_end kept says root_len part last rows read path (none, still) (inr (inl over)) = inl over
account_end kept says root_len part last rows read path (none, still) (inr (inr (stat, told, listed, entered))) =
    inr (stat, told, listed, λ kind. further (entered kind))
  where
    further : Entered kept root_len part (record { above = []; here = last; rows = rows }) read path
        → HasNoneBelow part (name_of_path root_len path) ⊎ (kept rows path ⊎ IsAmongRead read (path ++ (byte "/" ∷ [])))
    further (inl none) = inl none
    further (inr (inl is)) = inr (inl is)
    further (inr (inr (inl was))) = inr (inr was)
    further (inr (inr (inr (inl is)))) = absurd (subst (λ names. IsIn last.path names path) still is)
    further (inr (inr (inr (inr is)))) = absurd is

-- a walk begins with the names in the root's directory
pub account_first : (kept : Kept) (says : GivesStat) (has : Has) (root : List ℕ) (part : Part) (names : List (List ℕ))
    → GivesEntries has root names → Accounts kept says has root part (record { above = []; here = fresh root names; rows = [] })
account_first kept says has root part names read = (top ∷ [], (names, inl refl), first, begun)
  where
    top : ReadData
    top = record { path = root; names = names }

    first : (d : ReadData) → IsOneOf d (top ∷ []) → WasRead has root d
    first d (inl is) = subst (WasRead has root) is (inl (refl, read))
    first d (inr none) = absurd none

    begun : (d : ReadData) → IsOneOf d (top ∷ []) → (n : List ℕ) → IsOneOf n d.names
        → Known kept says (length root) part (record { above = []; here = fresh root names; rows = [] }) (top ∷ []) (d.path ++ n)
    begun d (inl is) n among =
        subst (λ (e : ReadData). IsOneOf n e.names → Known kept says (length root) part (record { above = []; here = fresh root names; rows = [] }) (top ∷ []) (e.path ++ n)) is
        (λ one. inl (inl (any_map (λ m. m ≡ n) (λ m. root ++ n ≡ root ++ m) (λ m e. ap (λ k. root ++ k) (sym e)) names one)))
        among
    begun d (inr none) n among = absurd none

-- a walk keeps no directory
abbrev none_kept : Kept
none_kept rows path = ⊥

-- a walk accounts for each name of each directory that it read
pub names_are_accounted_for : (says : GivesStat) (has : Has) → NamesAreAccountedFor says has
names_are_accounted_for says has root part rows (names, read, (steps, last, leads, done)) =
    let all = account_steps none_kept (λ rows more path is. is) says has root part steps (record { above = []; here = fresh root names; rows = [] })
    (record { above = []; here = last; rows = rows }) (account_first none_kept says has root part names read) leads in
    (all.0, all.1, all.2, λ d one n among. of (d.path ++ n) all.0 (account_end none_kept says (length root) part last rows all.0 (d.path ++ n) done (all.3 d one n among)))
  where
    of : (path : List ℕ) (among : List ReadData) → IsEnded none_kept says (length root) part among rows path
        → IsAccountedFor says (length root) part among rows path
    of path among (inl over) = inl over
    of path among (inr (stat, told, listed, entered)) = inr (stat, told, listed, λ kind. read_only (entered kind))
      where
        read_only : HasNoneBelow part (name_of_path (length root) path) ⊎ (⊥ ⊎ IsAmongRead among (path ++ (byte "/" ∷ [])))
            → HasNoneBelow part (name_of_path (length root) path) ⊎ IsAmongRead among (path ++ (byte "/" ∷ []))
        read_only (inl none) = inl none
        read_only (inr (inl none)) = absurd none
        read_only (inr (inr was)) = inr was
