-- A glance accounts for each name of each directory that it read: by its steps.
use Rattle.std.proofs.Common.{◌≡◌, ◌⊎◌, ℕ, zero, suc, List, [], ◌∷◌, ◌++◌, All, inl, inr, refl, sym, subst, length}
use Rattle.std.proofs.lemmas.List.Elements.{All-weaker}
use Rattle.std.specs.Str.{byte}
use Rattle.wq_view.specs.SeenRows.{seen_row}
use Rattle.wq_record.specs.RecordData.{RecordData}
use Rattle.wq_record.specs.Seen.{SeenData}
use Rattle.wq_walk.specs.Accounts.{IsAmongRead, IsOneOf, ReadData}
use Rattle.wq_walk.specs.Glance.{AreGlanceSteps, GlanceNamesAreAccountedFor, IsAccountedForByGlance, IsGlanceStep, IsKeptBelow, IsUnchanged, KeepsBelow, rows_below}
use Rattle.wq_walk.specs.Part.{whole_part}
use Rattle.wq_disk.specs.Told.{GivesStat, Has}
use Rattle.wq_disk.specs.Directory.{fresh}
use Rattle.wq_walk.specs.Walk.{HasNoneBelow, WalkData, name_of_path}
use Rattle.wq_walk.proofs.Accounts.{Accounts, IsEnded, IsIn, Kept, Known, StaysKept, Waits, account_end, account_first, account_step, any_last, any_left, any_right, carry}
use Rattle.wq_walk.proofs.GlanceRows.{each_one}

-- the view's rows below the directory of a path are listed
abbrev kept_below : List RecordData → List (List ℕ) → ℕ → Kept
kept_below records asked root_len rows path = IsKeptBelow records asked rows (name_of_path root_len path)

-- a directory that is unchanged stays so if rows come
still_unchanged : (records : List RecordData) (rows more : List SeenData) (name : List ℕ) → IsUnchanged records rows name → IsUnchanged records (rows ++ more) name
still_unchanged records rows more name (known, named, exists, kind, one) =
    (known, named, exists, kind, any_left (λ (row : SeenData). row ≡ seen_row known) rows more one)

stays_kept : (records : List RecordData) (asked : List (List ℕ)) (root_len : ℕ) → StaysKept (kept_below records asked root_len)
stays_kept records asked root_len rows more path (unchanged, unasked, all) = (
  still_unchanged records rows more (name_of_path root_len path) unchanged,
  unasked,
  All-weaker (λ row. IsOneOf row rows) (λ row. IsOneOf row (rows ++ more)) (λ row one. any_left (λ (r : SeenData). r ≡ row) rows more one)
      (rows_below (name_of_path root_len path) records) all,
)

-- a glance that does not enter a directory accounts for it
account_keep : (says : GivesStat) (has : Has) (records : List RecordData) (asked : List (List ℕ)) (root : List ℕ) (before after : WalkData)
    → KeepsBelow records asked (length root) before after
    → Accounts (kept_below records asked (length root)) says has root whole_part before
    → Accounts (kept_below records asked (length root)) says has root whole_part after
account_keep says has records asked root before after (name, waiting, next, unchanged, unasked, is) all =
    subst (Accounts kept says has root whole_part) (sym is) (goes all)
  where
    kept : Kept
    kept = kept_below records asked (length root)

    directory : List ℕ
    directory = name_of_path (length root) (before.here.path ++ name)

    mid : WalkData
    mid = record {
      above = before.above;
      here = record before.here { waiting = waiting };
      rows = before.rows ++ rows_below directory records;
    }

    now : kept mid.rows (before.here.path ++ name)
    now = (
      still_unchanged records before.rows (rows_below directory records) directory unchanged,
      unasked,
      All-weaker (λ row. IsOneOf row (rows_below directory records)) (λ row. IsOneOf row mid.rows)
          (λ row one. any_right (λ (r : SeenData). r ≡ row) before.rows (rows_below directory records) one)
          (rows_below directory records) (each_one (rows_below directory records)),
    )

    split : (read : List ReadData) (path : List ℕ) → IsIn before.here.path waiting path ⊎ (path ≡ before.here.path ++ name)
        → kept mid.rows path ⊎ (IsAmongRead read (path ++ (byte "/" ∷ [])) ⊎ Waits mid path)
    split read path (inl one) = inr (inr (inl one))
    split read path (inr same) = inl (subst (kept mid.rows) (sym same) now)

    waits : (read : List ReadData) (path : List ℕ) → Waits before path
        → kept mid.rows path ⊎ (IsAmongRead read (path ++ (byte "/" ∷ [])) ⊎ Waits mid path)
    waits read path (inl one) =
        split read path (any_last (λ n. path ≡ before.here.path ++ n) waiting name
        (subst (λ names. IsIn before.here.path names path) next one))
    waits read path (inr one) = inr (inr (inr one))

    goes : Accounts kept says has root whole_part before → Accounts kept says has root whole_part mid
    goes (read, top, was, known) = (
      read,
      top,
      was,
      λ d one n among.
          carry kept says (length root) whole_part before mid read read (d.path ++ n) (λ left. inl left)
          (waits read (d.path ++ n)) (λ was. was)
          (λ row one. any_left (λ (r : SeenData). r ≡ row) before.rows (rows_below directory records) one)
          (stays_kept records asked (length root) before.rows (rows_below directory records) (d.path ++ n)) (known d one n among),
    )

-- each step of a glance keeps all accounts
glance_step : (says : GivesStat) (has : Has) (records : List RecordData) (asked : List (List ℕ)) (root : List ℕ) (before after : WalkData)
    → Accounts (kept_below records asked (length root)) says has root whole_part before
    → IsGlanceStep says has records asked (length root) before after
    → Accounts (kept_below records asked (length root)) says has root whole_part after
glance_step says has records asked root before after all (inl step) =
    account_step (kept_below records asked (length root)) (stays_kept records asked (length root)) says has root whole_part before after all step
glance_step says has records asked root before after all (inr keeps) =
    account_keep says has records asked root before after keeps all

glance_steps : (says : GivesStat) (has : Has) (records : List RecordData) (asked : List (List ℕ)) (root : List ℕ) (n : ℕ) (before after : WalkData)
    → Accounts (kept_below records asked (length root)) says has root whole_part before
    → AreGlanceSteps says has records asked (length root) n before after
    → Accounts (kept_below records asked (length root)) says has root whole_part after
unfolding AreGlanceSteps
glance_steps says has records asked root zero before after all is =
    subst (Accounts (kept_below records asked (length root)) says has root whole_part) (sym is) all
glance_steps says has records asked root (suc n) before after all (mid, leads, one) =
    glance_step says has records asked root mid after (glance_steps says has records asked root n before mid all leads) one

-- a glance accounts for each name of each directory that it read
pub glance_names_are_accounted_for : (says : GivesStat) (has : Has) → GlanceNamesAreAccountedFor says has
glance_names_are_accounted_for says has records asked root rows (names, read, (steps, last, leads, done)) =
    let all = glance_steps says has records asked root steps (record { above = []; here = fresh root names; rows = [] })
    (record { above = []; here = last; rows = rows }) (account_first kept says has root whole_part names read) leads in
    (all.0, all.1, all.2, λ d one n among. of all.0 (d.path ++ n) (account_end kept says (length root) whole_part last rows all.0 (d.path ++ n) done (all.3 d one n among)))
  where
    kept : Kept
    kept = kept_below records asked (length root)

    of : (among : List ReadData) (path : List ℕ) → IsEnded kept says (length root) whole_part among rows path
        → IsAccountedForByGlance says records asked (length root) among rows path
    of among path (inl over) = inl over
    of among path (inr (stat, told, listed, entered)) = inr (stat, told, listed refl, λ kind. further (entered kind))
      where
        further : HasNoneBelow whole_part (name_of_path (length root) path) ⊎ (kept rows path ⊎ IsAmongRead among (path ++ (byte "/" ∷ [])))
            → IsAmongRead among (path ++ (byte "/" ∷ [])) ⊎ IsKeptBelow records asked rows (name_of_path (length root) path)
        further (inl none) = absurd (none [] refl)
        further (inr (inl is)) = inr is
        further (inr (inr was)) = inl was
