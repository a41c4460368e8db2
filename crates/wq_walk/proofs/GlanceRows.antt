-- Each row of a glance is one of the view, or of the path of its name: by its steps.
use Rattle.std.proofs.Common.{◌≡◌, ℕ, zero, suc, List, [], ◌∷◌, ◌++◌, All, inl, inr, refl, ap, sym, subst, ◌∙◌, append_assoc, append-nil, Some, length}
use Rattle.std.proofs.lemmas.List.Elements.{All-append, All-cons, All-nil, All-pop, All-push, All-weaker}
use Rattle.std.specs.Str.{byte}
use Rattle.wq_view.specs.SeenRows.{seen_row}
use Rattle.wq_record.specs.RecordData.{RecordData}
use Rattle.wq_record.specs.Seen.{SeenData}
use Rattle.wq_walk.specs.Accounts.{IsOneOf, IsRowOfPath}
use Rattle.wq_walk.specs.Glance.{AreGlanceSteps, GlanceRowsAreKnown, IsGlanceStep, IsRowOfGlance, rows_below}
use Rattle.wq_walk.specs.Part.{whole_part}
use Rattle.wq_disk.specs.Told.{GivesStat, Has}
use Rattle.wq_disk.specs.Directory.{fresh}
use Rattle.wq_walk.specs.Walk.{WalkData, name_of_path}
use Rattle.wq_walk.proofs.Accounts.{Below, any_left, look_rows}

-- each directory of a glance is below the root, and each row so far is known
abbrev Sound : GivesStat → List RecordData → List (List ℕ) → List ℕ → WalkData → Type 0
Sound says records asked root w =
    Below root w.here × All (Below root) w.above × All (IsRowOfGlance says records asked root w.rows) w.rows

-- each of some rows is one of them
pub each_one : (rows : List SeenData) → All (λ row. IsOneOf row rows) rows
each_one [] = All-nil (λ row. IsOneOf row [])
each_one (row ∷ rows) =
    All-cons (λ other. IsOneOf other (row ∷ rows)) row rows (inl refl)
    (All-weaker (λ other. IsOneOf other rows) (λ other. IsOneOf other (row ∷ rows)) (λ other one. inr one) rows (each_one rows))

-- what is known of a row stays known if rows come
still_known : (says : GivesStat) (records : List RecordData) (asked : List (List ℕ)) (root : List ℕ) (rows more : List SeenData) (row : SeenData)
    → IsRowOfGlance says records asked root rows row → IsRowOfGlance says records asked root (rows ++ more) row
still_known says records asked root rows more row (inl (directory, (known, named, exists, kind, listed), unasked, one)) =
    inl (directory, (known, named, exists, kind, any_left (λ (other : SeenData). other ≡ seen_row known) rows more listed), unasked, one)
still_known says records asked root rows more row (inr of_path) = inr of_path

-- rows that come are known, beside those that were
known_after : (says : GivesStat) (records : List RecordData) (asked : List (List ℕ)) (root : List ℕ) (rows more : List SeenData)
    → All (IsRowOfGlance says records asked root rows) rows → All (IsRowOfGlance says records asked root rows) more
    → All (IsRowOfGlance says records asked root (rows ++ more)) (rows ++ more)
known_after says records asked root rows more before added =
    All-weaker (IsRowOfGlance says records asked root rows) (IsRowOfGlance says records asked root (rows ++ more))
    (still_known says records asked root rows more) (rows ++ more)
    (All-append (IsRowOfGlance says records asked root rows) rows more before added)

-- a step keeps that
sound_step : (says : GivesStat) (has : Has) (records : List RecordData) (asked : List (List ℕ)) (root : List ℕ) (before after : WalkData)
    → Sound says records asked root before → IsGlanceStep says has records asked (length root) before after
    → Sound says records asked root after
sound_step says has records asked root before after (here, above, rows) (inl (inl (name, left, added, enters, next, look, is))) =
    subst (Sound says records asked root) (sym is) (
      here,
      above,
      known_after says records asked root before.rows added rows
          (All-weaker (IsRowOfPath says root whole_part) (IsRowOfGlance says records asked root before.rows) (λ row of_path. inr of_path) added
          (look_rows says root whole_part (here.0 ++ name) _ added enters
          (ap (λ p. p ++ name) here.1 ∙ append_assoc root here.0 name) look)),
    )
sound_step says has records asked root before after (here, above, rows) (inl (inr (inl (name, waiting, names, next, read, is)))) =
    subst (Sound says records asked root) (sym is) (
      (
        here.0 ++ name ++ (byte "/" ∷ []),
        ap (λ p. p ++ name ++ (byte "/" ∷ [])) here.1 ∙ ap (λ p. p ++ (byte "/" ∷ [])) (append_assoc root here.0 name)
            ∙ append_assoc root (here.0 ++ name) (byte "/" ∷ []),
      ),
      All-push (Below root) before.above (record before.here { waiting = waiting }) above here,
      rows,
    )
sound_step says has records asked root before after (here, above, rows) (inl (inr (inr (done, up, same)))) =
    let parts = All-pop (Below root) before.above after.above (Some after.here) up above in
    (parts.1, parts.0, subst (λ rs. All (IsRowOfGlance says records asked root rs) rs) (sym same) rows)
sound_step says has records asked root before after (here, above, rows) (inr (name, waiting, next, known, unasked, is)) =
    subst (Sound says records asked root) (sym is) (
      here,
      above,
      known_after says records asked root before.rows (rows_below directory records) rows
          (All-weaker (λ row. IsOneOf row (rows_below directory records)) (IsRowOfGlance says records asked root before.rows) (λ row one. inl (directory, known, unasked, one))
          (rows_below directory records) (each_one (rows_below directory records))),
    )
  where
    directory : List ℕ
    directory = name_of_path (length root) (before.here.path ++ name)

-- so do some steps
sound_steps : (says : GivesStat) (has : Has) (records : List RecordData) (asked : List (List ℕ)) (root : List ℕ) (n : ℕ) (before after : WalkData)
    → Sound says records asked root before → AreGlanceSteps says has records asked (length root) n before after
    → Sound says records asked root after
unfolding AreGlanceSteps
sound_steps says has records asked root zero before after sound is = subst (Sound says records asked root) (sym is) sound
sound_steps says has records asked root (suc n) before after sound (mid, leads, one) =
    sound_step says has records asked root mid after (sound_steps says has records asked root n before mid sound leads) one

-- each row of a glance is one of the view, or of the path of its name
pub glance_rows_are_known : (says : GivesStat) (has : Has) → GlanceRowsAreKnown says has
glance_rows_are_known says has records asked root rows (names, read, (steps, last, leads, done)) =
    (sound_steps says has records asked root steps (record { above = []; here = fresh root names; rows = [] })
    (record { above = []; here = last; rows = rows })
    (([], sym (append-nil root)), All-nil (Below root), All-nil (IsRowOfGlance says records asked root [])) leads).2
