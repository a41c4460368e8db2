-- Steps that take no slash, after a `**/`: they fit the last name or nothing.
use Rattle.std.proofs.Common.{◌≡◌, ℕ, zero, suc, ◌+◌, ◌-◌, ◌<◌, ◌≤◌, Bool, true, false, not, ◌&&◌, ◌||◌, ◌==◌, List, [], ◌∷◌, length, drop, get_or, refl, sym, ◌∙◌, ap, inl, inr, arith}
use Rattle.std.proofs.lemmas.Bool.{and_from, and_left, and_parts, and_right, cases_eq, eq-eqb, eqb-true, false≢true, ne_eqb, not-true, or_cases, or_from, or_left, or_right}
use Rattle.std.specs.List.{list_any}
use Rattle.std.proofs.lemmas.List.{drop_more}
use Rattle.wq_base.specs.Byte.{is_slash}
use Rattle.wq_glob.specs.Byte.{lower_if}
use Rattle.wq_glob.specs.Mark.{Mark}
use Rattle.wq_glob.specs.Fits.{has_no_hidden_dot, is_wild}
use Rattle.wq_glob.specs.FitsTest.{directories, many, single}
use Rattle.wq_glob.specs.Step.{step_admits}
use Rattle.wq_glob.specs.Cell.{mark_at, marks_at, step_fits}
use Rattle.wq_glob.specs.Leftmost.{all_stay, begins_below, fits_from, stays_in_name}
use Rattle.wq_glob.specs.declared.rules.Rules.{Rules}
use Rattle.wq_glob.specs.declared.step.Step.{Step}
use Rattle.wq_glob.specs.declared.step.Step.TheVariants.{Byte, AnyByte, Set, Stars, Below, Tail, Never}
use Rattle.wq_glob.proofs.LeftmostLemmas.{and_is, below_fit, from_below, marks_past}
use Rattle.wq_glob.proofs.MarkLemmas.{marks_step}
use Rattle.wq_glob.proofs.RowLemmas.{drop_all}
use Rattle.wq_glob.proofs.StepLemmas.{slash_folded}

-- some byte is a slash
abbrev has_slash : List Mark → Bool
has_slash text = list_any (λ (x : Mark). is_slash x.byte) text

module _ (test : Mark → Bool) (fit : List Mark → Bool) (no_slash : (x : Mark) → is_slash x.byte ≡ true → test x ≡ false) (none : (t : List Mark) → has_slash t ≡ true → fit t ≡ false) where
  single_slash : (t : List Mark) → has_slash t ≡ true → single test fit t ≡ false
  single_slash [] h = absurd (false≢true h)
  single_slash (x ∷ xs) h =
      elim (or_cases (is_slash x.byte) (has_slash xs) h) [
        | inl here ↦ and_left _ _ (no_slash x here)
        | inr later ↦ and_right _ _ (none xs later)
      ]

  many_slash : (t : List Mark) → has_slash t ≡ true → many test fit t ≡ false
  many_slash [] h = absurd (false≢true h)
  many_slash (x ∷ xs) h =
      or_from _ _ (none (x ∷ xs) h)
      (elim (or_cases (is_slash x.byte) (has_slash xs) h) [
        | inl here ↦ and_left _ _ (no_slash x here)
        | inr later ↦ and_right _ _ (many_slash xs later)
      ])

module _ (f : Rules) where
  wild_slash : (x : Mark) → f.flags.wholename ≡ true → is_slash x.byte ≡ true → is_wild f.flags x ≡ false
  wild_slash x whole slash = rw (whole, slash) (and_right (has_no_hidden_dot x) false refl)

  byte_slash : (b : ℕ) (x : Mark) → not (is_slash b) ≡ true → is_slash x.byte ≡ true → (lower_if f.flags.fold x.byte == b) ≡ false
  byte_slash b x other slash = of_it (lower_if f.flags.fold x.byte == b) refl
    where
      of_it : (v : Bool) → (lower_if f.flags.fold x.byte == b) ≡ v → (lower_if f.flags.fold x.byte == b) ≡ false
      of_it false is = is
      of_it true is =
          absurd
          (false≢true
          (sym (not-true _ other) ∙ sym (ap is_slash (eqb-true (lower_if f.flags.fold x.byte) b is)) ∙ slash_folded f.flags.fold x.byte ∙ slash))

  takes_no_slash : (s : Step) → stays_in_name f s ≡ true → (x : Mark) → is_slash x.byte ≡ true → step_admits f s x ≡ false
  takes_no_slash (Byte b) stays x slash = byte_slash b x stays slash
  takes_no_slash AnyByte stays x slash = wild_slash x stays slash
  takes_no_slash (Set number) stays x slash = and_left _ _ (wild_slash x stays slash)
  takes_no_slash Stars stays x slash = wild_slash x stays slash
  takes_no_slash Below stays x slash = absurd (false≢true stays)
  takes_no_slash Tail stays x slash = absurd (false≢true stays)
  takes_no_slash Never stays x slash = refl

  by_first : (s : Step) (later : List Step) → stays_in_name f s ≡ true → ((t : List Mark) → has_slash t ≡ true → step_fits f later t ≡ false) → (t : List Mark) → has_slash t ≡ true → step_fits f (s ∷ later) t ≡ false
  by_first (Byte b) later stays none t h = single_slash (step_admits f (Byte b)) (step_fits f later) (takes_no_slash (Byte b) stays) none t h
  by_first AnyByte later stays none t h = single_slash (step_admits f AnyByte) (step_fits f later) (takes_no_slash AnyByte stays) none t h
  by_first (Set number) later stays none t h = single_slash (step_admits f (Set number)) (step_fits f later) (takes_no_slash (Set number) stays) none t h
  by_first Stars later stays none t h = many_slash (step_admits f Stars) (step_fits f later) (takes_no_slash Stars stays) none t h
  by_first Below later stays none t h = absurd (false≢true stays)
  by_first Tail later stays none t h = absurd (false≢true stays)
  by_first Never later stays none t h = single_slash (step_admits f Never) (step_fits f later) (takes_no_slash Never stays) none t h

  -- steps that take no slash fit no text with one
  name_slash : (steps : List Step) → all_stay f steps ≡ true → (t : List Mark) → has_slash t ≡ true → step_fits f steps t ≡ false
  name_slash [] all [] h = absurd (false≢true h)
  name_slash [] all (x ∷ t) h = refl
  name_slash (s ∷ later) all t h =
      let parts = and_parts (stays_in_name f s) (all_stay f later) all in
      by_first s later parts.0 (name_slash later parts.1) t h

  -- a step that stays leaves the answer to the later ones
  pub stay_more : (steps : List Step) (i : ℕ) (d : Step) → i < length steps → stays_in_name f (get_or steps i d) ≡ true → all_stay f (drop i steps) ≡ all_stay f (drop (i + 1) steps)
  stay_more steps i d within stays = ap (all_stay f) (drop_more steps i d within) ∙ and_is _ _ stays

  pub stay_end : (steps : List Step) (i : ℕ) → length steps ≤ i → all_stay f (drop i steps) ≡ true
  stay_end steps i past = ap (all_stay f) (drop_all steps i past)

module _ (f : Rules) (steps : List Step) (text : List ℕ) (k : ℕ) (below : begins_below (drop k steps) ≡ true) (all : all_stay f (drop (k + 1) steps) ≡ true) where
  -- the directories from a place on, and the later steps after them
  abbrev folders : ℕ → Bool
  folders i = directories has_no_hidden_dot (step_fits f (drop (k + 1) steps)) (marks_at f text i)

  folders_step : (i : ℕ) → i < length text → folders i ≡ (has_no_hidden_dot (mark_at f text i) && (folders (i + 1) || (is_slash (get_or text i 0) && fits_from f steps text (k + 1) (i + 1))))
  folders_step i inside = ap (directories has_no_hidden_dot (step_fits f (drop (k + 1) steps))) (marks_step f text i inside)

  -- there are none without a slash
  no_folders : (d i : ℕ) → i + d ≡ length text → ((j : ℕ) → i ≤ j → j < length text → is_slash (get_or text j 0) ≡ false) → folders i ≡ false
  no_folders zero i ends none = ap (directories has_no_hidden_dot (step_fits f (drop (k + 1) steps))) (marks_past f steps text i (omega arith))
  no_folders (suc d) i ends none =
      folders_step i (omega arith)
      ∙ and_right _ _ (or_from _ _ (no_folders d (i + 1) (omega arith) (λ j from inside. none j (omega arith) inside)) (and_left _ _ (none i (omega arith) (omega arith))))

  slash_ahead : (d i j : ℕ) → i + d ≡ j → j < length text → is_slash (get_or text j 0) ≡ true → has_slash (marks_at f text i) ≡ true
  slash_ahead zero i j ends inside slash =
      let e : i ≡ j = omega arith in
      ap has_slash (marks_step f text i (omega arith)) ∙ or_left _ _ (ap (λ (n : ℕ). is_slash (get_or text n 0)) e ∙ slash)
  slash_ahead (suc d) i j ends inside slash =
      ap has_slash (marks_step f text i (omega arith)) ∙ or_right _ _ (slash_ahead d (i + 1) j (omega arith) inside slash)

  -- the later steps do not fit before a slash
  not_before : (i j : ℕ) → i ≤ j → j < length text → is_slash (get_or text j 0) ≡ true → fits_from f steps text (k + 1) i ≡ false
  not_before i j order inside slash = name_slash f (drop (k + 1) steps) all (marks_at f text i) (slash_ahead (j - i) i j (omega arith) inside slash)

  module _ (name : ℕ) (within : name ≤ length text) (in_name : (i : ℕ) → name ≤ i → i < length text → is_slash (get_or text i 0) ≡ false) where
    after_name : folders name ≡ false
    after_name = no_folders (length text - name) name (omega arith) in_name

    -- the last name begins after a slash
    module _ (slash : is_slash (get_or text (name - 1) 0) ≡ true) where
      folders_no : (d i : ℕ) → i + d + 1 ≡ name → fits_from f steps text (k + 1) name ≡ false → folders i ≡ false
      folders_no zero i ends none =
          let e : i + 1 ≡ name = omega arith in
          folders_step i (omega arith)
          ∙ and_right _ _ (or_from _ _ (ap folders e ∙ after_name) (and_right _ _ (ap (fits_from f steps text (k + 1)) e ∙ none)))
      folders_no (suc d) i ends none =
          folders_step i (omega arith)
          ∙ and_right _ _ (or_from _ _ (folders_no d (i + 1) (omega arith) none) (and_right _ _ (not_before (i + 1) (name - 1) (omega arith) (omega arith) slash)))

      folders_hidden : (d i j : ℕ) → i + d ≡ j → j < name → has_no_hidden_dot (mark_at f text j) ≡ false → folders i ≡ false
      folders_hidden zero i j ends before hidden =
          let e : i ≡ j = omega arith in
          folders_step i (omega arith) ∙ and_left _ _ (ap (λ (n : ℕ). has_no_hidden_dot (mark_at f text n)) e ∙ hidden)
      folders_hidden (suc d) i j ends before hidden =
          folders_step i (omega arith)
          ∙ and_right _ _ (or_from _ _ (folders_hidden d (i + 1) j (omega arith) before hidden) (and_right _ _ (not_before (i + 1) (name - 1) (omega arith) (omega arith) slash)))

      folders_yes : (d i : ℕ) → i + d + 1 ≡ name → ((j : ℕ) → i ≤ j → j < name → has_no_hidden_dot (mark_at f text j) ≡ true) → fits_from f steps text (k + 1) name ≡ true → folders i ≡ true
      folders_yes zero i ends shown fits =
          let e : i + 1 ≡ name = omega arith in
          let last : i ≡ name - 1 = omega arith in
          folders_step i (omega arith)
          ∙ and_from _ _ (shown i (omega arith) (omega arith))
          (or_right _ _ (and_from _ _ (ap (λ (n : ℕ). is_slash (get_or text n 0)) last ∙ slash) (ap (fits_from f steps text (k + 1)) e ∙ fits)))
      folders_yes (suc d) i ends shown fits =
          folders_step i (omega arith)
          ∙ and_from _ _ (shown i (omega arith) (omega arith)) (or_left _ _ (folders_yes d (i + 1) (omega arith) (λ j from before. shown j (omega arith) before) fits))

    module _ (from : ℕ) (order : from ≤ name) (slash : from < name → is_slash (get_or text (name - 1) 0) ≡ true) where
      -- if the later steps do not fit the last name, nothing fits
      pub name_no : fits_from f steps text (k + 1) name ≡ false → fits_from f steps text k from ≡ false
      name_no none =
          elim (cases_eq from name) [
            | inl same ↦
                ap (fits_from f steps text k) same ∙ from_below f steps text k below name ∙ or_from _ _ none after_name
            | inr other ↦
                let before : from < name = omega arith in
                let there = slash before in
                from_below f steps text k below from
                ∙ or_from _ _ (not_before from (name - 1) (omega arith) (omega arith) there) (folders_no there (name - 1 - from) from (omega arith) none)
          ]

      -- and if they fit it, a hidden dot before it keeps off
      pub name_hidden : (j : ℕ) → from ≤ j → j < name → has_no_hidden_dot (mark_at f text j) ≡ false → fits_from f steps text k from ≡ false
      name_hidden j after before hidden =
          let there = slash (omega arith) in
          from_below f steps text k below from
          ∙ or_from _ _ (not_before from (name - 1) (omega arith) (omega arith) there) (folders_hidden there (j - from) from j (omega arith) before hidden)

      -- and nothing else does
      pub name_yes : fits_from f steps text (k + 1) name ≡ true → ((j : ℕ) → from ≤ j → j < name → has_no_hidden_dot (mark_at f text j) ≡ true) → fits_from f steps text k from ≡ true
      name_yes fits shown =
          elim (cases_eq from name) [
            | inl same ↦ ap (fits_from f steps text k) same ∙ below_fit f steps text k below name fits
            | inr other ↦
                let there = slash (omega arith) in
                from_below f steps text k below from ∙ or_right _ _ (folders_yes there (name - 1 - from) from (omega arith) shown fits)
          ]

      -- so the first hidden dot decides
      pub name_is : (hidden : ℕ) → from ≤ hidden → hidden ≤ name → ((j : ℕ) → from ≤ j → j < hidden → has_no_hidden_dot (mark_at f text j) ≡ true) →
          (hidden < name → has_no_hidden_dot (mark_at f text hidden) ≡ false) → fits_from f steps text (k + 1) name ≡ true → (hidden == name) ≡ fits_from f steps text k from
      name_is hidden after within shown stops fits =
          elim (cases_eq hidden name) [
            | inl same ↦ eq-eqb hidden name same ∙ sym (name_yes fits (λ j from before. shown j from (omega arith)))
            | inr other ↦ ne_eqb hidden name other ∙ sym (name_hidden hidden after (omega arith) (stops (omega arith)))
          ]
