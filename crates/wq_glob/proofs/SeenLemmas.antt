-- How many cells of a row are looked at.
use Rattle.std.proofs.Common.{◌≡◌, ℕ, zero, suc, ◌+◌, ◌-◌, ◌<◌, ◌≤◌, Bool, true, false, ◌&&◌, ◌||◌, List, [], ◌∷◌, ◌⊎◌, length, drop, nat_le, nat_lt, refl, sym, ◌∙◌, ap, subst, inl, inr, arith}
use Rattle.std.proofs.lemmas.Bool.{cases_lt, cases_eq, le-leb, lt-leb, lt-ltb, le-ltb, and_from, and_left, and_right, or_from, or_left, or_right, or_cases, or_parts, and_parts, and_cases, ltb-true, ltb-false}
use Rattle.wq_glob.specs.Mark.{Mark}
use Rattle.wq_glob.specs.Cost.{is_live, is_looked_at, is_seen_at_end, lives_from, lives_to, next_fits, new_cells, row_cells}
use Rattle.wq_glob.specs.Cell.{cell_of, dead_cell, step_row, step_fits, marks_at, mark_at, IsWindow}
use Rattle.wq_glob.specs.Step.{step_form}
use Rattle.wq_glob.specs.declared.rules.Rules.{Rules}
use Rattle.wq_glob.specs.declared.row.Cell.{Cell}
use Rattle.wq_glob.specs.declared.row.Window.{Window}
use Rattle.wq_glob.specs.declared.step.Step.{Step}
use Rattle.wq_glob.proofs.CountLemmas.{count_within, any_here, any_none}
use Rattle.wq_glob.proofs.MarkLemmas.{marks_step}
use Rattle.wq_glob.proofs.RowLemmas.{dead_above}
use Rattle.wq_glob.proofs.SweepLemmas.{IsSwept, low_dead}

-- the cell before `k` is looked at: it lived, or the one after it fits at one of the two texts
abbrev pub IsOpened : Rules → List Step → Mark → List Mark → ℕ → ℕ → Type 0
IsOpened f steps x text low j =
    (nat_le low j || next_fits (step_row f steps text) j || next_fits (step_row f steps (x ∷ text)) j) ≡ true

module _ (f : Rules) (steps : List Step) (text : List Mark) where
  -- some cell from `k` on lives up to the window's end
  from_is : (w : Window) → IsWindow f steps text 0 w → (k : ℕ) → lives_from (length steps) (step_row f steps text) k ≡ nat_le k w.high
  from_is w lives k =
      elim (cases_lt w.high k) [
        | inl behind ↦
            any_none _ (length steps + 1) 0
            (λ j from before. elim (cases_lt j k) [
              | inl under ↦ and_left _ _ (lt-leb k j under)
              | inr above ↦ and_right _ _ (ap is_live (lives.above j (omega arith) (omega arith)))
            ])
            ∙ sym (lt-leb k w.high behind)
        | inr inside ↦
            any_here _ (length steps + 1) 0 w.high (omega arith) (omega (arith, lives.within)) (and_from _ _ (le-leb k w.high inside) lives.last)
            ∙ sym (le-leb k w.high inside)
      ]

  -- and some cell up to `k` from its beginning on
  to_is : (w : Window) → IsWindow f steps text 0 w → (k : ℕ) → lives_to (length steps) (step_row f steps text) k ≡ nat_le w.low k
  to_is w lives k =
      elim (cases_lt k w.low) [
        | inl before ↦
            any_none _ (length steps + 1) 0
            (λ j from within. elim (cases_lt k j) [
              | inl above ↦ and_left _ _ (lt-leb j k above)
              | inr under ↦ and_right _ _ (ap is_live (lives.below j (omega arith) (omega arith) (omega arith)))
            ])
            ∙ sym (lt-leb w.low k before)
        | inr inside ↦
            any_here _ (length steps + 1) 0 w.low (omega arith) (omega (arith, lives.within, lives.ordered)) (and_from _ _ (le-leb w.low k inside) lives.first)
            ∙ sym (le-leb w.low k inside)
      ]

  -- if the row has no live cell, no cell of the next one is looked at
  pub dead_cells : (x : Mark) → ((j : ℕ) → 0 ≤ j → j ≤ length steps → cell_of f (drop j steps) text ≡ dead_cell) →
      new_cells (length steps) (step_row f steps text) (step_row f steps (x ∷ text)) ≡ 0
  dead_cells x none =
      count_within _ (length steps + 1) 0 0 (omega arith)
      (λ j before.
      and_left _ _ (any_none _ (length steps + 1) 0 (λ i low within. and_right _ _ (ap is_live (none i (omega arith) (omega arith)))))
      ∙ sym (and_right (nat_le 0 j) (nat_lt j 0) (le-ltb j 0 (omega arith))))

  module _ (x : Mark) (w : Window) (lives : IsWindow f steps text 0 w) where
    -- which cells are looked at, by the window
    seen_is : (j : ℕ) → is_looked_at (length steps) (step_row f steps text) (step_row f steps (x ∷ text)) j
        ≡ (nat_le j w.high && (nat_le w.low j || next_fits (step_row f steps text) j || next_fits (step_row f steps (x ∷ text)) j))
    seen_is j = rw (from_is w lives j, to_is w lives j) refl

    -- a sweep that went down to `k` has looked at just these
    pub swept_cells : (k : ℕ) → k ≤ w.high + 1 → ((j : ℕ) → k ≤ j → j ≤ w.high → IsOpened f steps x text w.low j) →
        ((j : ℕ) → j < k → (nat_le w.low j || next_fits (step_row f steps text) j || next_fits (step_row f steps (x ∷ text)) j) ≡ false) →
        new_cells (length steps) (step_row f steps text) (step_row f steps (x ∷ text)) ≡ w.high + 1 - k
    swept_cells k within opened shut =
        count_within _ (length steps + 1) k (w.high + 1) (omega (arith, lives.within))
        (λ j before.
        seen_is j
        ∙ elim (cases_lt j k) [
          | inl under ↦ and_right _ _ (shut j under) ∙ sym (and_left (nat_le k j) (nat_lt j (w.high + 1)) (lt-leb k j under))
          | inr above ↦
              elim (cases_lt w.high j) [
                | inl past ↦ and_left _ _ (lt-leb j w.high past) ∙ sym (and_right (nat_le k j) (nat_lt j (w.high + 1)) (le-ltb j (w.high + 1) (omega arith)))
                | inr here ↦
                    and_from _ _ (le-leb j w.high here) (opened j above here)
                    ∙ sym (and_from (nat_le k j) (nat_lt j (w.high + 1)) (le-leb k j above) (lt-ltb j (w.high + 1) (omega arith)))
              ]
        ])

    -- a sweep that goes on by a cell looks at one that counts
    pub opened_more : (k n : ℕ) (old_next new_next : Bool) → n + 1 ≡ k → true ≡ (nat_lt 0 k && (nat_lt w.low k || old_next || new_next)) →
        (k ≤ length steps → old_next ≡ step_fits f (drop k steps) text) → (k ≤ length steps → new_next ≡ step_fits f (drop k steps) (x ∷ text)) →
        ((j : ℕ) → k ≤ j → j ≤ w.high → IsOpened f steps x text w.low j) → (j : ℕ) → n ≤ j → j ≤ w.high → IsOpened f steps x text w.low j
    opened_more k n old_next new_next next goes_on old_is new_is was j from within =
        elim (cases_eq j n) [
          | inr other ↦ was j (omega arith) within
          | inl same ↦
              elim (cases_lt (length steps) k) [
                | inl past ↦ or_left _ _ (or_left _ _ (le-leb w.low j (omega (arith, lives.ordered, lives.within))))
                | inr inside ↦ here same inside (or_cases _ _ (and_parts _ _ (sym goes_on)).1)
              ]
        ]
      where
        here : j ≡ n → k ≤ length steps → ((nat_lt w.low k || old_next) ≡ true) ⊎ (new_next ≡ true) → IsOpened f steps x text w.low j
        here same inside (inr new) =
            let e : j + 1 ≡ k = omega arith in
            or_right _ _ (ap (λ (i : ℕ). step_fits f (drop i steps) (x ∷ text)) e ∙ sym (new_is inside) ∙ new)
        here same inside (inl low) =
            let e : j + 1 ≡ k = omega arith in
            elim (or_cases (nat_lt w.low k) old_next low) [
              | inl lower ↦ or_left _ _ (or_left _ _ (le-leb w.low j (omega (arith, ltb-true w.low k lower))))
              | inr old ↦ or_left _ _ (or_right _ _ (ap (λ (i : ℕ). step_fits f (drop i steps) text) e ∙ sym (old_is inside) ∙ old))
            ]

    -- and when it stops, none before it counts
    pub shut_before : (row : List Cell) (k : ℕ) (old_next new_next : Bool) → IsSwept f steps x text row k old_next new_next →
        (k ≡ 0) ⊎ ((k ≤ w.low) × (old_next ≡ false) × (new_next ≡ false)) → (j : ℕ) → j < k →
        (nat_le w.low j || next_fits (step_row f steps text) j || next_fits (step_row f steps (x ∷ text)) j) ≡ false
    shut_before row k old_next new_next swept (inl start) j before = absurd (omega arith)
    shut_before row k old_next new_next swept (inr (low, old_none, new_none)) j before =
        or_from _ _ (or_from _ _ (lt-leb w.low j (omega arith)) old) new
      where
        inside : k ≤ length steps
        inside = omega (arith, lives.ordered, lives.within)

        old : step_fits f (drop (j + 1) steps) text ≡ false
        old = elim (cases_eq (j + 1) k) [
          | inl same ↦ ap (λ (i : ℕ). step_fits f (drop i steps) text) same ∙ sym (swept.old_fits inside) ∙ old_none
          | inr other ↦ ap (λ (c : Cell). c.fits) (lives.below (j + 1) (omega arith) (omega arith) (omega arith))
        ]

        new : step_fits f (drop (j + 1) steps) (x ∷ text) ≡ false
        new = elim (cases_eq (j + 1) k) [
          | inl same ↦ ap (λ (i : ℕ). step_fits f (drop i steps) (x ∷ text)) same ∙ sym (swept.new_fits inside) ∙ new_none
          | inr other ↦
              ap (λ (c : Cell). c.fits)
              (low_dead f steps x text row w k old_next new_next lives swept (inr (low, old_none, new_none)) (j + 1) (omega arith))
        ]

-- when a sweep goes on, a cell is left
pub goes_on : (k low : ℕ) (old_next new_next : Bool) → true ≡ (nat_lt 0 k && (nat_lt low k || old_next || new_next)) → 0 < k
goes_on k low old_next new_next is = ltb-true 0 k (and_parts _ _ (sym is)).0

-- and when it stops, there is none, or none that may live
pub stops : (k low : ℕ) (old_next new_next : Bool) → false ≡ (nat_lt 0 k && (nat_lt low k || old_next || new_next)) → (k ≡ 0) ⊎ ((k ≤ low) × (old_next ≡ false) × (new_next ≡ false))
stops k low old_next new_next is =
    elim (and_cases (nat_lt 0 k) _ (sym is)) [
      | inl none ↦ let e = ltb-false 0 k none in inl (omega arith)
      | inr rest ↦
          let parts = or_parts (nat_lt low k || old_next) new_next rest in
          let lower = or_parts (nat_lt low k) old_next parts.0 in
          inr (ltb-false low k lower.0, lower.1, parts.1)
    ]

-- the cells at the end of the text, by the first that fits there
pub ended_cells : (f : Rules) (steps : List Step) (low : ℕ) → low ≤ length steps → ((j : ℕ) → low ≤ j → j ≤ length steps → step_fits f (drop j steps) [] ≡ true) →
    ((j : ℕ) → j < low → step_fits f (drop j steps) [] ≡ false) → row_cells (step_form f) steps [] ≡ length steps + 1 - (low - 1)
ended_cells f steps low within fits none =
    count_within _ (length steps + 1) (low - 1) (length steps + 1) (omega arith)
    (λ j before.
    elim (cases_lt j (low - 1)) [
      | inl under ↦
          or_from _ _ (none j (omega arith)) (none (j + 1) (omega arith))
          ∙ sym (and_left (nat_le (low - 1) j) (nat_lt j (length steps + 1)) (lt-leb (low - 1) j under))
      | inr above ↦
          at j above (omega arith)
          ∙ sym (and_from (nat_le (low - 1) j) (nat_lt j (length steps + 1)) (le-leb (low - 1) j above) (lt-ltb j (length steps + 1) (omega arith)))
    ])
  where
    at : (j : ℕ) → low - 1 ≤ j → j ≤ length steps → is_seen_at_end (step_row f steps []) j ≡ true
    at j above here =
        elim (cases_lt j low) [
          | inl before ↦ or_right _ _ (fits (j + 1) (omega arith) (omega arith))
          | inr after ↦ or_left _ _ (fits j after here)
        ]

-- row after row without a live cell costs nothing
pub nothing_more : (f : Rules) (steps : List Step) (text : List ℕ) (d at from : ℕ) → from + d ≡ at → at ≤ length text →
    ((j : ℕ) → 0 ≤ j → j ≤ length steps → cell_of f (drop j steps) (marks_at f text at) ≡ dead_cell) →
    row_cells (step_form f) steps (marks_at f text from) ≡ row_cells (step_form f) steps (marks_at f text at)
nothing_more f steps text zero at from ends within none = ap (λ (i : ℕ). row_cells (step_form f) steps (marks_at f text i)) (let e : from ≡ at = omega arith in e)
nothing_more f steps text (suc d) at from ends within none =
    let n : ℕ = from + d in
    let e : at ≡ n + 1 = omega arith in
    let here : (j : ℕ) → 0 ≤ j → j ≤ length steps → cell_of f (drop j steps) (marks_at f text (n + 1)) ≡ dead_cell =
    subst (λ (i : ℕ). (j : ℕ) → 0 ≤ j → j ≤ length steps → cell_of f (drop j steps) (marks_at f text i) ≡ dead_cell) e none in
    let row : row_cells (step_form f) steps (marks_at f text n) ≡ row_cells (step_form f) steps (marks_at f text (n + 1)) =
    ap (row_cells (step_form f) steps) (marks_step f text n (omega arith))
    ∙ ap (λ (c : ℕ). row_cells (step_form f) steps (marks_at f text (n + 1)) + c) (dead_cells f steps (marks_at f text (n + 1)) (mark_at f text n) here)
    ∙ (let z : row_cells (step_form f) steps (marks_at f text (n + 1)) + 0 ≡ row_cells (step_form f) steps (marks_at f text (n + 1)) = omega arith in z) in
    nothing_more f steps text d n from refl (omega arith)
    (subst (λ (t : List Mark). (j : ℕ) → 0 ≤ j → j ≤ length steps → cell_of f (drop j steps) t ≡ dead_cell) (sym (marks_step f text n (omega arith)))
    (dead_above f steps (mark_at f text n) (marks_at f text (n + 1)) 0 here))
    ∙ row
    ∙ ap (λ (i : ℕ). row_cells (step_form f) steps (marks_at f text i)) (sym e)
