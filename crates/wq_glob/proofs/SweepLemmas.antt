-- A sweep over a row from its end to its start, for one byte of the text.
use Rattle.std.proofs.Common.{◌≡◌, ◌≢◌, ℕ, ◌+◌, ◌<◌, ◌≤◌, Bool, false, List, ◌∷◌, ◌⊎◌, Option, Some, None, length, drop, get_or, set, sym, ◌∙◌, ap, inl, inr, arith, get_or-set_same, get_or-set_other}
use Rattle.std.proofs.lemmas.Bool.{cases_lt, cases_eq}
use Rattle.wq_glob.specs.Mark.{Mark}
use Rattle.wq_glob.specs.Cell.{cell_of, dead_cell, step_fits, IsRow, IsWindow, Bounds}
use Rattle.wq_glob.proofs.RowLemmas.{dead_above, dead_below}
use Rattle.wq_glob.specs.declared.rules.Rules.{Rules}
use Rattle.wq_glob.specs.declared.row.Cell.{Cell}
use Rattle.wq_glob.specs.declared.row.Window.{Window}
use Rattle.wq_glob.specs.declared.step.Step.{Step}

-- the row after a part of a sweep from its end, with the cells from `k` on renewed for the byte `x`
pub record IsSwept (f : Rules) (steps : List Step) (x : Mark) (text : List Mark) (row : List Cell) (k : ℕ) (old_next new_next : Bool) : Type 0 where
  pub renewed : (j : ℕ) → k ≤ j → j ≤ length steps → get_or row j dead_cell ≡ cell_of f (drop j steps) (x ∷ text)
  pub left : (j : ℕ) → j < k → j ≤ length steps → get_or row j dead_cell ≡ cell_of f (drop j steps) text
  pub old_fits : k ≤ length steps → old_next ≡ step_fits f (drop k steps) text
  pub new_fits : k ≤ length steps → new_next ≡ step_fits f (drop k steps) (x ∷ text)

module _ (f : Rules) (steps : List Step) (x : Mark) (text : List Mark) where
  -- after the window all cells are dead, and stay so
  pub high_dead : (w : Window) → IsWindow f steps text 0 w → (j : ℕ) → w.high + 1 ≤ j → j ≤ length steps → cell_of f (drop j steps) (x ∷ text) ≡ dead_cell
  high_dead w lives = dead_above f steps x text (w.high + 1) (λ j from within. lives.above j (omega arith) within)

  -- the sweep begins after the last live cell
  pub swept_none : (row : List Cell) (w : Window) → IsRow f steps text row → IsWindow f steps text 0 w → IsSwept f steps x text row (w.high + 1) false false
  swept_none row w filled lives = record {
    renewed = λ j from within. filled j within ∙ lives.above j (omega arith) within ∙ sym (high_dead w lives j from within);
    left = λ j before within. filled j within;
    old_fits = λ within. sym (ap (λ (c : Cell). c.fits) (lives.above (w.high + 1) (omega arith) within));
    new_fits = λ within. sym (ap (λ (c : Cell). c.fits) (high_dead w lives (w.high + 1) (omega arith) within));
  }

  -- and goes on by one cell
  pub swept_more : (row : List Cell) (k n : ℕ) (old_next new_next : Bool) (new : Cell) → n + 1 ≡ k → n ≤ length steps → length steps < length row → IsSwept f steps x text row k old_next new_next → new ≡ cell_of f (drop n steps) (x ∷ text) → IsSwept f steps x text (set row n new) n (get_or row n dead_cell).fits new.fits
  swept_more row k n old_next new_next new next within room swept new_is =
      let inside : n < length row = omega arith in
      record {
        renewed = λ j from at.
            elim (cases_eq j n) [
              | inl same ↦ rw (same, get_or-set_same) new_is
              | inr other ↦ get_or-set_other row n j new dead_cell other ∙ swept.renewed j (omega arith) at
            ];
        left = λ j before at. let other : j ≢ n = omega arith in get_or-set_other row n j new dead_cell other ∙ swept.left j (omega arith) at;
        old_fits = λ at. ap (λ (c : Cell). c.fits) (swept.left n (omega arith) at);
        new_fits = λ at. ap (λ (c : Cell). c.fits) new_is;
      }

  -- when it stops, the cells before it are dead
  pub low_dead : (row : List Cell) (w : Window) (k : ℕ) (old_next new_next : Bool) → IsWindow f steps text 0 w → IsSwept f steps x text row k old_next new_next → (k ≡ 0) ⊎ ((k ≤ w.low) × (old_next ≡ false) × (new_next ≡ false)) → (j : ℕ) → j < k → cell_of f (drop j steps) (x ∷ text) ≡ dead_cell
  low_dead row w k old_next new_next lives swept (inl start) j before = absurd (omega arith)
  low_dead row w k old_next new_next lives swept (inr (low, old_none, new_none)) j before =
      let within : k ≤ length steps = omega (arith, lives.ordered, lives.within) in
      dead_below f steps x text k within (λ i h. lives.below i (omega arith) (omega arith) (omega arith))
      (sym (swept.old_fits within) ∙ old_none) (sym (swept.new_fits within) ∙ new_none) j before

  -- so the row is that of the text with the byte
  pub swept_all : (row : List Cell) (w : Window) (k : ℕ) (old_next new_next : Bool) → IsWindow f steps text 0 w → IsSwept f steps x text row k old_next new_next → (k ≡ 0) ⊎ ((k ≤ w.low) × (old_next ≡ false) × (new_next ≡ false)) → IsRow f steps (x ∷ text) row
  swept_all row w k old_next new_next lives swept stop j within =
      elim (cases_lt j k) [
        | inr after ↦ swept.renewed j after within
        | inl before ↦
            swept.left j before within
            ∙ at_low stop before
            ∙ sym (low_dead row w k old_next new_next lives swept stop j before)
      ]
    where
      at_low : (k ≡ 0) ⊎ ((k ≤ w.low) × (old_next ≡ false) × (new_next ≡ false)) → j < k → cell_of f (drop j steps) text ≡ dead_cell
      at_low (inl start) before = absurd (omega arith)
      at_low (inr (low, old_none, new_none)) before = lives.below j (omega arith) (omega arith) within

  -- and its live cells are in the window of those that were looked at
  pub bounds_all : (k : ℕ) (live : Option Window) → ((j : ℕ) → j < k → cell_of f (drop j steps) (x ∷ text) ≡ dead_cell) → Bounds f steps (x ∷ text) k live → Bounds f steps (x ∷ text) 0 live
  bounds_all k None before none =
      λ j from within. elim (cases_lt j k) [ inl low ↦ before j low | inr high ↦ none j high within ]
  bounds_all k (Some w) before some = record {
    from = omega arith;
    ordered = some.ordered;
    within = some.within;
    below = λ j from low within. elim (cases_lt j k) [ inl lower ↦ before j lower | inr higher ↦ some.below j higher low within ];
    above = some.above;
    first = some.first;
    last = some.last;
  }
