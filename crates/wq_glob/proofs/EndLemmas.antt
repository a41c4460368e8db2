-- The row at the end of the text.
use Rattle.std.proofs.Common.{◌≡◌, ◌≢◌, ℕ, zero, suc, ◌+◌, ◌-◌, ◌<◌, ◌≤◌, Bool, true, false, ◌&&◌, List, [], ◌∷◌, ◌⊎◌, length, drop, get_or, set, refl, sym, ◌∙◌, ap, subst, inl, inr, arith, get_or-set_same, get_or-set_other, drop-cons}
use Rattle.std.proofs.lemmas.Bool.{cases_lt, cases_eq, and_right, or_left}
use Rattle.std.proofs.lemmas.List.{get_or-replicate, get_or_past}
use Rattle.std.proofs.Math.ListN.{replicate, length-replicate}
use Rattle.std.proofs.Math.Bool.{or-false}
use Rattle.wq_glob.specs.Step.{step_reach}
use Rattle.wq_glob.specs.Cell.{cell_of, dead_cell, step_fits, IsRow, IsWindow, IsBlank, may_be_empty}
use Rattle.wq_glob.proofs.RowLemmas.{drop_all}
use Rattle.wq_glob.specs.declared.rules.Rules.{Rules}
use Rattle.wq_glob.specs.declared.row.Cell.{Cell}
use Rattle.wq_glob.specs.declared.row.Window.{Window}
use Rattle.wq_glob.specs.declared.step.Step.{Step}
use Rattle.wq_glob.specs.declared.step.Step.TheVariants.{Byte, AnyByte, Set, Stars, Below, Tail, Never}

-- at the end of the text a step fits if it may take nothing and the next ones fit
end_step : (f : Rules) (s : Step) (later : List Step) → cell_of f (s ∷ later) [] ≡ record { fits = may_be_empty (step_reach s) && step_fits f later []; begun = false }
end_step f (Byte b) later = refl
end_step f AnyByte later = refl
end_step f (Set set) later = refl
end_step f Stars later = refl
end_step f Below later = ap (λ (b : Bool). record { fits = b; begun = false }) (or-false (step_fits f later []))
end_step f Tail later = refl
end_step f Never later = refl

-- at the end of the text no part has begun
pub end_cell : (f : Rules) (steps : List Step) → cell_of f steps [] ≡ record { fits = step_fits f steps []; begun = false }
end_cell f [] = refl
end_cell f (s ∷ later) = end_step f s later ∙ ap (λ (b : Bool). record { fits = b; begun = false }) (sym (ap (λ (c : Cell). c.fits) (end_step f s later)))

end_at : (f : Rules) (steps : List Step) (j : ℕ) (d : Step) → j < length steps → step_fits f (drop j steps) [] ≡ (may_be_empty (step_reach (get_or steps j d)) && step_fits f (drop (suc j) steps) [])
end_at f steps j d within =
    ap (λ (l : List Step). step_fits f l []) (drop-cons steps j d within)
    ∙ ap (λ (c : Cell). c.fits) (end_step f (get_or steps j d) (drop (suc j) steps))

-- below a tail that does not fit none fits
pub none_below : (f : Rules) (steps : List Step) (n : ℕ) → n < length steps → step_fits f (drop n steps) [] ≡ false → (d j : ℕ) → j + d ≡ n → step_fits f (drop j steps) [] ≡ false
none_below f steps n within not_here zero j ends = subst (λ (i : ℕ). step_fits f (drop i steps) [] ≡ false) (let e : n ≡ j = omega arith in e) not_here
none_below f steps n within not_here (suc d) j ends =
    end_at f steps j Never (omega arith)
    ∙ and_right _ _ (none_below f steps n within not_here d (suc j) (omega arith))

-- the steps before `low` may not take nothing, and those from it on do
pub record IsEndRow (f : Rules) (steps : List Step) (row : List Cell) (low : ℕ) : Type 0 where
  pub within : low ≤ length steps
  pub filled : (j : ℕ) → low ≤ j → j ≤ length steps → get_or row j dead_cell ≡ cell_of f (drop j steps) []
  pub fitting : step_fits f (drop low steps) [] ≡ true
  pub blank : (j : ℕ) → j < low → get_or row j dead_cell ≡ dead_cell
  pub each : (j : ℕ) → low ≤ j → j ≤ length steps → step_fits f (drop j steps) [] ≡ true

module _ (f : Rules) (steps : List Step) where
  -- the last cell of a row that was blank
  pub end_none : (row : List Cell) (last : Cell) → last ≡ record { fits = true; begun = false } → length steps < length row → IsBlank row → IsEndRow f steps (set row (length steps) last) (length steps)
  end_none row last last_is room blank =
      let nothing : drop (length steps) steps ≡ [] = drop_all steps (length steps) (omega arith) in
      record {
        within = omega arith;
        filled = λ j from at. let e : j ≡ length steps = omega arith in rw (e, get_or-set_same, nothing) last_is;
        fitting = rw nothing refl;
        blank = λ j before. let other : j ≢ length steps = omega arith in get_or-set_other row (length steps) j last dead_cell other ∙ blank j;
        each = λ j from at. let e : j ≡ length steps = omega arith in rw (e, nothing) refl;
      }

  -- and one cell more
  pub end_more : (row : List Cell) (low n : ℕ) (cell : Cell) → n + 1 ≡ low → cell ≡ record { fits = true; begun = false } → length steps < length row → IsEndRow f steps row low → step_fits f (drop n steps) [] ≡ true → IsEndRow f steps (set row n cell) n
  end_more row low n cell next cell_is room was fits =
      let inside : n < length row = omega (arith, was.within) in
      record {
        within = omega (arith, was.within);
        filled = λ j from at.
            elim (cases_eq j n) [
              | inl same ↦ rw (same, get_or-set_same) (cell_is ∙ sym (end_cell f (drop n steps) ∙ ap (λ (b : Bool). record { fits = b; begun = false }) fits))
              | inr other ↦ get_or-set_other row n j cell dead_cell other ∙ was.filled j (omega arith) at
            ];
        fitting = fits;
        blank = λ j before. let other : j ≢ n = omega arith in get_or-set_other row n j cell dead_cell other ∙ was.blank j (omega arith);
        each = λ j from at.
            elim (cases_eq j n) [
              | inl same ↦ ap (λ (i : ℕ). step_fits f (drop i steps) []) same ∙ fits
              | inr other ↦ was.each j (omega arith) at
            ];
      }

  -- before the first cell that fits all are dead
  pub low_none : (low : ℕ) → low ≤ length steps → (low ≡ 0) ⊎ (step_fits f (drop (low - 1) steps) [] ≡ false) → (j : ℕ) → j < low → cell_of f (drop j steps) [] ≡ dead_cell
  low_none low within (inl start) j before = absurd (omega arith)
  low_none low within (inr not_here) j before =
      end_cell f (drop j steps)
      ∙ ap (λ (b : Bool). record { fits = b; begun = false }) (none_below f steps (low - 1) (omega arith) not_here (low - 1 - j) j (omega arith))

  -- when the sweep stops, the row holds every cell at the end of the text
  pub end_row : (row : List Cell) (low : ℕ) → IsEndRow f steps row low → (low ≡ 0) ⊎ (step_fits f (drop (low - 1) steps) [] ≡ false) → IsRow f steps [] row
  end_row row low was stop j within =
      elim (cases_lt j low) [
        | inr after ↦ was.filled j after within
        | inl before ↦ was.blank j before ∙ sym (low_none low was.within stop j before)
      ]

  -- and the cells from there on are its window
  pub end_window : (row : List Cell) (w : Window) → w.high ≡ length steps → IsEndRow f steps row w.low → (w.low ≡ 0) ⊎ (step_fits f (drop (w.low - 1) steps) [] ≡ false) → IsWindow f steps [] 0 w
  end_window row w high was stop = record {
    from = omega arith;
    ordered = omega (arith, was.within);
    within = omega arith;
    below = λ j from before at. low_none w.low was.within stop j before;
    above = λ j after at. absurd (omega arith);
    first = or_left _ _ (was.each w.low (omega arith) was.within);
    last = or_left _ _ (was.each w.high (omega (arith, was.within)) (omega arith));
  }

-- a row of dead cells is blank
pub blank_row : (n : ℕ) → IsBlank (replicate n dead_cell)
blank_row n j =
    elim (cases_lt j n) [
      | inl inside ↦ get_or-replicate n j dead_cell dead_cell inside
      | inr past ↦ get_or_past (replicate n dead_cell) j dead_cell (rw length-replicate past)
    ]
