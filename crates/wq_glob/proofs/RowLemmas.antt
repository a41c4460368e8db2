-- The cells of a row, from those after the byte.
use Rattle.std.proofs.Common.{◌≡◌, ℕ, zero, suc, ◌+◌, ◌-◌, ◌<◌, ◌≤◌, Bool, true, false, List, [], ◌∷◌, length, drop, get_or, refl, sym, ◌∙◌, ap, subst, inl, inr, arith, drop-cons}
use Rattle.std.proofs.lemmas.Bool.{cases_eq}
use Rattle.std.proofs.lemmas.List.{drop_more}
use Rattle.wq_base.specs.Byte.{is_slash}
use Rattle.wq_glob.specs.Mark.{Mark}
use Rattle.wq_glob.specs.FitsTest.{Reach, Single, Many, Directories}
use Rattle.wq_glob.specs.Step.{step_reach, step_takes, seen_of}
use Rattle.wq_glob.specs.Cell.{cell_of, next_cell, dead_cell, step_fits}
use Rattle.wq_glob.specs.declared.rules.Rules.{Rules}
use Rattle.wq_glob.specs.declared.row.Cell.{Cell}
use Rattle.wq_glob.specs.declared.row.Seen.{Seen}
use Rattle.wq_glob.specs.declared.step.Step.{Step}
use Rattle.wq_glob.specs.declared.step.Step.TheVariants.{Byte, AnyByte, Set, Stars, Below, Tail, Never}

-- the recurrence of the cells
cell_step : (f : Rules) (s : Step) (later : List Step) (x : Mark) (text : List Mark) → cell_of f (s ∷ later) (x ∷ text) ≡ next_cell (step_reach s) (step_takes f s (seen_of f x)) (is_slash x.byte) (cell_of f (s ∷ later) text) (step_fits f later text) (step_fits f later (x ∷ text))
cell_step f (Byte b) later x text = refl
cell_step f AnyByte later x text = refl
cell_step f (Set set) later x text = refl
cell_step f Stars later x text = refl
cell_step f Below later x text = refl
cell_step f Tail later x text = refl
cell_step f Never later x text = refl

-- the cell at a step, from the cells round it
pub cell_at_step : (f : Rules) (steps : List Step) (k : ℕ) (d : Step) (seen : Seen) (x : Mark) (text : List Mark) (old : Cell) (old_next new_next : Bool) →
    k < length steps → seen ≡ seen_of f x → old ≡ cell_of f (drop k steps) text →
    old_next ≡ step_fits f (drop (k + 1) steps) text → new_next ≡ step_fits f (drop (k + 1) steps) (x ∷ text) →
    next_cell (step_reach (get_or steps k d)) (step_takes f (get_or steps k d) seen) seen.slash old old_next new_next ≡ cell_of f (drop k steps) (x ∷ text)
cell_at_step f steps k d seen x text old old_next new_next within seen_is old_is old_next_is new_next_is =
    rw (seen_is, old_is, old_next_is, new_next_is, drop_more steps k d within)
    (sym (cell_step f (get_or steps k d) (drop (k + 1) steps) x text))

-- after the last step there is no cell but a dead one at a byte
pub drop_all : {A : Type 0} (xs : List A) (k : ℕ) → length xs ≤ k → drop k xs ≡ []
drop_all [] k h = drop_nil k
  where
    drop_nil : {B : Type 0} (n : ℕ) → drop {A = B} n [] ≡ []
    drop_nil zero = refl
    drop_nil (suc n) = refl
drop_all (x ∷ xs) zero h = absurd (omega arith)
drop_all (x ∷ xs) (suc k) h = drop_all xs k (omega arith)

-- after the last step the cell at a byte is dead
pub cell_at_end : (f : Rules) (steps : List Step) (k : ℕ) (x : Mark) (text : List Mark) → length steps ≤ k → dead_cell ≡ cell_of f (drop k steps) (x ∷ text)
cell_at_end f steps k x text past = rw (drop_all steps k past) refl

dead_next : (r : Reach) (takes slash : Bool) → next_cell r takes slash dead_cell false false ≡ dead_cell
dead_next Single true slash = refl
dead_next Single false slash = refl
dead_next Many true slash = refl
dead_next Many false slash = refl
dead_next Directories true true = refl
dead_next Directories true false = refl
dead_next Directories false slash = refl

dead_from : (r : Reach) (takes slash : Bool) (old : Cell) (old_next new_next : Bool) → old ≡ dead_cell → old_next ≡ false → new_next ≡ false → next_cell r takes slash old old_next new_next ≡ dead_cell
dead_from r takes slash old old_next new_next old_is old_next_is new_next_is = rw (old_is, old_next_is, new_next_is) (dead_next r takes slash)

dead_cons : (f : Rules) (s : Step) (later : List Step) (x : Mark) (text : List Mark) → cell_of f (s ∷ later) text ≡ dead_cell → step_fits f later text ≡ false → step_fits f later (x ∷ text) ≡ false → cell_of f (s ∷ later) (x ∷ text) ≡ dead_cell
dead_cons f s later x text was old_next new_next =
    cell_step f s later x text ∙ dead_from _ _ _ _ _ _ was old_next new_next

-- a cell is dead if the cells around it are
dead_at : (f : Rules) (steps : List Step) (x : Mark) (text : List Mark) (j : ℕ) → j < length steps → cell_of f (drop j steps) text ≡ dead_cell → step_fits f (drop (suc j) steps) text ≡ false → step_fits f (drop (suc j) steps) (x ∷ text) ≡ false → cell_of f (drop j steps) (x ∷ text) ≡ dead_cell
dead_at f steps x text j within was old_next new_next =
    subst (λ (l : List Step). cell_of f l text ≡ dead_cell → cell_of f l (x ∷ text) ≡ dead_cell) (sym (drop-cons steps j Never within))
    (λ h. dead_cons f (get_or steps j Never) (drop (suc j) steps) x text h old_next new_next) was

-- tails of which each is dead stay so
stay_dead : (f : Rules) (steps : List Step) (x : Mark) (text : List Mark) (low : ℕ) → ((j : ℕ) → low ≤ j → j ≤ length steps → cell_of f (drop j steps) text ≡ dead_cell) → (d j : ℕ) → j + d ≡ length steps → low ≤ j → cell_of f (drop j steps) (x ∷ text) ≡ dead_cell
stay_dead f steps x text low was zero j ends from = sym (cell_at_end f steps j x text (omega arith))
stay_dead f steps x text low was (suc d) j ends from =
    dead_at f steps x text j (omega arith) (was j from (omega arith))
    (ap (λ (c : Cell). c.fits) (was (suc j) (omega arith) (omega arith)))
    (ap (λ (c : Cell). c.fits) (stay_dead f steps x text low was d (suc j) (omega arith) (omega arith)))

-- each of them, by its place
pub dead_above : (f : Rules) (steps : List Step) (x : Mark) (text : List Mark) (low : ℕ) → ((j : ℕ) → low ≤ j → j ≤ length steps → cell_of f (drop j steps) text ≡ dead_cell) → (j : ℕ) → low ≤ j → j ≤ length steps → cell_of f (drop j steps) (x ∷ text) ≡ dead_cell
dead_above f steps x text low was j from within = stay_dead f steps x text low was (length steps - j) j (omega arith) from

-- tails that were dead stay so below one that neither fitted nor fits
pub dead_below : (f : Rules) (steps : List Step) (x : Mark) (text : List Mark) (n : ℕ) → n ≤ length steps → ((j : ℕ) → j < n → cell_of f (drop j steps) text ≡ dead_cell) → step_fits f (drop n steps) text ≡ false → step_fits f (drop n steps) (x ∷ text) ≡ false → (j : ℕ) → j < n → cell_of f (drop j steps) (x ∷ text) ≡ dead_cell
dead_below f steps x text zero within was old_next new_next j below = absurd (omega arith)
dead_below f steps x text (suc n) within was old_next new_next j below =
    let here : cell_of f (drop n steps) (x ∷ text) ≡ dead_cell = dead_at f steps x text n (omega arith) (was n (omega arith)) old_next new_next in
    elim (cases_eq j n) [
      | inl same ↦ subst (λ (i : ℕ). cell_of f (drop i steps) (x ∷ text) ≡ dead_cell) (sym same) here
      | inr other ↦
          dead_below f steps x text n (omega arith) (λ i h. was i (omega arith)) (ap (λ (c : Cell). c.fits) (was n (omega arith)))
          (ap (λ (c : Cell). c.fits) here) j (omega arith)
    ]
