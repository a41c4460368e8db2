-- The table of a compiled pattern, as the matcher fills it. It goes from the end of the text to its
-- start, and in each row from the last step to the first. This library's own.
use Rattle.std.specs.Prelude.{◌≡◌, ℕ, ◌+◌, ◌-◌, ◌<◌, ◌≤◌, Bool, true, false, ◌==◌, ◌&&◌, ◌||◌}
use Rattle.std.specs.Prelude.{List, [], ◌∷◌, length, drop, slice_index, slice_index_or}
use Rattle.std.specs.Prelude.{Option, MatchOption, IsTrue}
use Rattle.wq_base.specs.Byte.{is_slash}
use Rattle.wq_glob.specs.Mark.{Mark, mark, marks}
use Rattle.wq_glob.specs.FitsTest.{Reach, Single, Many, Directories, fits_by}
use Rattle.wq_glob.specs.Cost.{agrees, is_live, row_cells}
use Rattle.wq_glob.specs.Table.{Row, cell_by, row_by}
use Rattle.wq_glob.specs.Step.{step_reach, step_takes, step_form}
use Rattle.wq_glob.specs.declared.row.Cell.{Cell}
use Rattle.wq_glob.specs.declared.row.Seen.{Seen}
use Rattle.wq_glob.specs.declared.row.Window.{Window}
use Rattle.wq_glob.specs.declared.rules.Rules.{Rules}
use Rattle.wq_glob.specs.declared.step.Step.{Step}

-- the steps fit the text
abbrev pub step_fits : Rules → List Step → List Mark → Bool
step_fits f steps text = fits_by (step_form f) steps text

-- the steps from `k` on fit the end of a text
abbrev pub fits_at_end : Rules → List Step → ℕ → Bool
fits_at_end f steps k = step_fits f (drop k steps) []

-- the cell of the steps at the text
abbrev pub cell_of : Rules → List Step → List Mark → Cell
cell_of f steps text = cell_by (step_form f) steps text

-- the row of the steps at the text
abbrev pub step_row : Rules → List Step → List Mark → Row
step_row f steps text = row_by (step_form f) steps text

-- the cell of a tail that has begun no `**/`
abbrev pub fit_cell : Bool → Cell
fit_cell fits = record { fits = fits; begun = false }

-- the cell of a tail that neither fits nor has begun
abbrev pub dead_cell : Cell
dead_cell = fit_cell false

-- a cell, from those around it: its own and the next one after the byte, the next one at the byte
abbrev pub next_cell : Reach → Bool → Bool → Cell → Bool → Bool → Cell
next_cell Single takes slash old old_next new_next = fit_cell (takes && old_next)
next_cell Many takes slash old old_next new_next = fit_cell (new_next || (takes && old.fits))
next_cell Directories takes slash old old_next new_next =
    let begins = takes && (old.begun || (slash && old_next)) in
    record { fits = new_next || begins; begun = begins }

-- the cell of a step at a byte, from the cells around it
abbrev pub step_cell : Rules → Step → Seen → Cell → Bool → Bool → Cell
step_cell f step seen old old_next new_next =
    next_cell (step_reach step) (step_takes f step seen) seen.slash old old_next new_next

-- the cells around the one at `k` before the byte `x`: its own, and whether the next one fits
pub record AreRound (f : Rules) (steps : List Step) (k : ℕ) (x : Mark) (text : List Mark)
    (old : Cell) (old_next : Bool) (new_next : Bool) : Type 0 where
  pub own : old ≡ step_row f steps text k
  pub behind : k < length steps → old_next ≡ step_fits f (drop (k + 1) steps) text
  pub here : k < length steps → new_next ≡ step_fits f (drop (k + 1) steps) (x ∷ text)

-- a place of a text is at the front of a name
abbrev pub is_front : List ℕ → ℕ → Bool
is_front text at = at == 0 || is_slash (slice_index text (at - 1))

-- the mark at a place of a text
abbrev pub mark_at : Rules → List ℕ → ℕ → Mark
mark_at f text at = mark f.flags.dotfiles (is_front text at) (slice_index text at)

-- the marks of a text
abbrev pub marks_of : Rules → List ℕ → List Mark
marks_of f text = marks f.flags.dotfiles text

-- the marks of a text from a place on
abbrev pub marks_at : Rules → List ℕ → ℕ → List Mark
marks_at f text at = drop at (marks_of f text)

-- the step at a place is a byte that the text has there
abbrev pub step_agrees : Rules → List Step → List ℕ → ℕ → Bool
step_agrees f steps text at = agrees (step_form f) (drop at steps) (marks_at f text at)

-- how many cells the rows of the steps cost
abbrev pub step_cells : Rules → List Step → List Mark → ℕ
step_cells f steps text = row_cells (step_form f) steps text

-- the row has no live cell
abbrev pub IsBlank : List Cell → Type 0
IsBlank row = (j : ℕ) → slice_index_or row j dead_cell ≡ dead_cell

-- the row holds the cell of each tail of the steps
abbrev pub IsRow : Rules → List Step → List Mark → List Cell → Type 0
IsRow f steps text row =
    (j : ℕ) → j ≤ length steps → slice_index_or row j dead_cell ≡ step_row f steps text j

-- the cells of the steps from `k` on are dead
abbrev pub AreDead : Rules → List Step → List Mark → ℕ → Type 0
AreDead f steps text k = (j : ℕ) → k ≤ j → j ≤ length steps → step_row f steps text j ≡ dead_cell

-- of the cells from `k` on, the first that lives and the last
pub record IsWindow (f : Rules) (steps : List Step) (text : List Mark) (k : ℕ)
    (w : Window) : Type 0 where
  pub from : k ≤ w.low
  pub ordered : w.low ≤ w.high
  pub within : w.high ≤ length steps
  pub below : (j : ℕ) → k ≤ j → j < w.low → j ≤ length steps → step_row f steps text j ≡ dead_cell
  pub above : (j : ℕ) → w.high < j → j ≤ length steps → step_row f steps text j ≡ dead_cell
  pub first : IsTrue (is_live (step_row f steps text w.low))
  pub last : IsTrue (is_live (step_row f steps text w.high))

-- the window of the cells from `k` on, or none if all of them are dead
abbrev pub Bounds : Rules → List Step → List Mark → ℕ → Option Window → Type 0
Bounds f steps text k w = MatchOption w (AreDead f steps text k) (IsWindow f steps text k)

-- the window of the cells after `k`, and the one with the cell at `k`
abbrev pub Widens : ℕ → Cell → Option Window → Option Window → Type 0
Widens k cell narrow wide = (f : Rules) (steps : List Step) (text : List Mark)
    → k ≤ length steps → Bounds f steps text (k + 1) narrow
    → cell ≡ step_row f steps text k → Bounds f steps text k wide

-- a part of this reach may be empty
abbrev pub may_be_empty : Reach → Bool
may_be_empty Single = false
may_be_empty _ = true
