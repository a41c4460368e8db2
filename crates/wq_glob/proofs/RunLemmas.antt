-- Row after row, from the end of the text to a place.
use Rattle.std.proofs.Common.{◌≡◌, ℕ, zero, suc, ◌+◌, ◌≤◌, true, false, List, [], length, drop, refl, sym, ap, subst, arith}
use Rattle.wq_glob.specs.Mark.{Mark}
use Rattle.wq_glob.specs.Cell.{marks_of, cell_of, dead_cell, step_fits, marks_at, mark_at}
use Rattle.wq_glob.proofs.RowLemmas.{dead_above, drop_all}
use Rattle.wq_glob.proofs.MarkLemmas.{marks_step, length-marks_from}
use Rattle.wq_glob.specs.declared.rules.Rules.{Rules}
use Rattle.wq_glob.specs.declared.row.Cell.{Cell}
use Rattle.wq_glob.specs.declared.step.Step.{Step}

-- at the end of the text there are no marks
pub marks_end : (f : Rules) (text : List ℕ) → marks_at f text (length text) ≡ []
marks_end f text =
    let e : length (marks_of f text) ≤ length text = omega (arith, length-marks_from f.flags.dotfiles true text) in
    drop_all (marks_of f text) (length text) e

-- a row of dead cells stays so up to the front of the text
pub dead_from : (f : Rules) (steps : List Step) (text : List ℕ) (d at from : ℕ) → from + d ≡ at → at ≤ length text →
    ((j : ℕ) → 0 ≤ j → j ≤ length steps → cell_of f (drop j steps) (marks_at f text at) ≡ dead_cell) → step_fits f steps (marks_at f text from) ≡ false
dead_from f steps text zero at from ends within none =
    let e : at ≡ from = omega arith in
    subst (λ (i : ℕ). step_fits f steps (marks_at f text i) ≡ false) e (ap (λ (c : Cell). c.fits) (none 0 (omega arith) (omega arith)))
dead_from f steps text (suc d) at from ends within none =
    let n : ℕ = from + d in
    let e : at ≡ n + 1 = omega arith in
    dead_from f steps text d n from refl (omega arith)
    (subst (λ (t : List Mark). (j : ℕ) → 0 ≤ j → j ≤ length steps → cell_of f (drop j steps) t ≡ dead_cell) (sym (marks_step f text n (omega arith)))
    (dead_above f steps (mark_at f text n) (marks_at f text (n + 1)) 0
    (subst (λ (i : ℕ). (j : ℕ) → 0 ≤ j → j ≤ length steps → cell_of f (drop j steps) (marks_at f text i) ≡ dead_cell) e none)))
