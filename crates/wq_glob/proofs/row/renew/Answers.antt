use Rattle.std.proofs.Common.{arith, ◌+◌, ◌-◌, ◌≡◌, ◌≤◌, ◌∷◌, ℕ, sym, ◌∙◌, ap, subst, length, drop}
use Rattle.wq_glob.specs.Cost.{row_cells}
use Rattle.wq_glob.specs.Step.{step_form}
use Rattle.wq_glob.specs.Cell.{IsRow, Bounds, cell_of, mark_at, marks_at, step_fits}
use Rattle.wq_glob.proofs.MarkLemmas.{marks_step}
use Rattle.wq_glob.proofs.SeenLemmas.{goes_on, stops, opened_more, shut_before, swept_cells}
use Rattle.wq_glob.proofs.SweepLemmas.{swept_none, swept_more, swept_all, high_dead, low_dead, bounds_all}
use Rattle.wq_glob.proofs.row.renew.Goals as goal
use Rattle.wq_glob.proofs.row.renew.Goals.{After-window_with-live}

pub loop-seen-init : goal.loop-seen-init
loop-seen-init c =
    let q = c.requires in
    record {
      in_range = omega arith;
      swept = swept_none _ _ _ _ _ c.args.window q.filled q.lives;
      opened = λ j from within. absurd (omega arith);
      bounds = high_dead _ _ _ _ c.args.window q.lives;
    }

-- the cell before `k` is the one of its tail at the byte
renewed : (c : After-window_with-live) → c.cell_at-new.result ≡ cell_of c.args.rules.now (drop (c.loop-seen.k - 1) c.args.steps.now) (mark_at c.args.rules.now c.args.text.now c.args.at ∷ marks_at c.args.rules.now c.args.text.now (c.args.at + 1))
renewed c =
    let f = c.args.rules.now in
    let steps = c.args.steps.now in
    let x = mark_at f c.args.text.now c.args.at in
    let later = marks_at f c.args.text.now (c.args.at + 1) in
    let n : ℕ = c.loop-seen.k - 1 in
    let e : n + 1 ≡ c.loop-seen.k = omega (arith, goes_on c.loop-seen.k c.args.window.low c.loop-seen.old_next c.loop-seen.new_next c.loop-seen-test.ensures) in
    let swept = c.loop-seen.invariant.swept in
    c.cell_at-new.ensures x later c.seen_at-seen.ensures
    record {
      own = swept.left n (omega arith) (omega (arith, c.requires.lives.within, c.loop-seen.invariant.in_range));
      behind = λ within. subst (λ (k : ℕ). c.loop-seen.old_next ≡ step_fits f (drop k steps) later) (sym e) (swept.old_fits (omega arith));
      here = λ within. subst (λ (k : ℕ). c.loop-seen.new_next ≡ step_fits f (drop k steps) (x ∷ later)) (sym e) (swept.new_fits (omega arith));
    }

pub loop-seen-preserved : goal.loop-seen-preserved
loop-seen-preserved c =
    let n : ℕ = c.loop-seen.k - 1 in
    let e : n + 1 ≡ c.loop-seen.k = omega (arith, goes_on c.loop-seen.k c.args.window.low c.loop-seen.old_next c.loop-seen.new_next c.loop-seen-test.ensures) in
    let within : n ≤ length c.args.steps.now = omega (arith, c.requires.lives.within, c.loop-seen.invariant.in_range) in
    record {
      in_range = omega arith;
      swept = swept_more _ _ _ _ c.loop-seen.row c.loop-seen.k n _ _ _ e within (omega arith) c.loop-seen.invariant.swept (renewed c);
      opened = opened_more _ _ _ _ c.args.window c.requires.lives c.loop-seen.k n _ _ e c.loop-seen-test.ensures c.loop-seen.invariant.swept.old_fits c.loop-seen.invariant.swept.new_fits c.loop-seen.invariant.opened;
      bounds =
          c.window_with-live.ensures _ _ _ within
          (subst (λ (k : ℕ). Bounds c.args.rules.now c.args.steps.now (mark_at c.args.rules.now c.args.text.now c.args.at ∷ marks_at c.args.rules.now c.args.text.now (c.args.at + 1)) k c.loop-seen.live) (sym e) c.loop-seen.invariant.bounds)
          (renewed c);
    }

pub returns-clause-row : goal.returns-clause-row
returns-clause-row c =
    let all = swept_all _ _ _ _ c.loop-seen.row c.args.window c.loop-seen.k _ _ c.requires.lives c.loop-seen.invariant.swept (stops _ _ _ _ c.loop-seen-test.ensures) in
    subst (λ t. IsRow c.args.rules.now c.args.steps.now t c.loop-seen.row) (sym (marks_step c.args.rules.now c.args.text.now c.args.at c.requires.place)) all

pub returns-clause-window : goal.returns-clause-window
returns-clause-window c =
    let before = low_dead _ _ _ _ c.loop-seen.row c.args.window c.loop-seen.k _ _ c.requires.lives c.loop-seen.invariant.swept (stops _ _ _ _ c.loop-seen-test.ensures) in
    subst (λ t. Bounds c.args.rules.now c.args.steps.now t 0 c.loop-seen.live) (sym (marks_step c.args.rules.now c.args.text.now c.args.at c.requires.place))
    (bounds_all _ _ _ _ c.loop-seen.k c.loop-seen.live before c.loop-seen.invariant.bounds)

pub returns-clause-cells : goal.returns-clause-cells
returns-clause-cells c =
    let f = c.args.rules.now in
    let steps = c.args.steps.now in
    let x = mark_at f c.args.text.now c.args.at in
    let later = marks_at f c.args.text.now (c.args.at + 1) in
    ap (row_cells (step_form f) steps) (marks_step f c.args.text.now c.args.at c.requires.place)
    ∙ ap (λ (n : ℕ). row_cells (step_form f) steps later + n)
    (swept_cells f steps later x c.args.window c.requires.lives c.loop-seen.k c.loop-seen.invariant.in_range c.loop-seen.invariant.opened
    (shut_before f steps later x c.args.window c.requires.lives c.loop-seen.row c.loop-seen.k _ _ c.loop-seen.invariant.swept (stops _ _ _ _ c.loop-seen-test.ensures)))
