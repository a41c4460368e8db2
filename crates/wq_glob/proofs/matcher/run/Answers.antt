use Rattle.std.proofs.Common.{arith, ap, ◌∙◌, ◌≡◌, ◌+◌, length, [], ◌-◌, ℕ, List, sym, subst}
use Rattle.wq_glob.specs.Mark.{Mark}
use Rattle.wq_glob.specs.Cell.{IsRow, IsWindow, Bounds, marks_at}
use Rattle.wq_glob.proofs.RunLemmas.{marks_end, dead_from}
use Rattle.wq_glob.proofs.SeenLemmas.{nothing_more}
use Rattle.wq_glob.specs.Cost.{row_cells}
use Rattle.wq_glob.specs.Step.{step_form}
use Rattle.wq_glob.proofs.matcher.run.Goals as goal
use Rattle.wq_glob.proofs.matcher.run.Goals.{After-saturating_sub}

-- the cells of the row at the end of the text
ended : (c : After-saturating_sub) → c.fill_end-window.result.high + 1 - c.saturating_sub.result ≡ row_cells (step_form c.args.rules.now) c.args.steps.now (marks_at c.args.rules.now c.args.text.now (length c.args.text.now))
ended c =
    let all = c.fill_end-window.ensures.cells c.args.rules.now in
    (let e : c.fill_end-window.result.high + 1 - c.saturating_sub.result ≡ row_cells (step_form c.args.rules.now) c.args.steps.now [] = omega arith in e)
    ∙ ap (row_cells (step_form c.args.rules.now) c.args.steps.now) (sym (marks_end c.args.rules.now c.args.text.now))

pub loop-at-init : goal.loop-at-init
loop-at-init c =
    let end = sym (marks_end c.args.rules.now c.args.text.now) in
    record {
      from = omega arith;
      within = omega arith;
      filled = subst (λ (t : List Mark). IsRow c.args.rules.now c.args.steps.now t c.fill_end-window.new.row) end (c.fill_end-window.ensures.row c.args.rules.now);
      lives = subst (λ (t : List Mark). IsWindow c.args.rules.now c.args.steps.now t 0 c.fill_end-window.result) end (c.fill_end-window.ensures.lives c.args.rules.now);
      cells = ended c;
      bounded = omega arith;
      counted = omega arith;
    }

pub returns-in_default-clause-yes : goal.returns-in_default-clause-yes
returns-in_default-clause-yes c =
    let at : ℕ = c.loop-at.at - 1 in
    let none = subst (λ w. Bounds c.args.rules.now c.args.steps.now (marks_at c.args.rules.now c.args.text.now at) 0 w) c.in_default.is c.renew-renewal.ensures.window in
    sym (dead_from c.args.rules.now c.args.steps.now c.args.text.now (at - c.args.from) at c.args.from (omega arith) (omega arith) none)

pub returns-in_default-clause-cells : goal.returns-in_default-clause-cells
returns-in_default-clause-cells c =
    let at : ℕ = c.loop-at.at - 1 in
    let none = subst (λ w. Bounds c.args.rules.now c.args.steps.now (marks_at c.args.rules.now c.args.text.now at) 0 w) c.in_default.is c.renew-renewal.ensures.window in
    let here = c.renew-renewal.ensures.cells in
    let e : at + 1 ≡ c.loop-at.at = omega arith in
    let before = ap (λ (i : ℕ). row_cells (step_form c.args.rules.now) c.args.steps.now (marks_at c.args.rules.now c.args.text.now i)) e in
    let same = nothing_more c.args.rules.now c.args.steps.now c.args.text.now (at - c.args.from) at c.args.from (omega arith) (omega arith) none in
    omega arith
