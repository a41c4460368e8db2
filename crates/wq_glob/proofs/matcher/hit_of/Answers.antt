use Rattle.std.proofs.Common.{◌-◌, length-drop, ◌≡◌, ◌+◌, ◌∙◌, ap, sym, arith, ℕ, List, drop, length}
use Rattle.std.proofs.lemmas.List.{take_all}
use Rattle.wq_glob.specs.declared.step.Step.{Step}
use Rattle.wq_glob.specs.Cell.{marks_at}
use Rattle.wq_glob.specs.Cost.{row_cells}
use Rattle.wq_glob.specs.Step.{step_form}
use Rattle.wq_glob.proofs.FrontLemmas.{differs_no}
use Rattle.wq_glob.proofs.CostLemmas.{cost_end, cost_front, cost_rows}
use Rattle.wq_glob.proofs.matcher.hit_of.Goals as goal

pub returns-then-differs_at_end-clause-cells : goal.returns-then-differs_at_end-clause-cells
returns-then-differs_at_end-clause-cells c = cost_end (step_form c.args.rules.now) c.args.steps.now _ (sym c.if-differs_at_end.ensures.value)

pub returns-then-is_byte_at-clause-yes : goal.returns-then-is_byte_at-clause-yes
returns-then-is_byte_at-clause-yes c =
    let same = c.front_of-same.ensures in
    let f = c.args.rules.now in
    sym
    (same.same
    ∙ differs_no f (drop c.front_of-same.result c.args.steps.now) (marks_at f c.args.text.now c.front_of-same.result) (sym (c.if-is_byte_at.ensures f)) same.stops)

pub returns-then-is_byte_at-clause-cells : goal.returns-then-is_byte_at-clause-cells
returns-then-is_byte_at-clause-cells c =
    let same = c.front_of-same.ensures in
    cost_front (step_form c.args.rules.now) c.args.steps.now _ c.front_of-same.result (sym c.if-differs_at_end.ensures.value) same.front
    (sym (c.if-is_byte_at.ensures c.args.rules.now)) same.stops

pub returns-clause-cells : goal.returns-clause-cells
returns-clause-cells c =
    let f = c.args.rules.now in
    let same = c.front_of-same.result in
    let rows = c.hit_by_rows-hit.ensures.cells in
    let later = ap (λ (l : List Step). row_cells (step_form f) l (marks_at f c.args.text.now same)) (take_all (length c.args.steps.now - same) (drop same c.args.steps.now) (omega (arith, length-drop same c.args.steps.now))) in
    let all = cost_rows (step_form f) c.args.steps.now (marks_at f c.args.text.now 0) same (sym c.if-differs_at_end.ensures.value) c.front_of-same.ensures.front
    (sym (c.if-is_byte_at.ensures f)) in
    let left : ℕ = row_cells (step_form f) (drop same c.args.steps.now) (marks_at f c.args.text.now same) in
    ap (λ (n : ℕ). n + same) (rows ∙ later)
    ∙ (let e : left + same ≡ same + left = omega arith in e)
    ∙ all
