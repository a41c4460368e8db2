use Rattle.std.proofs.Common.{◌≡◌, ◌∙◌, ◌-◌, ◌==◌, not, ℕ, length, arith, ap, sym}
use Rattle.std.proofs.lemmas.Bool.{eqb-true, eqb-false, not-true}
use Rattle.wq_glob.proofs.BackLemmas.{back_differs, back_empty, back_value, back_value_empty}
use Rattle.wq_glob.proofs.matcher.differs_at_end.Goals as goal

pub returns-then-is_empty-2-clause-answer : goal.returns-then-is_empty-2-clause-answer
returns-then-is_empty-2-clause-answer c differs =
    let some : length c.args.steps.now ≡ 0 → ⊥ = eqb-false _ _ (sym c.if-is_empty.ensures) in
    back_empty c.args.rules.now c.args.steps.now (length c.args.steps.now - 1) _ c.in-Byte.byte (omega arith) c.in-Byte.is c.args.text.now
    (eqb-true _ _ (sym c.if-is_empty-2.ensures))

pub returns-else-is_empty-2-clause-answer : goal.returns-else-is_empty-2-clause-answer
returns-else-is_empty-2-clause-answer c differs =
    let some : length c.args.steps.now ≡ 0 → ⊥ = eqb-false _ _ (sym c.if-is_empty.ensures) in
    let text : length c.args.text.now ≡ 0 → ⊥ = eqb-false _ _ (sym c.if-is_empty-2.ensures) in
    back_differs c.args.rules.now c.args.steps.now (length c.args.steps.now - 1) _ c.in-Byte.byte (omega arith) c.in-Byte.is c.args.text.now
    (length c.args.text.now - 1) (omega arith)
    (ap (λ (b : ℕ). b == c.in-Byte.byte) (sym c.lower_if.ensures) ∙ not-true _ differs)

pub returns-then-is_empty-2-clause-value : goal.returns-then-is_empty-2-clause-value
returns-then-is_empty-2-clause-value c =
    let some : length c.args.steps.now ≡ 0 → ⊥ = eqb-false _ _ (sym c.if-is_empty.ensures) in
    c.if-is_empty-2.true ∙ back_value_empty c.args.rules.now c.args.steps.now (length c.args.steps.now - 1) _ c.in-Byte.byte (omega arith) c.in-Byte.is c.args.text.now
    (eqb-true _ _ (sym c.if-is_empty-2.ensures))

pub returns-else-is_empty-2-clause-value : goal.returns-else-is_empty-2-clause-value
returns-else-is_empty-2-clause-value c =
    let some : length c.args.steps.now ≡ 0 → ⊥ = eqb-false _ _ (sym c.if-is_empty.ensures) in
    let text : length c.args.text.now ≡ 0 → ⊥ = eqb-false _ _ (sym c.if-is_empty-2.ensures) in
    ap (λ (b : ℕ). not (b == c.in-Byte.byte)) c.lower_if.ensures
    ∙ back_value c.args.rules.now c.args.steps.now (length c.args.steps.now - 1) _ c.in-Byte.byte (omega arith) c.in-Byte.is c.args.text.now
    (length c.args.text.now - 1) (omega arith)
