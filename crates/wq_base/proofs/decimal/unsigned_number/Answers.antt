-- A number is printed again, so its text is the one decimal text.
use Rattle.std.proofs.Common.{sym, ◌∙◌, arith}
use Rattle.std.proofs.lemmas.Slice.Eq.{bytes_eq-Decides}
use Rattle.wq_base.proofs.Unsigned.{unsigned_of-decimal, unsigned_of-unread, unsigned_of-refused}
use Rattle.wq_base.proofs.decimal.unsigned_number.Goals as goal

pub returns-in_err-number-clause-value : goal.returns-in_err-number-clause-value
returns-in_err-number-clause-value c =
    rw c.from_residual.ensures (sym (unsigned_of-unread _ _ _ (omega arith) c.parse.ensures.value.0 (sym c.ok.ensures.value ∙ c.in_err-number.was)))

pub returns-then-number-most-clause-value : goal.returns-then-number-most-clause-value
returns-then-number-most-clause-value c =
    let read = sym c.ok.ensures.value ∙ c.in_ok-number.was in
    sym (unsigned_of-refused _ _ _ c.in_ok-number.number (omega arith) c.parse.ensures.value.0 read (λ h e. absurd (omega arith)))

pub returns-then-eq-clause-value : goal.returns-then-eq-clause-value
returns-then-eq-clause-value c =
    sym (unsigned_of-decimal _ _ _ (omega arith) (omega arith)
    (sym c.format.ensures.text ∙ (bytes_eq-Decides _ _).0 (sym c.eq.ensures ∙ c.if-eq.true)))

pub returns-else-eq-clause-value : goal.returns-else-eq-clause-value
returns-else-eq-clause-value c =
    let read = sym c.ok.ensures.value ∙ c.in_ok-number.was in
    sym (unsigned_of-refused _ _ _ c.in_ok-number.number (omega arith) c.parse.ensures.value.0 read (λ h e.
    let same = (bytes_eq-Decides c.format.result.now c.args.text.now).1 (c.format.ensures.text ∙ e) in cc))
