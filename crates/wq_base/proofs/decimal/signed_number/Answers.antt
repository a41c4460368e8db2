-- A number is printed again, so its text is the one decimal text.
use Rattle.std.proofs.Common.{FitsSigned, w64, Some, sym, ap, subst, ◌∙◌}
use mir.Facts.{to_z-of_z}
use Rattle.std.specs.Fmt.{signed_decimal}
use Rattle.std.specs.Str.Parse.{signed_digits_value}
use Rattle.std.proofs.lemmas.Slice.Eq.{bytes_eq-Decides}
use Rattle.wq_base.proofs.Signed.{not_text, not_read, is_number, other_text}
use Rattle.wq_base.proofs.decimal.signed_number.Goals as goal

pub returns-in_default : goal.returns-in_default
returns-in_default c = sym (not_text c.args.text.now c.in_default.ensures.cases.0)

pub returns-in_default-parse : goal.returns-in_default-parse
returns-in_default-parse c = sym (rw (← c.in-Ok.ensures.cases.0) (not_read c.in-Ok.text.now c.in_default-parse.field-0 c.in_default-parse.ensures.value.0))

pub returns-then-eq : goal.returns-then-eq
returns-then-eq c =
    let same = c.in-Ok.ensures.cases.0 in
    let parsed = c.in-Ok-parse.ensures.value.0 in
    let fits : FitsSigned w64 c.in-Ok-parse.value = subst (FitsSigned w64) (sym parsed.1) parsed.0.1 in
    let value = parsed.1 ∙ ap (signed_digits_value 10) same in
    let back = to_z-of_z fits in
    let shown = (bytes_eq-Decides _ _).0 (sym c.eq.ensures ∙ c.if-eq.true) in
    sym (is_number c.args.text.now c.in-Ok-parse.value fits value (sym same ∙ sym shown ∙ c.format.ensures.text ∙ ap signed_decimal back) ∙ ap Some (sym back))

pub returns-else-eq : goal.returns-else-eq
returns-else-eq c =
    let same = c.in-Ok.ensures.cases.0 in
    let parsed = c.in-Ok-parse.ensures.value.0 in
    let fits : FitsSigned w64 c.in-Ok-parse.value = subst (FitsSigned w64) (sym parsed.1) parsed.0.1 in
    let value = parsed.1 ∙ ap (signed_digits_value 10) same in
    let back = to_z-of_z fits in
    sym (other_text c.args.text.now c.in-Ok-parse.value value (λ text.
    let shown = (bytes_eq-Decides c.format.result.now c.in-Ok.text.now).1 (c.format.ensures.text ∙ ap signed_decimal back ∙ sym text ∙ sym same) in cc))
