-- Texts in another order are the suffixes of the same files.
use Rattle.std.proofs.Common.{length, sym, ◌∙◌, arith}
use Rattle.std.proofs.lemmas.Bool.{eqb-true}
use Rattle.std.proofs.lemmas.Result.{IfOk-weaker}
use Rattle.wq_gen.proofs.Suffixed.{any_few, moved_alike, moved_count, no_texts, some_texts}
use Rattle.wq_gen.proofs.suffix.with_texts.Goals as goal

pub returns-then-is_empty-clause-found : goal.returns-then-is_empty-clause-found
returns-then-is_empty-clause-found c =
    let none = eqb-true (length c.args.texts.now) 0 (sym c.is_empty.ensures ∙ c.if-is_empty.true) in
    c.new.ensures.items ∙ no_texts c.args.texts.now c.args.counted.now.view.records (omega (arith, none))

pub returns-clause-found : goal.returns-clause-found
returns-clause-found c =
    IfOk-weaker c.found_by_suffix.result _ _ (λ found is. is ∙ moved_alike c.args.texts.now c.in_ok-sought.sought c.args.counted.now.view.records c.in_ok-sought.ensures) c.found_by_suffix.ensures.found

pub returns-clause-few : goal.returns-clause-few
returns-clause-few c =
    let rs = c.args.counted.now.view.records in
    let some = some_texts c.args.texts.now (sym c.is_empty.ensures ∙ c.if-is_empty.false) in
    omega (arith, c.found_by_suffix.ensures.few, moved_count c.args.texts.now c.in_ok-sought.sought rs c.in_ok-sought.ensures, any_few c.args.texts.now rs some)
