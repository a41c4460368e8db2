-- The loop over the items of a list: each of them is a text, or the list is refused.
use Rattle.std.proofs.Common.{◌≡◌, ℕ, ◌+◌, [], Some, Vec, ok_or, drop, sym, ap, ◌∙◌}
use Rattle.std.specs.declared.alloc.Global.{Global}
use Rattle.std.proofs.Math.ListN.{drop_of_length-le}
use Rattle.std.proofs.lemmas.Result.{err_from_is_err_and}
use Rattle.serde_json.specs.Data.{item}
use Rattle.serde_json.specs.View.{view as data_of, items_view}
use Rattle.wq_term.specs.declared.fault.TermFault.TheVariants.{WrongArguments}
use Rattle.wq_term.specs.Argument.{text_of, all_texts_of}
use Rattle.wq_term.specs.Expr.{texts_in}
use Rattle.wq_term.proofs.Lists.{items_from, all_refused}
use Rattle.wq_base.proofs.Fault.{before, before-end}
use Rattle.wq_term.proofs.Texts.{text_more, text_none, texts_in-push, was_some, none_fault}
use Rattle.wq_term.proofs.parser.argument.read_all_texts.Goals as goal

pub returns : goal.returns
returns c =
    let none : drop c.loop-item.item-index c.args.items.now ≡ [] = drop_of_length-le c.args.items.now c.loop-item-test.false in
    let read : all_texts_of (items_view c.args.items.now) ≡ Some (texts_in c.loop-item.texts.items) =
    sym c.loop-item.invariant
    ∙ ap (λ left. before (texts_in c.loop-item.texts.items) (all_texts_of (items_view left))) none
    ∙ before-end (texts_in c.loop-item.texts.items) in
    ap (λ o. ok_or o WrongArguments) read

pub loop-item-preserved : goal.loop-item-preserved
loop-item-preserved c =
    let all = all_texts_of (items_view c.args.items.now) in
    let texts = texts_in c.loop-item.texts.items in
    let left = items_view (drop (c.loop-item.item-index + 1) c.args.items.now) in
    let here = items_from c.args.items.now c.loop-item.item-index c.item-item.result c.loop-item-test.true c.item-item.is in
    let so_far : before texts (all_texts_of (item (data_of c.item-item.result) left)) ≡ all = ap (λ ds. before texts (all_texts_of ds)) (sym here) ∙ c.loop-item.invariant in
    let is = was_some (text_of (data_of c.item-item.result)) WrongArguments c.in_ok-read_text.field-0.items c.in_ok-read_text.ensures in
    ap (λ ts. before ts (all_texts_of left)) (ap texts_in c.in_ok-push.ensures.items ∙ texts_in-push c.loop-item.texts.items c.in_ok-read_text.field-0)
    ∙ text_more texts (data_of c.item-item.result) left c.in_ok-read_text.field-0.items all is so_far

pub returns-in_err-read_text : goal.returns-in_err-read_text
returns-in_err-read_text c =
    let all = all_texts_of (items_view c.args.items.now) in
    let texts = texts_in c.loop-item.texts.items in
    let left = items_view (drop (c.loop-item.item-index + 1) c.args.items.now) in
    let here = items_from c.args.items.now c.loop-item.item-index c.item-item.result c.loop-item-test.true c.item-item.is in
    let so_far : before texts (all_texts_of (item (data_of c.item-item.result) left)) ≡ all = ap (λ ds. before texts (all_texts_of ds)) (sym here) ∙ c.loop-item.invariant in
    let fault = c.in_err-read_text.field-0.0 in
    let one = text_of (data_of c.item-item.result) in
    let p = err_from_is_err_and c.from_residual.result c.from_residual.ensures.1 in
    rw (p.1, p.2) (all_refused (λ (text : Vec ℕ Global). text.items) (λ (ts : Vec (Vec ℕ Global) Global). texts_in ts.items) fault (ok_or one WrongArguments) (ok_or all WrongArguments) c.in_err-read_text.ensures (λ is. none_fault one all WrongArguments fault is (λ none. text_none texts (data_of c.item-item.result) left all none so_far)))
