-- The loop over the terms of a list: each of them is read, or has the first fault.
use Rattle.std.proofs.Common.{◌≡◌, ◌+◌, [], map, drop, Vec, sym, ap, ◌∙◌}
use Rattle.std.proofs.Math.ListN.{drop_of_length-le}
use Rattle.std.proofs.lemmas.Result.{err_from_is_err_and}
use Rattle.serde_json.specs.Data.{item}
use Rattle.serde_json.specs.View.{view as data_of, items_view}
use Rattle.wq_clock.specs.Instance.{instance_data}
use Rattle.std.specs.declared.alloc.Global.{Global}
use Rattle.wq_term.specs.declared.expr.Expr.{Expr}
use Rattle.wq_term.specs.Expr.{term_of, terms_of}
use Rattle.wq_term.specs.Reading.{read_all, reads_as}
use Rattle.wq_term.proofs.Lists.{prefixed, prefixed-end, read_more, read_fault, items_from}
use Rattle.wq_term.proofs.Lists.{terms-push, all_refused}
use Rattle.wq_term.proofs.parser.+read.Goals as goal

pub read_all-returns : goal.read_all-returns
read_all-returns t c =
    let none : drop c.loop-argument.argument-index c.args.arguments.now ≡ [] = drop_of_length-le c.args.arguments.now c.loop-argument-test.false in
    sym c.loop-argument.invariant
    ∙ ap (λ left. prefixed (map term_of c.loop-argument.terms.items) (read_all (reads_as (instance_data c.args.instance.now) c.args.levels) (items_view left))) none
    ∙ prefixed-end (map term_of c.loop-argument.terms.items)

pub read_all-loop-argument-preserved : goal.read_all-loop-argument-preserved
read_all-loop-argument-preserved t c =
    let read = reads_as (instance_data c.args.instance.now) c.args.levels in
    let all = read_all read (items_view c.args.arguments.now) in
    let terms = map term_of c.loop-argument.terms.items in
    let left = items_view (drop (c.loop-argument.argument-index + 1) c.args.arguments.now) in
    let here = items_from c.args.arguments.now c.loop-argument.argument-index c.argument-item.result c.loop-argument-test.true c.argument-item.is in
    let so_far : prefixed terms (read_all read (item (data_of c.argument-item.result) left)) ≡ all = ap (λ ds. prefixed terms (read_all read ds)) (sym here) ∙ c.loop-argument.invariant in
    let more = read_more read terms (data_of c.argument-item.result) left (term_of c.in_ok-read_term.field-0) all c.in_ok-read_term.ensures so_far in
    ap (λ ts. prefixed ts (read_all read left)) (ap (map term_of) c.in_ok-push.ensures.items ∙ terms-push c.loop-argument.terms.items c.in_ok-read_term.field-0) ∙ more

pub read_all-returns-in_err-read_term : goal.read_all-returns-in_err-read_term
read_all-returns-in_err-read_term t c =
    let read = reads_as (instance_data c.args.instance.now) c.args.levels in
    let all = read_all read (items_view c.args.arguments.now) in
    let terms = map term_of c.loop-argument.terms.items in
    let left = items_view (drop (c.loop-argument.argument-index + 1) c.args.arguments.now) in
    let here = items_from c.args.arguments.now c.loop-argument.argument-index c.argument-item.result c.loop-argument-test.true c.argument-item.is in
    let so_far : prefixed terms (read_all read (item (data_of c.argument-item.result) left)) ≡ all = ap (λ ds. prefixed terms (read_all read ds)) (sym here) ∙ c.loop-argument.invariant in
    let p = err_from_is_err_and c.from_residual.result c.from_residual.ensures.1 in
    rw (p.1, p.2) (all_refused term_of (λ (es : Vec Expr Global). terms_of (map term_of es.items)) c.in_err-read_term.field-0.0 (read (data_of c.argument-item.result)) all c.in_err-read_term.ensures (λ is. read_fault read terms (data_of c.argument-item.result) left c.in_err-read_term.field-0.0 all is so_far))
