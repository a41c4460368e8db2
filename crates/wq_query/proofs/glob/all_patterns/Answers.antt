-- Each item is a pattern, or the first item that is none refuses the list.
use Rattle.std.proofs.Common.{◌≡◌, ◌+◌, [], drop, refl, sym, ap, ◌∙◌}
use Rattle.std.proofs.Math.ListN.{drop_of_length-le}
use Rattle.std.proofs.lemmas.Result.{err_from_is_err_and}
use Rattle.serde_json.specs.View.{view as data_of, items_view}
use Rattle.wq_base.proofs.Fault.{before, before-end}
use Rattle.wq_query.specs.Glob.{pattern_in, patterns_in}
use Rattle.wq_query.proofs.Names.{read_more, read_none, refused_pattern}
use Rattle.wq_query.proofs.glob.all_patterns.Goals as goal

pub returns : goal.returns
returns c =
    let none : drop c.loop-item.item-index c.args.items.now ≡ [] = drop_of_length-le c.args.items.now c.loop-item-test.false in
    sym c.loop-item.invariant ∙ ap (λ left. before c.loop-item.patterns (patterns_in c.args.flags (items_view left))) none
    ∙ before-end c.loop-item.patterns

pub loop-item-preserved : goal.loop-item-preserved
loop-item-preserved c =
    let more = read_more (pattern_in c.args.flags) (patterns_in c.args.flags) (λ d ds. refl) c.args.items.now c.loop-item.item-index c.item-item.result c.loop-item.patterns c.in_ok-one_pattern.field-0 _ c.loop-item-test.true c.item-item.is c.in_ok-one_pattern.ensures c.loop-item.invariant in
    ap (λ xs. before xs (patterns_in c.args.flags (items_view (drop (c.loop-item.item-index + 1) c.args.items.now)))) c.in_ok-push.ensures.ok ∙ more

pub returns-in_err-one_pattern : goal.returns-in_err-one_pattern
returns-in_err-one_pattern c =
    let all = patterns_in c.args.flags (items_view c.args.items.now) in
    let p = err_from_is_err_and c.from_residual.result c.from_residual.ensures.1 in
    rw (p.1, p.2) (refused_pattern c.in_err-one_pattern.field-0.0 (pattern_in c.args.flags (data_of c.item-item.result)) all c.in_err-one_pattern.ensures (λ none.
    read_none (pattern_in c.args.flags) (patterns_in c.args.flags) (λ d ds. refl) c.args.items.now c.loop-item.item-index c.item-item.result c.loop-item.patterns all c.loop-item-test.true c.item-item.is none c.loop-item.invariant))
