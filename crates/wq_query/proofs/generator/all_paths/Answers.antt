-- Each item is a path, or the first item that is no path refuses the list.
use Rattle.std.proofs.Common.{◌≡◌, ◌+◌, [], drop, refl, sym, ap, ◌∙◌}
use Rattle.std.proofs.Math.ListN.{drop_of_length-le}
use Rattle.std.proofs.lemmas.Result.{err_from_is_err_and}
use Rattle.serde_json.specs.View.{view as data_of, items_view}
use Rattle.wq_base.proofs.Fault.{before, before-end}
use Rattle.wq_query.specs.Generator.{path_of, paths_in}
use Rattle.wq_query.proofs.Names.{read_more, read_none, refused}
use Rattle.wq_query.proofs.generator.all_paths.Goals as goal

pub returns : goal.returns
returns c =
    let none : drop c.loop-item.item-index c.args.items.now ≡ [] = drop_of_length-le c.args.items.now c.loop-item-test.false in
    sym c.loop-item.invariant ∙ ap (λ left. before c.loop-item.paths (paths_in (items_view left))) none
    ∙ before-end c.loop-item.paths

pub loop-item-preserved : goal.loop-item-preserved
loop-item-preserved c =
    let more = read_more path_of paths_in (λ d ds. refl) c.args.items.now c.loop-item.item-index c.item-item.result c.loop-item.paths c.in_ok-one_path.field-0 _ c.loop-item-test.true c.item-item.is c.in_ok-one_path.ensures c.loop-item.invariant in
    ap (λ xs. before xs (paths_in (items_view (drop (c.loop-item.item-index + 1) c.args.items.now)))) c.in_ok-push.ensures.ok ∙ more

pub returns-in_err-one_path : goal.returns-in_err-one_path
returns-in_err-one_path c =
    let all = paths_in (items_view c.args.items.now) in
    let p = err_from_is_err_and c.from_residual.result c.from_residual.ensures.1 in
    rw (p.1, p.2) (refused c.in_err-one_path.field-0.0 (path_of (data_of c.item-item.result)) all c.in_err-one_path.ensures (λ none.
    read_none path_of paths_in (λ d ds. refl) c.args.items.now c.loop-item.item-index c.item-item.result c.loop-item.paths all c.loop-item-test.true c.item-item.is none c.loop-item.invariant))
