-- No path, one path, and the paths of two halves.
use Rattle.std.proofs.Common.{map, sym, ap, ◌∙◌, arith}
use Rattle.std.proofs.lemmas.Result.{IfOk-weaker}
use Rattle.wq_view.specs.Position.{positions_of}
use Rattle.wq_view.specs.View.{ViewData}
use Rattle.wq_gen.specs.Candidate.{is_on_path}
use Rattle.wq_gen.specs.Counted.{one_path_looks}
use Rattle.wq_gen.proofs.Paths.{both_paths_of, no_paths_of, one_sum_of, only_path_of}
use Rattle.wq_gen.proofs.Unions.{union_found}
use Rattle.wq_gen.proofs.path.+on_paths.Goals as goal

pub returns-in-empty-clause-found : goal.returns-in-empty-clause-found
returns-in-empty-clause-found t c = c.new.ensures.items ∙ no_paths_of (λ p. p.now) c.args.paths.now c.args.counted.now.view.records c.in-empty.len_below

pub returns-in-len1-clause-found : goal.returns-in-len1-clause-found
returns-in-len1-clause-found t c =
    IfOk-weaker c.on_path.result _ _ (λ found is. is ∙ only_path_of (λ p. p.now) c.args.paths.now c.path-item.result c.args.counted.now.view.records c.in-len1.len_at_least c.in-len1.len_below c.path-item.is) c.on_path.ensures.found

pub returns-in-len1-clause-few : goal.returns-in-len1-clause-few
returns-in-len1-clause-few t c = omega (arith, c.on_path.ensures.few, one_sum_of (λ p. p.now) (one_path_looks c.args.counted.now.view.records) c.args.paths.now c.path-item.result c.in-len1.len_at_least c.in-len1.len_below c.path-item.is)

pub returns-in_ok-right-in_default-clause-found : goal.returns-in_ok-right-in_default-clause-found
returns-in_ok-right-in_default-clause-found t c =
    let rs = c.args.counted.now.view.records in
    let first = c.split_at.result.0.now in
    let second = c.split_at.result.1.now in
    let right = c.in_ok-right-in_default.ensures.found ∙ ap (λ (v : ViewData). positions_of (is_on_path (map (λ p. p.now) second)) v.records) c.on_paths.ensures.same in
    IfOk-weaker c.union.result _ _ (λ both is. union_found (is_on_path (map (λ p. p.now) first)) (is_on_path (map (λ p. p.now) second)) rs c.in_ok-left-in_default.left.items c.in_ok-right-in_default.right.items both.items c.in_ok-left-in_default.ensures.found right is ∙ both_paths_of (λ p. p.now) first second rs ∙ ap (λ ps. positions_of (is_on_path (map (λ p. p.now) ps)) rs) (sym c.split_at.ensures.by_index.0)) c.union.ensures
