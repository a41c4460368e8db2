-- The path's own record is found by its name.
use Rattle.std.proofs.Common.{◌≡◌, ◌++◌, ◌∷◌, [], cond, slice_get, Some, ap, subst, ◌∙◌}
use Rattle.wq_view.specs.View.{ViewData}
use Rattle.wq_gen.proofs.Paths.{itself_none, itself_one}
use Rattle.wq_gen.proofs.path.itself.Goals as goal

pub returns-in_default-clause-found : goal.returns-in_default-clause-found
returns-in_default-clause-found c =
    c.new-found.ensures.items ∙ itself_none c.args.path.now c.args.counted.now.view.records (rw c.as_str.ensures at c.in_default.ensures.only)

pub returns-clause-found : goal.returns-clause-found
returns-clause-found c =
    itself_one c.args.path.now c.args.counted.now.view.records c.in-Some.i c.look.result.now c.is_itself.result c.keep_if.new.found.items c.in-Some.ensures.found (rw c.as_str.ensures at c.in-Some.ensures.only) (subst (λ (v : ViewData). slice_get v.records c.in-Some.i ≡ Some c.look.result.now) c.find.ensures.same c.look.ensures.value) c.is_itself.ensures (c.in_ok-keep_if.ensures ∙ ap (λ found. found ++ cond c.is_itself.result (c.in-Some.i ∷ []) []) c.new-found.ensures.items)
