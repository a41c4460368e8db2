-- The file itself and those below it.
use Rattle.std.proofs.Common.{ap, ◌∙◌}
use Rattle.std.proofs.lemmas.Result.{IfOk-weaker}
use Rattle.wq_view.specs.Position.{positions_of}
use Rattle.wq_view.specs.View.{ViewData}
use Rattle.wq_gen.specs.Candidate.{is_itself, is_under}
use Rattle.wq_gen.proofs.Unions.{union_found}
use Rattle.wq_gen.proofs.path.on_path.Goals as goal

pub returns-clause-found : goal.returns-clause-found
returns-clause-found c =
    let under = c.in_ok-under.ensures.found ∙ ap (λ (v : ViewData). positions_of (is_under c.args.path.now) v.records) c.itself.ensures.same in
    IfOk-weaker c.union.result _ _ (λ both is. union_found (is_itself c.args.path.now) (is_under c.args.path.now) c.args.counted.now.view.records c.in_ok-itself.itself.items c.in_ok-under.under.items both.items c.in_ok-itself.ensures.found under is) c.union.ensures
