-- The name is short, and the directory is too deep.
use Rattle.std.proofs.Common.{◌≡◌, is_some, length, slice_get, Some, sym, ap, subst, ◌∙◌, arith}
use Rattle.wq_term.proofs.Texts.{name_is_short}
use Rattle.wq_base.specs.Directory.{rest_below}
use Rattle.wq_base.specs.declared.compare.Case.TheVariants.{Exact}
use Rattle.wq_record.specs.RecordData.{RecordData}
use Rattle.wq_view.specs.View.{ViewData}
use Rattle.wq_gen.proofs.Between.{below_there}
use Rattle.wq_gen.proofs.path.go_on.Goals as goal

pub deep_directory-requires : goal.deep_directory-requires
deep_directory-requires c = omega (arith, ap length c.as_str.ensures, name_is_short c.file.inside.name c.file.invariant.name)

pub pass_over-requires-clause-there : goal.pass_over-requires-clause-there
pass_over-requires-clause-there c =
    let dir = c.in-Some.directory.now in
    let name = c.as_str.ensures ∙ ap (λ (r : RecordData). r.name) c.file.view_is in
    below_there dir c.look-file.new.self.view.records c.args.at c.look-file.result.now (subst (λ (v : ViewData). slice_get v.records c.args.at ≡ Some c.look-file.result.now) (sym c.look-file.ensures.same) c.look-file.ensures.value) (ap (λ n. is_some (rest_below Exact dir n)) (sym name) ∙ c.in-Some.ensures.0)

pub pass_over-requires-clause-deep : goal.pass_over-requires-clause-deep
pass_over-requires-clause-deep c = c.in-Some.ensures.1
