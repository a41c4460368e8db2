-- The union of the positions that the generators give.
use Rattle.std.proofs.Common.{sym, ap, ◌∙◌, ◌||◌}
use Rattle.std.specs.List.{range_with_len}
use Rattle.wq_view.specs.Position.{positions_of}
use Rattle.wq_view.specs.View.{ViewData}
use Rattle.wq_gen.specs.Candidate.{gives, suffix_is_among, is_fitting, is_on_path, changed_since}
use Rattle.wq_gen.proofs.Whether.{none_there, some_there}
use Rattle.wq_gen.proofs.Unions.{union_found}
use Rattle.wq_gen.proofs.candidate.candidates_counted_for.Goals as goal

pub returns-then-not-is_any_there-clause-found : goal.returns-then-not-is_any_there-clause-found
returns-then-not-is_any_there-clause-found g c =
    c.in_ok-all.ensures ∙ ap (range_with_len 0) c.len.ensures.value ∙ none_there c.args.generators.now c.args.counted.now.view.records (sym c.is_any_there.ensures ∙ c.if-not-is_any_there.true)

pub returns-clause-found : goal.returns-clause-found
returns-clause-found g c =
    let rs = c.args.counted.now.view.records in
    let generators = c.args.generators.now in
    let second = c.with_suffix.ensures.same ∙ c.changed_since.ensures.same in
    let third = c.with_path.ensures.same ∙ second in
    let suffixed = c.in_ok-suffixed.ensures.found ∙ ap (λ (v : ViewData). positions_of (gives suffix_is_among generators.suffix) v.records) c.changed_since.ensures.same in
    let on_path = c.in_ok-on_path.ensures.found ∙ ap (λ (v : ViewData). positions_of (gives is_on_path generators.path) v.records) second in
    let fitting = c.in_ok-fitting.ensures.found ∙ ap (λ (v : ViewData). positions_of (gives is_fitting generators.glob) v.records) third in
    let two = union_found (gives changed_since generators.since) (gives suffix_is_among generators.suffix) rs c.in_ok-changed.changed.items c.in_ok-suffixed.suffixed.items c.in_ok-early.early.items c.in_ok-changed.ensures.found suffixed c.in_ok-early.ensures in
    let three = union_found (λ r. gives changed_since generators.since r || gives suffix_is_among generators.suffix r) (gives is_on_path generators.path) rs c.in_ok-early.early.items c.in_ok-on_path.on_path.items c.in_ok-union.field-0.items two on_path c.in_ok-union.ensures in
    union_found (λ r. gives changed_since generators.since r || gives suffix_is_among generators.suffix r || gives is_on_path generators.path r) (gives is_fitting generators.glob) rs c.in_ok-union.field-0.items c.in_ok-fitting.fitting.items c.in_ok-union-2.field-0.items three fitting c.in_ok-union-2.ensures ∙ some_there generators rs (sym c.is_any_there.ensures ∙ c.if-not-is_any_there.false)
