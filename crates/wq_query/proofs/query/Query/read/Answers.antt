-- Each key has its value, and the last one decides.
use Rattle.std.proofs.Common.{rules, ◌≡◌, Err, sym, ap, subst, ◌∙◌}
use Rattle.serde_json.specs.View.{view as data_of}
use Rattle.wq_clock.specs.Instance.{instance_data}
use Rattle.wq_term.specs.Expr.{term_of}
use Rattle.serde_json.specs.Find.{get}
use Rattle.std.specs.Prelude.{codes}
use Rattle.wq_query.specs.Generator.{suffixes_of, paths_of}
use Rattle.wq_query.specs.Glob.{glob_flags, globs_of}
use Rattle.wq_query.specs.Query.{since_data}
use Rattle.wq_query.specs.Reading.{expression_of, fields_of, since_of, program_name}
use Rattle.wq_query.specs.Outcome.{GivesQuery, GivesGlobs}
use Rattle.wq_query.specs.Reading.{asks}
use Rattle.wq_query.proofs.Keys.{asks_at, asks_unnamed, asks_unfitting, asks_unbounded, asks_wrong}
use Rattle.wq_query.proofs.query.Query.read.Goals as goal

pub returns : goal.returns
returns c =
    asks_at (instance_data c.args.instance.now) (data_of c.args.value.now) (term_of c.in_ok-expr.expr) c.in_ok-fields.fields.items c.in_ok-suffix.suffix c.in_ok-path.path
    (sym c.has_left_out_key.ensures ∙ c.if-has_left_out_key.false)
    (sym c.has_both.ensures ∙ c.if-has_both.false)
    (ap (expression_of (instance_data c.args.instance.now)) (sym c.get.ensures) ∙ c.in_ok-expr.ensures.read)
    (ap fields_of (sym c.get-2.ensures) ∙ c.in_ok-fields.ensures)
    (ap suffixes_of (sym c.get-3.ensures) ∙ c.in_ok-suffix.ensures)
    (ap paths_of (sym c.get-4.ensures) ∙ c.in_ok-path.ensures)
    c.in_ok-glob.glob
    (ap (λ f. globs_of f (get (codes "glob") (data_of c.args.value.now))) (sym (c.glob_flags-flags.ensures ∙ ap glob_flags c.get-5.ensures)) ∙ ap (globs_of c.glob_flags-flags.result) (sym c.get-6.ensures) ∙ c.in_ok-glob.ensures)
    (since_data c.in_ok-since.since)
    (ap (since_of (instance_data c.args.instance.now)) (sym c.get-7.ensures) ∙ c.in_ok-since.ensures)
    c.in_ok-program.program
    (ap program_name (sym c.get-8.ensures) ∙ c.in_ok-program.ensures)
    c.in-Some.options (sym c.in-Some.ensures)

pub returns-in_default : goal.returns-in_default
returns-in_default c =
    asks_wrong (instance_data c.args.instance.now) (data_of c.args.value.now) (term_of c.in_ok-expr.expr) c.in_ok-fields.fields.items c.in_ok-suffix.suffix c.in_ok-path.path
    (sym c.has_left_out_key.ensures ∙ c.if-has_left_out_key.false)
    (sym c.has_both.ensures ∙ c.if-has_both.false)
    (ap (expression_of (instance_data c.args.instance.now)) (sym c.get.ensures) ∙ c.in_ok-expr.ensures.read)
    (ap fields_of (sym c.get-2.ensures) ∙ c.in_ok-fields.ensures)
    (ap suffixes_of (sym c.get-3.ensures) ∙ c.in_ok-suffix.ensures)
    (ap paths_of (sym c.get-4.ensures) ∙ c.in_ok-path.ensures)
    c.in_ok-glob.glob
    (ap (λ f. globs_of f (get (codes "glob") (data_of c.args.value.now))) (sym (c.glob_flags-flags.ensures ∙ ap glob_flags c.get-5.ensures)) ∙ ap (globs_of c.glob_flags-flags.result) (sym c.get-6.ensures) ∙ c.in_ok-glob.ensures)
    (since_data c.in_ok-since.since)
    (ap (since_of (instance_data c.args.instance.now)) (sym c.get-7.ensures) ∙ c.in_ok-since.ensures)
    c.in_ok-program.program
    (ap program_name (sym c.get-8.ensures) ∙ c.in_ok-program.ensures)
    (sym c.in_default.ensures)

pub returns-in_err-program : goal.returns-in_err-program
returns-in_err-program c =
    let is : c.from_residual-in_err-program.result ≡ Err c.in_err-program.field-0.0 = search rules in
    subst (λ r. GivesQuery r (asks (instance_data c.args.instance.now) (data_of c.args.value.now))) (sym is)
    (asks_unnamed (instance_data c.args.instance.now) (data_of c.args.value.now) (term_of c.in_ok-expr.expr) c.in_ok-fields.fields.items c.in_ok-suffix.suffix c.in_ok-path.path
    (sym c.has_left_out_key.ensures ∙ c.if-has_left_out_key.false)
    (sym c.has_both.ensures ∙ c.if-has_both.false)
    (ap (expression_of (instance_data c.args.instance.now)) (sym c.get.ensures) ∙ c.in_ok-expr.ensures.read)
    (ap fields_of (sym c.get-2.ensures) ∙ c.in_ok-fields.ensures)
    (ap suffixes_of (sym c.get-3.ensures) ∙ c.in_ok-suffix.ensures)
    (ap paths_of (sym c.get-4.ensures) ∙ c.in_ok-path.ensures)
    c.in_ok-glob.glob
    (ap (λ f. globs_of f (get (codes "glob") (data_of c.args.value.now))) (sym (c.glob_flags-flags.ensures ∙ ap glob_flags c.get-5.ensures)) ∙ ap (globs_of c.glob_flags-flags.result) (sym c.get-6.ensures) ∙ c.in_ok-glob.ensures)
    (since_data c.in_ok-since.since)
    (ap (since_of (instance_data c.args.instance.now)) (sym c.get-7.ensures) ∙ c.in_ok-since.ensures)
    c.in_err-program.field-0.0 (search rules))

pub returns-in_err-since : goal.returns-in_err-since
returns-in_err-since c =
    let is : c.from_residual-in_err-since.result ≡ Err c.in_err-since.field-0.0 = search rules in
    subst (λ r. GivesQuery r (asks (instance_data c.args.instance.now) (data_of c.args.value.now))) (sym is)
    (asks_unbounded (instance_data c.args.instance.now) (data_of c.args.value.now) (term_of c.in_ok-expr.expr) c.in_ok-fields.fields.items c.in_ok-suffix.suffix c.in_ok-path.path
    (sym c.has_left_out_key.ensures ∙ c.if-has_left_out_key.false)
    (sym c.has_both.ensures ∙ c.if-has_both.false)
    (ap (expression_of (instance_data c.args.instance.now)) (sym c.get.ensures) ∙ c.in_ok-expr.ensures.read)
    (ap fields_of (sym c.get-2.ensures) ∙ c.in_ok-fields.ensures)
    (ap suffixes_of (sym c.get-3.ensures) ∙ c.in_ok-suffix.ensures)
    (ap paths_of (sym c.get-4.ensures) ∙ c.in_ok-path.ensures)
    c.in_ok-glob.glob
    (ap (λ f. globs_of f (get (codes "glob") (data_of c.args.value.now))) (sym (c.glob_flags-flags.ensures ∙ ap glob_flags c.get-5.ensures)) ∙ ap (globs_of c.glob_flags-flags.result) (sym c.get-6.ensures) ∙ c.in_ok-glob.ensures)
    c.in_err-since.field-0.0 (search rules))

pub returns-in_err-glob : goal.returns-in_err-glob
returns-in_err-glob c =
    let is : c.from_residual-in_err-glob.result ≡ Err c.in_err-glob.field-0.0 = search rules in
    let fits : GivesGlobs (Err c.in_err-glob.field-0.0) (globs_of (glob_flags (get (codes "glob_includedotfiles") (data_of c.args.value.now))) (get (codes "glob") (data_of c.args.value.now))) = search rules in
    subst (λ r. GivesQuery r (asks (instance_data c.args.instance.now) (data_of c.args.value.now))) (sym is)
    (asks_unfitting (instance_data c.args.instance.now) (data_of c.args.value.now) (term_of c.in_ok-expr.expr) c.in_ok-fields.fields.items c.in_ok-suffix.suffix c.in_ok-path.path
    (sym c.has_left_out_key.ensures ∙ c.if-has_left_out_key.false)
    (sym c.has_both.ensures ∙ c.if-has_both.false)
    (ap (expression_of (instance_data c.args.instance.now)) (sym c.get.ensures) ∙ c.in_ok-expr.ensures.read)
    (ap fields_of (sym c.get-2.ensures) ∙ c.in_ok-fields.ensures)
    (ap suffixes_of (sym c.get-3.ensures) ∙ c.in_ok-suffix.ensures)
    (ap paths_of (sym c.get-4.ensures) ∙ c.in_ok-path.ensures)
    c.in_err-glob.field-0.0 fits)
