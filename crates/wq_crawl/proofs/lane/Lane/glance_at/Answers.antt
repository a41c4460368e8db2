-- The root was listed by a glance, and what it came to was to be published.
use Rattle.std.proofs.Common.{Err, ap, subst, sym, ◌∙◌}
use Rattle.std.proofs.lemmas.Result.{err_from_is_err_and}
use Rattle.wq_crawl.specs.Shared.{GlancedBetween}
use Rattle.wq_crawl.proofs.Attempts.{glanced_then, not_glanced}
use Rattle.wq_crawl.proofs.lane.Lane.glance_at.Goals as goal

pub returns-in_err-relisted-clause-glanced : goal.returns-in_err-relisted-clause-glanced
returns-in_err-relisted-clause-glanced g c =
    let first = c.args.self.now.lister in
    let told = err_from_is_err_and c.from_residual.result c.from_residual.ensures.1 in
    subst (λ r. GlancedBetween c.args.root.now first r c.list_again.new.self) (sym (told.1 ∙ ap Err told.2))
    (not_glanced c.args.root.now first c.list_again.new.self c.args.told.now c.args.number c.requires.shown c.in_err-relisted.field-0.0
    (c.in_err-relisted.ensures.listed c.args.told.now c.table.ensures))

pub returns-clause-glanced : goal.returns-clause-glanced
returns-clause-glanced g c =
    let first = c.args.self.now.lister in
    let over = c.in_ok-relisted.ensures.listed c.args.told.now c.table.ensures in
    glanced_then c.args.root.now first c.list_again.new.self c.args.told.now c.args.number c.requires.shown c.in_ok-relisted.relisted over
    c.publish_glance.result (c.publish_glance.ensures first c.list_again.new.self over)
