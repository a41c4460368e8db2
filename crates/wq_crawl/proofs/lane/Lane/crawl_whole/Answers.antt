-- The root was listed, and the listing was to be published.
use Rattle.std.proofs.Common.{Err, Ok, ap, subst, sym, ◌∙◌}
use Rattle.std.proofs.lemmas.Result.{err_from_is_err_and}
use Rattle.wq_crawl.specs.Crawl.{IsRelisted, IsTakable, crawler_at}
use Rattle.wq_crawl.specs.Shared.{TriesOnce}
use Rattle.wq_crawl.proofs.Attempts.{listed_then, not_listed}
use Rattle.wq_crawl.proofs.Publishing.{takable}
use Rattle.wq_crawl.proofs.lane.Lane.crawl_whole.Goals as goal

pub returns-in_err-listed-clause-crawled : goal.returns-in_err-listed-clause-crawled
returns-in_err-listed-clause-crawled g c =
    let first = c.args.self.now.lister in
    let told = err_from_is_err_and c.from_residual.result c.from_residual.ensures.1 in
    subst (λ r. TriesOnce c.args.root.now first r c.list_whole.new.self) (sym (told.1 ∙ ap Err told.2))
    (not_listed c.args.root.now first c.list_whole.new.self c.args.told.now c.args.number c.requires.shown c.in_err-listed.field-0.0
    (c.in_err-listed.ensures.listed c.args.told.now c.table.ensures))

pub publish-requires-clause-fit : goal.publish-requires-clause-fit
publish-requires-clause-fit g c =
    let over = c.in_ok-listed.ensures.listed c.args.told.now c.table.ensures in
    subst (λ n. IsTakable n c.args.told.now c.in_ok-listed.listed.relisted) (sym c.in_ok-listed.ensures.number)
    (takable c.args.number c.args.root.now c.args.told.now c.args.self.now.lister c.list_whole.new.self c.in_ok-listed.listed.relisted over)

pub returns-in_err-crawl-clause-crawled : goal.returns-in_err-crawl-clause-crawled
returns-in_err-crawl-clause-crawled g c =
    let first = c.args.self.now.lister in
    let after = c.list_whole.new.self in
    let over = c.in_ok-listed.ensures.listed c.args.told.now c.table.ensures in
    let told = err_from_is_err_and c.from_residual-in_err-crawl.result c.from_residual-in_err-crawl.ensures.1 in
    subst (λ r. TriesOnce c.args.root.now first r after) (sym (told.1 ∙ ap Err told.2))
    (listed_then c.args.root.now first after c.args.told.now c.args.number c.requires.shown c.in_ok-listed.listed.relisted over (Err c.in_err-crawl.field-0.0) c.in_ok-listed.ensures.whole
    (c.in_err-crawl.ensures.published first after
    (subst (λ n. IsRelisted n c.args.root.now (crawler_at c.args.told.now first) c.in_ok-listed.listed.relisted (crawler_at c.args.told.now after)) (sym c.in_ok-listed.ensures.number) over)))

pub returns-clause-crawled : goal.returns-clause-crawled
returns-clause-crawled g c =
    let first = c.args.self.now.lister in
    let after = c.list_whole.new.self in
    let over = c.in_ok-listed.ensures.listed c.args.told.now c.table.ensures in
    subst (λ l. TriesOnce c.args.root.now first (Ok c.in_ok-crawl.crawl) l) (sym c.keep.ensures)
    (listed_then c.args.root.now first after c.args.told.now c.args.number c.requires.shown c.in_ok-listed.listed.relisted over (Ok c.in_ok-crawl.crawl) c.in_ok-listed.ensures.whole
    (c.in_ok-crawl.ensures.published first after
    (subst (λ n. IsRelisted n c.args.root.now (crawler_at c.args.told.now first) c.in_ok-listed.listed.relisted (crawler_at c.args.told.now after)) (sym c.in_ok-listed.ensures.number) over)))
