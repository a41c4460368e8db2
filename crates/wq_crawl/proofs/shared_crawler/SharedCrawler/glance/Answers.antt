-- There was no glance, or its answer is that of the lane.
use Rattle.std.proofs.Common.{subst, sym}
use Rattle.wq_crawl.specs.Roots.{GlanceAt}
use Rattle.wq_crawl.proofs.Sharing.{no_glance}
use Rattle.wq_crawl.proofs.shared_crawler.SharedCrawler.glance.Goals as goal
use Rattle.wq_crawl.proofs.shared_crawler.SharedCrawler.glance.Goals.{then-is_any, else-is_any}

pub returns : goal.returns
returns g c =
    let text = c.args.root.now in
    elim c.if-is_any.branch [
      | then-is_any w ↦ subst (GlanceAt text) (sym w.made-is) (no_glance text)
      | else-is_any w ↦ subst (GlanceAt text) (sym w.made-is) w.glance_in-made.ensures
    ]
