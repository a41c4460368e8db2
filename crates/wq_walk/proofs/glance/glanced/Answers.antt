-- the listing of a glance at the root's path
use Rattle.std.proofs.Common.{◌≡◌, rules, string_bytes, subst, sym}
use Rattle.wq_patch.specs.Tree.{rows_listed}
use Rattle.wq_walk.specs.Found.{found_rows}
use Rattle.wq_walk.specs.Listed.{IsPathOf}
use Rattle.wq_disk.specs.Told.{HasStat}
use Rattle.wq_walk.proofs.Glancing.{glanced_at}
use Rattle.wq_walk.proofs.Walked.{anyway, rooted}
use Rattle.wq_walk.proofs.glance.glanced.Goals as goal

pub returns-clause-glance : goal.returns-clause-glance
returns-clause-glance g c =
    let path : c.deref-2.result.now ≡ string_bytes c.in_ok-path.path = search rules in
    glanced_at (rows_listed c.args.last.now.records) (g.D.Disk.says c.args.disk.now) (g.D.Disk.has c.args.disk.now) c.args.last.now.records c.args.recent.now c.args.root.now c.deref-2.result.now (found_rows c.in_ok-rows.rows.found) c.listing_of.result
    (subst (λ p. IsPathOf c.args.root.now p) (sym path) c.in_ok-path.ensures) c.in_ok-rows.ensures.glance c.listing_of.ensures.all

pub returns-clause-rooted : goal.returns-clause-rooted
returns-clause-rooted g c =
    let path : c.deref-2.result.now ≡ string_bytes c.in_ok-path.path = search rules in
    rooted (g.D.Disk.says c.args.disk.now) c.args.root.now _ c.listing_of.result
    (subst (λ p. IsPathOf c.args.root.now p) (sym path) c.in_ok-path.ensures) (anyway c.listing_of.result (HasStat (g.D.Disk.says c.args.disk.now) c.deref-2.result.now) c.in_ok-rows.ensures.rooted)
