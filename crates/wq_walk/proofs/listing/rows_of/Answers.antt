-- the rows of pieces that were each walked once
use Rattle.wq_disk.specs.Told.{HasStat}
use Rattle.wq_walk.proofs.Walked.{anyway, walked_all}
use Rattle.wq_walk.proofs.listing.rows_of.Goals as goal

pub returns-clause-walked : goal.returns-clause-walked
returns-clause-walked g c =
    walked_all (λ rows. rows.items) (g.D.Disk.says c.args.disk.now) (g.D.Disk.has c.args.disk.now) c.args.root.now c.args.pieces.now c.in_ok-walked.walked.items c.joined.result
    c.in_ok-walked.ensures.walks c.in_ok-walked.ensures.pieces c.joined.ensures.all

pub returns-clause-rooted : goal.returns-clause-rooted
returns-clause-rooted g c = anyway c.joined.result (HasStat (g.D.Disk.says c.args.disk.now) c.args.root.now) c.in_ok-walked.ensures.rooted
