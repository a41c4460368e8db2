-- the listing of pieces that share out all names, and all records
use Rattle.std.proofs.Common.{◌≡◌, rules, string_bytes, subst, sym, ◌∙◌}
use Rattle.wq_patch.specs.Tree.{rows_listed}
use Rattle.wq_walk.specs.Listed.{IsPathOf}
use Rattle.wq_walk.specs.Pieces.{IsSharedOut}
use Rattle.wq_walk.specs.Tiles.{AreTiles}
use Rattle.wq_disk.specs.Told.{HasStat}
use Rattle.wq_walk.proofs.Walked.{anyway, listed, rooted, walked_all}
use Rattle.wq_walk.proofs.listing.rows_again.Goals as goal

pub listing_of-requires : goal.listing_of-requires
listing_of-requires g c =
    let pieces : c.deref-2.result.now ≡ c.in_ok-pieces.pieces.items = search rules in
    subst (λ ps. AreTiles c.args.last.now.records ps) (sym (c.in_ok-walked.ensures.pieces ∙ pieces)) c.in_ok-pieces.ensures.tiled

pub returns-clause-listed : goal.returns-clause-listed
returns-clause-listed g c =
    let path : c.deref.result.now ≡ string_bytes c.in_ok-path.path = search rules in
    let pieces : c.deref-2.result.now ≡ c.in_ok-pieces.pieces.items = search rules in
    listed (rows_listed c.args.last.now.records) (g.D.Disk.says c.args.disk.now) (g.D.Disk.has c.args.disk.now) c.args.root.now _ _ c.listing_of.result
    (subst (λ p. IsPathOf c.args.root.now p) (sym path) c.in_ok-path.ensures) (subst IsSharedOut (sym pieces) c.in_ok-pieces.ensures.shared)
    (walked_all (rows_listed c.args.last.now.records) (g.D.Disk.says c.args.disk.now) (g.D.Disk.has c.args.disk.now) c.deref.result.now c.deref-2.result.now c.in_ok-walked.walked.items c.listing_of.result
    c.in_ok-walked.ensures.walks c.in_ok-walked.ensures.pieces c.listing_of.ensures.all)

pub returns-clause-rooted : goal.returns-clause-rooted
returns-clause-rooted g c =
    let path : c.deref.result.now ≡ string_bytes c.in_ok-path.path = search rules in
    rooted (g.D.Disk.says c.args.disk.now) c.args.root.now _ c.listing_of.result
    (subst (λ p. IsPathOf c.args.root.now p) (sym path) c.in_ok-path.ensures) (anyway c.listing_of.result (HasStat (g.D.Disk.says c.args.disk.now) c.deref.result.now) c.in_ok-walked.ensures.rooted)
