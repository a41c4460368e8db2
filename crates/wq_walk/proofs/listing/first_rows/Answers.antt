-- the rows of pieces that share out all names
use Rattle.std.proofs.Common.{◌≡◌, rules, string_bytes, subst, sym}
use Rattle.wq_walk.specs.Listed.{IsPathOf}
use Rattle.wq_walk.specs.Pieces.{IsSharedOut}
use Rattle.wq_walk.proofs.Walked.{listed, rooted}
use Rattle.wq_walk.proofs.listing.first_rows.Goals as goal

pub returns-clause-listed : goal.returns-clause-listed
returns-clause-listed g c =
    let path : c.deref-3.result.now ≡ string_bytes c.in_ok-path.path = search rules in
    let pieces : c.deref-4.result.now ≡ c.in_ok-pieces.pieces.items = search rules in
    listed (λ rows. rows.items) (g.D.Disk.says c.args.disk.now) (g.D.Disk.has c.args.disk.now) c.args.root.now _ _ c.rows_of.result
    (subst (λ p. IsPathOf c.args.root.now p) (sym path) c.in_ok-path.ensures) (subst IsSharedOut (sym pieces) c.in_ok-pieces.ensures) c.rows_of.ensures.walked

pub returns-clause-rooted : goal.returns-clause-rooted
returns-clause-rooted g c =
    let path : c.deref-3.result.now ≡ string_bytes c.in_ok-path.path = search rules in
    rooted (g.D.Disk.says c.args.disk.now) c.args.root.now _ c.rows_of.result
    (subst (λ p. IsPathOf c.args.root.now p) (sym path) c.in_ok-path.ensures) c.rows_of.ensures.rooted
