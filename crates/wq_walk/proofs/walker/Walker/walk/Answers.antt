-- The walk is of the disk that the walker had before it guessed.
use Rattle.std.proofs.Common.{IfOk, subst}
use Rattle.wq_walk.specs.Listed.{IsListed}
use Rattle.wq_walk.proofs.walker.Walker.walk.Goals as goal

pub returns-clause-walked : goal.returns-clause-walked
returns-clause-walked g c =
    subst (λ d. IfOk c.first_rows-listed.result (λ rows. IsListed (g.D.Disk.says d) (g.D.Disk.has d) c.args.root.now rows.items)) c.guess.ensures.disk c.first_rows-listed.ensures.listed
