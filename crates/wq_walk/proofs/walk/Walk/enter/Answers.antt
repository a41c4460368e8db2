-- the directory that was read at the path of the name
use Rattle.std.proofs.Common.{ap, ◌∙◌, ◌++◌, ◌∷◌, []}
use Rattle.wq_disk.specs.Directory.{data_of, entry_at, fresh}
use Rattle.wq_disk.specs.HeldNames.{names_left}
use Rattle.wq_walk.proofs.Walking.{path_of, read_at}
use Rattle.wq_walk.proofs.walk.Walk.enter.Goals as goal

pub returns-clause-read : goal.returns-clause-read
returns-clause-read g c =
    let path = path_of c.set.new.self.bytes c.path.result.now (data_of c.args.here.now).path c.name.result.now (entry_at c.args.here.now c.args.name) c.in_ok-set.ensures.path c.path.ensures c.name.ensures in
    let names = names_left c.in_ok-names.names in (
      names,
      read_at (g.D.Disk.has c.args.disk.now) _ _ names path c.in_ok-names.ensures.read,
      ap data_of c.replace-above.ensures.after ∙ c.new-below.ensures ∙ ap (λ p. fresh p names) (c.in_ok-directory.ensures ∙ ap (λ p. p ++ (47 ∷ [])) path),
    )
