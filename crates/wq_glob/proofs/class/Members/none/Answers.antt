use Rattle.std.proofs.Common.{refl}
use Rattle.wq_glob.proofs.class.Members.none.Goals as goal

pub returns : goal.returns
returns c = record { bytes = λ b small. c.empty.ensures b; known = refl }
