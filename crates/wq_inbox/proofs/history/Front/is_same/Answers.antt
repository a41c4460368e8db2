-- beginnings of one history that are as long are the same
use Rattle.std.proofs.Common.{rules, ◌≡◌, ap, sym, subst, ◌∙◌, arith}
use Rattle.std.proofs.lemmas.Bool.Decides.{nat_tests}
use mathlib.Core.List.{IsPrefix}
use Rattle.wq_inbox.proofs.Beginnings.{same_whole}
use Rattle.wq_inbox.proofs.history.Front.is_same.Goals as goal

pub returns : goal.returns
returns g c is =
    let it = c.agree.ensures in
    let count : c.self.inside.count ≡ c.other.inside.count = first_of (search rules, grind (arith, nat_tests, is)) in
    sym c.self.view_is
    ∙ (same_whole c.self.inside.seen.log c.other.inside.seen.log it.0
    (subst (λ l. IsPrefix l it.0) (sym c.self.view_is) it.1) (subst (λ l. IsPrefix l it.0) (sym c.other.view_is) it.2)
    (sym c.self.invariant.0 ∙ (count ∙ c.other.invariant.0))
    ∙ c.other.view_is)
