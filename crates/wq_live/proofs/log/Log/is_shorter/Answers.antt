-- both logs begin the part of the list that is known
use Rattle.std.proofs.Common.{ap, sym, subst, ◌∙◌}
use mathlib.Core.List.{IsPrefix}
use Rattle.wq_live.proofs.Comparing.{compared}
use Rattle.wq_live.proofs.log.Log.is_shorter.Goals as goal

pub returns-clause-begins : goal.returns-clause-begins
returns-clause-begins c =
    rw (sym c.self.view_is, sym c.other.view_is) (compared _ _ c.learn.new.self.log
    (ap (λ f. f.book) c.self.view_is ∙ (c.requires ∙ sym (ap (λ f. f.book) c.other.view_is)))
    (subst (λ l. IsPrefix l c.learn.new.self.log) (ap (λ s. s.log) c.again-both.ensures) c.learn.ensures.2)
    c.learn.ensures.3)
