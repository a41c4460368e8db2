use Rattle.std.proofs.Common.{◌≡◌, ◌∙◌, Bool, not, ap, sym, subst}
use Rattle.wq_glob.specs.ByteSet.{has_byte}
use Rattle.wq_glob.specs.Class.{in_class}
use Rattle.wq_glob.proofs.class.class_set.Goals as goal

pub returns-then-negated : goal.returns-then-negated
returns-then-negated c items holds b small =
    subst (λ (n : Bool). has_byte c.complement.result b ≡ in_class c.args.fold record { negated = n; items = items } b) (sym c.if-negated.true)
    (c.complement.ensures b small ∙ ap not (c.cased-held.ensures items holds b small))

pub returns-else-negated : goal.returns-else-negated
returns-else-negated c items holds b small =
    subst (λ (n : Bool). has_byte c.cased-held.result b ≡ in_class c.args.fold record { negated = n; items = items } b) (sym c.if-negated.false)
    (c.cased-held.ensures items holds b small)
