use Rattle.std.proofs.Common.{◌≡◌, ◌∙◌, Bool, sym, subst}
use Rattle.std.proofs.Math.Bool.{or-false}
use Rattle.wq_glob.specs.ByteSet.{has_byte}
use Rattle.wq_glob.specs.Class.{in_items, in_either_case}
use Rattle.wq_glob.proofs.class.cased.Goals as goal

pub returns-then-fold : goal.returns-then-fold
returns-then-fold c items holds b small =
    subst (λ (f : Bool). has_byte c.in_both_cases.result b ≡ in_either_case f items b) (sym c.if-fold.true) (c.in_both_cases.ensures items holds b small)

pub returns-else-fold : goal.returns-else-fold
returns-else-fold c items holds b small =
    subst (λ (f : Bool). has_byte c.args.set.now b ≡ in_either_case f items b) (sym c.if-fold.false) (holds b small ∙ sym (or-false (in_items items b)))
