-- The tokens of two parts come one after the other.
use Rattle.std.proofs.Common.{◌≡◌, List, ◌++◌, append_assoc, ap, ◌∙◌}
use Rattle.std.proofs.lemmas.Result.{on_ok_weaker}
use Rattle.wq_reply.proofs.list_text.put_name.Goals as goal

two-parts : {A : Type 0} (a b c x y : List A) → b ≡ a ++ x → c ≡ b ++ y → c ≡ a ++ (x ++ y)
two-parts a b c x y first second = second ∙ ap (λ l. l ++ y) first ∙ append_assoc a x y

pub returns : goal.returns
returns c =
    on_ok_weaker c.print_flag.result (λ e. (
      e.0 ∙ c.in_ok-print_text.ensures.0,
      two-parts c.args.out.now.tokens _ _ _ _ c.in_ok-print_text.ensures.1 e.1,
    )) c.print_flag.ensures
