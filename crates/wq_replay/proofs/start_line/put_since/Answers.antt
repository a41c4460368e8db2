-- The variable is there.
use Rattle.std.proofs.Common.{◌++◌, ℕ, List, Option, codes, Some, ap, ◌∙◌, sym}
use Rattle.std.proofs.lemmas.Result.{on_ok_weaker}
use Rattle.wq_follow.specs.Start.{var_if}
use Rattle.wq_replay.specs.StartLine.{var_tokens}
use Rattle.wq_replay.proofs.start_line.put_since.Goals as goal

pub returns-in-Some : goal.returns-in-Some
returns-in-Some c =
    on_ok_weaker c.put_var.result (λ e. (
      e.0,
      e.1 ∙ ap (λ (text : List ℕ). c.args.out.now.tokens ++ var_tokens (var_if (codes "WATCHMAN_SINCE") (Some text))) c.as_str.ensures.value
          ∙ ap (λ (since : Option (List ℕ)). c.args.out.now.tokens ++ var_tokens (var_if (codes "WATCHMAN_SINCE") since)) (sym c.in-Some.is),
    )) c.put_var.ensures
