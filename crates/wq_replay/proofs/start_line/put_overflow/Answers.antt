-- The variable is there.
use Rattle.std.proofs.Common.{◌≡◌, ◌++◌, Bool, true, rules, Some, None, if◌then◌else◌, codes, ap, ◌∙◌, sym}
use Rattle.std.proofs.lemmas.Result.{on_ok_weaker}
use Rattle.wq_follow.specs.Start.{var_if}
use Rattle.wq_replay.specs.StartLine.{var_tokens}
use Rattle.wq_replay.proofs.start_line.put_overflow.Goals as goal

pub returns : goal.returns
returns c =
    let cut : c.args.overflow ≡ true = search rules in
    on_ok_weaker c.put_var.result (λ e. (
      e.0,
      e.1 ∙ ap (λ (b : Bool). c.args.out.now.tokens ++ var_tokens (var_if (codes "WATCHMAN_FILES_OVERFLOW") (if b then Some (codes "true") else None))) (sym cut),
    )) c.put_var.ensures
