-- The variables come one after the other.
use Rattle.std.proofs.Common.{◌++◌, ◌∷◌, [], ℕ, List, codes, ap, ◌∙◌}
use Rattle.std.proofs.lemmas.Result.{on_ok_weaker}
use Rattle.wq_follow.specs.Start.{var}
use Rattle.wq_follow.specs.Started.{env_data}
use Rattle.wq_replay.specs.StartLine.{var_tokens}
use Rattle.wq_replay.proofs.StartLines.{all_vars}
use Rattle.wq_replay.proofs.start_line.put_vars.Goals as goal

pub returns : goal.returns
returns c =
    on_ok_weaker c.put_var-3.result (λ e. (
      e.0 ∙ c.in_ok-put_since.ensures.0 ∙ c.in_ok-put_var-2.ensures.0 ∙ c.in_ok-put_overflow.ensures.0 ∙ c.in_ok-put_var.ensures.0,
      all_vars (env_data c.args.env.now) c.args.out.now.tokens c.put_var.new.out.tokens c.put_overflow.new.out.tokens c.put_var-2.new.out.tokens c.put_since.new.out.tokens c.put_var-3.new.out.tokens
          (c.in_ok-put_var.ensures.1 ∙ ap (λ (text : List ℕ). c.args.out.now.tokens ++ var_tokens (var (codes "WATCHMAN_CLOCK") text ∷ [])) c.as_str.ensures.value)
          c.in_ok-put_overflow.ensures.1
          (c.in_ok-put_var-2.ensures.1 ∙ ap (λ (text : List ℕ). c.put_overflow.new.out.tokens ++ var_tokens (var (codes "WATCHMAN_ROOT") text ∷ [])) c.as_str-2.ensures)
          c.in_ok-put_since.ensures.1
          (e.1 ∙ ap (λ (text : List ℕ). c.put_since.new.out.tokens ++ var_tokens (var (codes "WATCHMAN_TRIGGER") text ∷ [])) c.as_str-3.ensures),
    )) c.put_var-3.ensures
