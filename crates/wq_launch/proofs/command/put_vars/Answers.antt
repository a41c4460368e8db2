use Rattle.std.proofs.lemmas.Result.{on_ok_weaker}
use Rattle.wq_follow.specs.Started.{env_data}
use Rattle.wq_launch.proofs.Sets.{sets_all}
use Rattle.wq_launch.proofs.command.put_vars.Goals as goal

pub returns : goal.returns
returns c =
    on_ok_weaker c.put_var-3.result (λ trigger. sets_all (env_data c.args.env.now) _ _ _
    c.as_str.ensures.value c.as_str-2.ensures c.as_str-3.ensures _ _ _ _ _ _
    c.in_ok-put_var.ensures c.in_ok-put_overflow.ensures c.in_ok-put_var-2.ensures
    c.in_ok-put_since.ensures trigger) c.put_var-3.ensures
