-- A round's work, and that it agrees with the facts that the launcher shows.
use Rattle.std.proofs.Common.{◌≡◌, ◌≢◌, IfErr, length, true, false, is_err, None, rules, ap, subst, ◌∙◌}
use Rattle.wq_clock.specs.Instance.{instance_data}
use Rattle.wq_follow.specs.Followed.{follower_data, trigger_data}
use Rattle.wq_follow.specs.Launcher.{AsksRun, Rose, StartsRun, run_of}
use Rattle.wq_follow.specs.Started.{start_data}
use Rattle.wq_follow.proofs.Rounds.{does_runs, does_short_start, does_started, does_failed}
use Rattle.wq_follow.proofs.trigger.Trigger.fire.Goals as goal

pub returns-then-not-is_free : goal.returns-then-not-is_free
returns-then-not-is_free g c =
    let runs : c.is_free.result ≡ false = search rules in
    does_runs (instance_data c.args.instance.now) c.args.view.now (trigger_data c.args.self.now) (g.L.Launch.shown c.args.launcher.now) (g.L.Launch.shown c.is_free.new.launcher)
    (g.L.Launch.failures_of c.args.launcher.now) (g.L.Launch.failures_of c.is_free.new.launcher)
    (subst (λ b. AsksRun c.args.self.now.running b (g.L.Launch.shown c.args.launcher.now) (g.L.Launch.shown c.is_free.new.launcher)) runs c.is_free.ensures.asked)
    c.is_free.ensures.counted

pub returns-in_err-start : goal.returns-in_err-start
returns-in_err-start g c =
    let free : c.is_free.result ≡ true = search rules in
    let some : length c.in_ok-batch.batch.files.items ≢ 0 = search rules in
    let errs : true ≡ is_err c.from_residual-in_err-start.result = search rules in
    let does = does_short_start (instance_data c.args.instance.now) c.args.view.now (trigger_data c.args.self.now) c.in_ok-batch.batch
    (g.L.Launch.shown c.args.launcher.now) (g.L.Launch.shown c.is_free.new.launcher)
    (g.L.Launch.failures_of c.args.launcher.now) (g.L.Launch.failures_of c.is_free.new.launcher)
    (subst (λ b. AsksRun c.args.self.now.running b (g.L.Launch.shown c.args.launcher.now) (g.L.Launch.shown c.is_free.new.launcher)) free c.is_free.ensures.asked)
    c.is_free.ensures.counted
    c.in_ok-batch.ensures.batch some in
    (does.0, does.1, does.2, does.3 ∙ errs, does.4)

pub returns-in_default : goal.returns-in_default
returns-in_default g c =
    let free : c.is_free.result ≡ true = search rules in
    let some : length c.in_ok-batch.batch.files.items ≢ 0 = search rules in
    let fails : run_of c.start.result ≡ None = ap run_of c.in_default.is in
    let rose : Rose (g.L.Launch.failures_of c.is_free.new.launcher) (g.L.Launch.failures_of c.start.new.self) =
    subst (λ r. IfErr r (λ _. Rose (g.L.Launch.failures_of c.is_free.new.launcher) (g.L.Launch.failures_of c.start.new.self))) c.in_default.is c.start.ensures.counted in
    does_failed (instance_data c.args.instance.now) c.args.view.now (trigger_data c.args.self.now) c.in_ok-batch.batch (start_data c.in_ok-start.start)
    (g.L.Launch.shown c.args.launcher.now) (g.L.Launch.shown c.is_free.new.launcher) (g.L.Launch.shown c.start.new.self)
    (g.L.Launch.failures_of c.args.launcher.now) (g.L.Launch.failures_of c.start.new.self)
    (subst (λ b. AsksRun c.args.self.now.running b (g.L.Launch.shown c.args.launcher.now) (g.L.Launch.shown c.is_free.new.launcher)) free c.is_free.ensures.asked)
    (subst (λ n. Rose n (g.L.Launch.failures_of c.start.new.self)) c.is_free.ensures.counted rose)
    c.in_ok-batch.ensures.batch some c.in_ok-start.ensures
    (subst (λ o. StartsRun (g.L.Launch.shown c.is_free.new.launcher) (start_data c.in_ok-start.start) o (g.L.Launch.shown c.start.new.self)) fails c.start.ensures.told)

pub returns : goal.returns
returns g c =
    let free : c.is_free.result ≡ true = search rules in
    let some : length c.in_ok-batch.batch.files.items ≢ 0 = search rules in
    does_started (instance_data c.args.instance.now) c.args.view.now (trigger_data c.args.self.now) c.in_ok-batch.batch (follower_data c.commit-2.new.self) (start_data c.in_ok-start.start) c.in-Ok.run'
    (g.L.Launch.shown c.args.launcher.now) (g.L.Launch.shown c.is_free.new.launcher) (g.L.Launch.shown c.start.new.self)
    (g.L.Launch.failures_of c.args.launcher.now) (g.L.Launch.failures_of c.start.new.self)
    (subst (λ b. AsksRun c.args.self.now.running b (g.L.Launch.shown c.args.launcher.now) (g.L.Launch.shown c.is_free.new.launcher)) free c.is_free.ensures.asked)
    (c.in-Ok.ensures.kept ∙ c.is_free.ensures.counted)
    c.in_ok-batch.ensures.batch some c.in_ok-start.ensures c.in-Ok.ensures.told c.commit-2.ensures
