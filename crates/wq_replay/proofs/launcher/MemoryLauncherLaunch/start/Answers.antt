-- The start is kept with its answer, or memory ran out for it.
use Rattle.std.proofs.Common.{inl, inr, ap, subst, sym, ◌∙◌}
use Rattle.wq_follow.specs.Launcher.{StartsRun}
use Rattle.wq_follow.specs.Started.{start_data}
use Rattle.wq_replay.specs.Launched.{launcher_shown}
use Rattle.wq_replay.proofs.Launches.{IsKept, start_told}
use Rattle.wq_replay.proofs.launcher.MemoryLauncherLaunch.start.Goals as goal
use Rattle.wq_replay.proofs.launcher.MemoryLauncherLaunch.start.Goals.{then-is_err, else-is_err}

pub returns-in-Some-clause-told : goal.returns-in-Some-clause-told
returns-in-Some-clause-told c =
    let is : IsKept c.keep.result c.keep.new.self c.if-is_err.self = elim c.if-is_err.branch [
      | then-is_err w ↦ inl (sym c.is_err.ensures.value ∙ w.if-is_err.true, ap (λ l. l.spent) w.self-is)
      | else-is_err w ↦ inr (sym c.is_err.ensures.value ∙ w.if-is_err.false, ap launcher_shown w.self-is)
    ] in
    subst (λ run. StartsRun (launcher_shown c.args.self.now) (start_data c.args.start) run (launcher_shown c.if-is_err.self)) c.in-Some.is
    (start_told c.args.self.now c.keep.new.self c.if-is_err.self c.args.start c.next_answer-run.result c.keep.result c.next_answer-run.ensures.next
    (ap (λ answers. answers.items) c.keep.ensures.answers ∙ c.next_answer-run.ensures.later) c.keep.ensures.tried c.keep.ensures.runs c.keep.ensures.spent is)

pub returns-in-None-clause-told : goal.returns-in-None-clause-told
returns-in-None-clause-told c =
    let is : IsKept c.keep.result c.keep.new.self c.if-is_err.self = elim c.if-is_err.branch [
      | then-is_err w ↦ inl (sym c.is_err.ensures.value ∙ w.if-is_err.true, ap (λ l. l.spent) w.self-is)
      | else-is_err w ↦ inr (sym c.is_err.ensures.value ∙ w.if-is_err.false, ap launcher_shown w.self-is)
    ] in
    subst (λ run. StartsRun (launcher_shown c.args.self.now) (start_data c.args.start) run (launcher_shown c.if-is_err.self)) c.in-None.is
    (start_told c.args.self.now c.keep.new.self c.if-is_err.self c.args.start c.next_answer-run.result c.keep.result c.next_answer-run.ensures.next
    (ap (λ answers. answers.items) c.keep.ensures.answers ∙ c.next_answer-run.ensures.later) c.keep.ensures.tried c.keep.ensures.runs c.keep.ensures.spent is)
