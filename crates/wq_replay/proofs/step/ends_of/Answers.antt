-- The end of the run, if the name is a text and there is a run.
use Rattle.std.proofs.Common.{◌≡◌, List, IfOk, map, sym, ap, subst, ◌∙◌}
use Rattle.wq_replay.specs.Replay.{end_if}
use Rattle.wq_replay.specs.Rounds.{trigger_run}
use Rattle.wq_replay.specs.Stands.{happening_data}
use Rattle.wq_replay.specs.World.{HappeningData, root_text}
use Rattle.wq_replay.proofs.WorldRounds.{ends_no_text, ends_text}
use Rattle.wq_replay.proofs.step.ends_of.Goals as goal

pub returns-in-Ok : goal.returns-in-Ok
returns-in-Ok c = λ before stands.
    let run = c.trigger_run.ensures before stands ∙ ap (λ name. trigger_run root_text name before) c.in-Ok.ensures.cases.0 in
    subst (λ (ends : List HappeningData). IfOk c.end_if.result (λ all. map happening_data all.items ≡ ends))
    (ap end_if run ∙ sym (ends_text c.args.name.now before c.in-Ok.ensures.cases.1)) c.end_if.ensures

pub returns-in-Err : goal.returns-in-Err
returns-in-Err c = λ before stands.
    ap (map happening_data) c.new.ensures.items ∙ sym (ends_no_text c.args.name.now before c.in-Err.ensures.cases.0)
