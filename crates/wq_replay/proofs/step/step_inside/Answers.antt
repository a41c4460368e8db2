-- A row is put after the others.
use Rattle.std.proofs.Common.{[], ◌∷◌, ◌++◌, Some, Ok, true, sym, ap, subst, ◌∙◌}
use Rattle.wq_replay.proofs.Steps.{draft_open, rows_are}
use Rattle.wq_replay.specs.LineData.{line_data}
use Rattle.wq_replay.specs.Stage.{turn_inside}
use Rattle.wq_replay.specs.Step.{TakesTurn, draft_data}
use Rattle.wq_replay.specs.declared.stage.Stage.{Stage}
use Rattle.wq_replay.proofs.step.step_inside.Goals as goal

pub returns-in_ok-push-in-Row : goal.returns-in_ok-push-in-Row
returns-in_ok-push-in-Row c = λ at stands tree drafted next known.
    let draft = c.args.draft in
    let code : Stage = record c.args.stage.now { draft = Some (record { crawls = draft.crawls; second = draft.second; rows = c.push.new.self }) } in
    subst (λ line. TakesTurn at (turn_inside (draft_data draft) (line_data line)) known known (Ok true) code) (sym c.in-Row.is)
    (draft_open at _ code known stands tree (rows_are draft.crawls draft.second _ _ (sym (c.in_ok-push-in-Row.ensures.items ∙ ap (λ row. draft.rows.items ++ row ∷ []) c.in_ok-seen-in-Row.ensures))) next)

pub returns-in-End : goal.returns-in-End
returns-in-End c = λ at stands tree drafted next known.
    subst (λ line. TakesTurn at (turn_inside (draft_data c.args.draft) (line_data line)) known known c.end_listing.result c.end_listing.new.stage) (sym c.in-End.is)
    (c.end_listing.ensures at stands next known)
