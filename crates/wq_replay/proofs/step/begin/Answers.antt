-- A listing is open, and has no rows yet.
use Rattle.std.proofs.Common.{ℤ, [], Some, Ok, true, sym, subst}
use mir.Facts.{to_z-of_z}
use Rattle.wq_replay.specs.Stage.{drafts, empty_draft}
use Rattle.wq_replay.specs.Step.{TakesTurn}
use Rattle.wq_replay.specs.declared.stage.Stage.{Stage}
use Rattle.wq_replay.proofs.Steps.{draft_open, rows_are}
use Rattle.wq_replay.proofs.step.begin.Goals as goal

pub returns : goal.returns
returns c = λ at is known.
    let code : ℤ → Stage = λ second. record c.args.stage.now { draft = Some (record { crawls = c.args.crawls; second = second; rows = c.new.result }) } in
    subst (λ second. TakesTurn at (drafts (empty_draft c.args.crawls c.args.second)) known known (Ok true) (code second)) (sym (to_z-of_z c.ranges.second))
    (draft_open at _ (code c.args.second) known is.world is.tree (rows_are c.args.crawls c.args.second [] _ (sym c.new.ensures.items)) is.next)
