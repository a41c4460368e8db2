-- The root is not shown; or its triggers had a round, and the launcher kept all starts.
use Rattle.std.proofs.Common.{◌≡◌, map, refl, sym, ap, subst, ◌∙◌}
use Rattle.wq_clock.specs.Instance.{instance_data}
use Rattle.wq_clock.specs.Run.{instance_of}
use Rattle.wq_live.specs.Table.{root_by_text}
use Rattle.wq_session.specs.Shelved.{shelf_data}
use Rattle.wq_replay.specs.Launched.{all_tried, launcher_shown, runs_data}
use Rattle.wq_replay.specs.Rounds.{RoundsFound, fired, sent_note}
use Rattle.wq_replay.specs.StartLine.{tried_text}
use Rattle.wq_replay.specs.World.{unrefused}
use Rattle.wq_replay.proofs.WorldRounds.{has_round, rounds_found, rounds_none}
use Rattle.wq_replay.proofs.world.World.round.Goals as goal

pub returns-in_default : goal.returns-in_default
returns-in_default c = λ before stands. (
  unrefused before,
  (
    c.args.self.now.views.table,
    stands.roots,
    subst (λ text. RoundsFound (root_by_text text c.args.self.now.views.table) c.args.answers.items before (map sent_note c.new.result) (unrefused before)) c.as_str.ensures
        (rounds_none (root_by_text c.as_str.result.now c.args.self.now.views.table) c.args.answers.items before c.new.result c.in_default.ensures.number c.new.ensures),
  ),
  record { run = stands.run; roots = stands.roots; shelf = stands.shelf; follows = stands.follows; runs = stands.runs; refused = refl; whole = stands.whole },
)

pub returns : goal.returns
returns c = λ before stands.
    let launcher = c.round_ahead.new.launcher in
    let left = shelf_data c.round_ahead.new.shelf in
    let mine = runs_data c.replace-runs.result in
    let held : before.runs ≡ mine = stands.runs ∙ ap runs_data (sym c.replace-runs.ensures.value) in
    let about : c.in_ok-lines.lines ≡ map tried_text (all_tried launcher.tried.items) = c.in_ok-lines.ensures ∙ ap (λ tried. map tried_text (all_tried tried)) c.deref.ensures.value in
    let had = has_round before (instance_data c.instance-instance.result) c.in-Some.view.now c.args.answers.items (shelf_data c.args.self.now.shelf) left mine launcher
    (launcher_shown c.new-launcher.result) c.in_ok-lines.lines stands.shelf held c.round_ahead.ensures.0 c.new-launcher.ensures c.if-launcher.false about in
    let after = fired left (runs_data launcher.runs) before in (
      after,
      (
        c.args.self.now.views.table,
        stands.roots,
        subst (λ text. RoundsFound (root_by_text text c.args.self.now.views.table) c.args.answers.items before (map sent_note c.in_ok-lines.lines) after) c.as_str.ensures
            (rounds_found (root_by_text c.as_str.result.now c.args.self.now.views.table) c.in-Some.number c.in-Some.view.now (instance_data c.instance-instance.result) c.args.answers.items before
            (map sent_note c.in_ok-lines.lines) after c.in-Some.ensures.number c.in-Some.ensures.view
            (c.instance-instance.ensures ∙ ap (λ run. instance_of run c.in-Some.number) (sym stands.run)) had),
      ),
      record { run = stands.run; roots = stands.roots; shelf = refl; follows = stands.follows; runs = refl; refused = refl; whole = stands.whole },
    )
