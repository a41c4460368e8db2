-- The run of the trigger that is found, or none.
use Rattle.std.proofs.Common.{◌≡◌, Some, None, refl, sym, ◌∙◌}
use Rattle.wq_live.specs.Event.{number_of}
use Rattle.wq_replay.proofs.WorldRounds.{run_found}
use Rattle.wq_replay.proofs.world.World.trigger_run.Goals as goal

pub returns-in_err-root : goal.returns-in_err-root
returns-in_err-root c = λ before stands.
    let shown : number_of c.args.root.now before.events ≡ Some c.in_ok-number.number = sym (c.number_of.ensures.list before.events stands.roots) ∙ c.in_ok-number.was in
    c.from_residual-in_err-root.ensures
    ∙ sym (run_found before c.args.self.now.shelf c.args.root.now c.args.trigger.now c.in_ok-number.number None None stands.shelf shown (sym c.in_err-root.ensures) refl)

pub returns-in_err-trigger : goal.returns-in_err-trigger
returns-in_err-trigger c = λ before stands.
    let shown : number_of c.args.root.now before.events ≡ Some c.in_ok-number.number = sym (c.number_of.ensures.list before.events stands.roots) ∙ c.in_ok-number.was in
    c.from_residual-in_err-trigger.ensures
    ∙ sym (run_found before c.args.self.now.shelf c.args.root.now c.args.trigger.now c.in_ok-number.number (Some c.in_ok-root.field-0.now) None stands.shelf shown
    (sym c.in_ok-root.ensures) (sym c.in_err-trigger.ensures))

pub returns : goal.returns
returns c = λ before stands.
    let shown : number_of c.args.root.now before.events ≡ Some c.in_ok-number.number = sym (c.number_of.ensures.list before.events stands.roots) ∙ c.in_ok-number.was in
    c.running.ensures
    ∙ sym (run_found before c.args.self.now.shelf c.args.root.now c.args.trigger.now c.in_ok-number.number (Some c.in_ok-root.field-0.now) (Some c.in_ok-trigger.field-0.now) stands.shelf shown
    (sym c.in_ok-root.ensures) (sym c.in_ok-trigger.ensures))
