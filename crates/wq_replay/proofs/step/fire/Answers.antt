-- The numbers were given out, and the triggers had their round.
use Rattle.std.proofs.Common.{◌≡◌, ◌+◌, ℕ, Some, map, ap, sym, ◌∙◌}
use Rattle.std.specs.List.{range_with_len}
use Rattle.wq_replay.specs.Numbers.{answers_for, numbers_for}
use Rattle.wq_replay.specs.Replay.{rounds}
use Rattle.wq_replay.specs.Stands.{happening_data}
use Rattle.wq_replay.proofs.Steps.{fired_round}
use Rattle.wq_replay.proofs.step.fire.Goals as goal

pub returns : goal.returns
returns g c = λ at is.
    let succeeds = c.args.succeeds in
    let count : c.numbers_for-count.result ≡ numbers_for succeeds at.next = c.numbers_for-count.ensures.count ∙ ap (numbers_for succeeds) (sym is.next) in
    let given : at.next + numbers_for succeeds at.next ≡ c.args.stage.now.next + c.numbers_for-count.result =
    ap (λ (n : ℕ). n + numbers_for succeeds at.next) is.next ∙ ap (λ (n : ℕ). c.args.stage.now.next + n) (sym count) in
    let answers : c.in_ok-answers.answers.items ≡ answers_for succeeds at.next = c.in_ok-answers.ensures
    ∙ ap (λ (n : ℕ). map Some (range_with_len c.args.stage.now.next n)) count
    ∙ ap (λ (n : ℕ). map Some (range_with_len n (numbers_for succeeds at.next))) (sym is.next) in
    fired_round at succeeds (map happening_data c.in_ok-rounds.rounds.items) _ _ c.happen.result c.happen.new.stage (c.in_ok-rounds.ensures ∙ ap rounds answers)
    (c.happen.ensures _ (record { world = is.world; tree = is.tree; draft = is.draft; next = given }))
