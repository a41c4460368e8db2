-- The client had its idle moments.
use Rattle.std.proofs.Common.{◌≡◌, ℤ, map, ap, subst, ◌∙◌}
use mir.Facts.{to_z-of_z}
use Rattle.wq_replay.specs.Client.{root_numbers_of}
use Rattle.wq_replay.specs.Stands.{happening_data}
use Rattle.wq_replay.specs.World.{idle}
use Rattle.wq_replay.proofs.Steps.{rested}
use Rattle.wq_replay.proofs.step.rest.Goals as goal

pub returns : goal.returns
returns g c = λ at is.
    let numbers = subst (λ (client : ℤ). c.in_ok-numbers.numbers.items ≡ root_numbers_of ((at.world).follows client)) (to_z-of_z c.ranges.client)
    (c.in_ok-numbers.ensures at.world is.world) in
    let made = subst (λ (client : ℤ). map happening_data c.in_ok-moments.moments.items ≡ map (idle client) c.deref.result.now) (to_z-of_z c.ranges.client)
    c.in_ok-moments.ensures in
    rested at c.args.client (map happening_data c.in_ok-moments.moments.items) _ _ c.happen.result c.happen.new.stage
    (made ∙ ap (map (idle c.args.client)) (c.deref.ensures.value ∙ numbers)) (c.happen.ensures at is)
