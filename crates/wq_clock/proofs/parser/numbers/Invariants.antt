use Rattle.std.proofs.Common.{◌≡◌, ◌≤◌, Some, map}
use Rattle.std.specs.List.{All}
use Rattle.wq_base.specs.Limit.{max_number}
use Rattle.wq_clock.specs.ClockSpec.{numbers_of}
use Rattle.wq_clock.proofs.parser.numbers.Given as goal

abbrev pub invariant-loop-part : goal.invariant-loop-part
invariant-loop-part l =
    (goal.iterator-loop-part).can_next l.part-iterator ×
    (goal.iterator-loop-part).is_finite l.part-iterator ×
    (numbers_of (map (λ part. part.now) l.yielded) ≡ Some l.numbers.items) ×
    All (λ n. n ≤ max_number) l.numbers.items
