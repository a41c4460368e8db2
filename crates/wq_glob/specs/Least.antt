-- How many bytes a text has at least if the steps of a pattern fit it, so that a shorter one is
-- refused before the search. This library's own; a fit is defined without it.
use Rattle.std.specs.Prelude.{ℕ, Bool, not, List}
use Rattle.std.specs.List.{count_by}
use Rattle.wq_glob.specs.Cell.{may_be_empty}
use Rattle.wq_glob.specs.Step.{step_reach}
use Rattle.wq_glob.specs.declared.step.Step.{Step}

-- the part of a step is never empty
abbrev pub takes_some : Step → Bool
takes_some step = not (may_be_empty (step_reach step))

-- the least bytes of a text that the steps fit: one for each step whose part is never empty
abbrev pub least_of : List Step → ℕ
least_of steps = count_by takes_some steps
