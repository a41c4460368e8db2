-- The searches of a crew for the files of a query.
-- It is this server's own.
use Rattle.std.specs.Prelude.{◌≡◌, Bool, true}
use Rattle.wq_base.specs.declared.asker.Unanswered.{Unanswered}
use Rattle.wq_base.specs.declared.asker.Unanswered.TheVariants.{Gone, NoMemory}

-- the possible reasons why a search has no answer: memory ran out; or its asker has gone, but only
-- if it may go
abbrev pub MayEnd : Bool → Unanswered → Type 0
MayEnd may_go Gone = may_go ≡ true
MayEnd may_go NoMemory = Unit {0}
