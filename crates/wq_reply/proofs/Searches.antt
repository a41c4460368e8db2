-- The reasons why a search has no answer.
use Rattle.std.proofs.Common.{◌≡◌, Result, Ok, Err, MatchResult, true, false, refl, sym, subst}
use mathlib.Core.Bool.{false≢true}
use Rattle.std.specs.Prelude.{IfErr, IfOk}
use Rattle.std.specs.declared.alloc.AllocError.{AllocError}
use Rattle.wq_base.specs.declared.asker.Unanswered.{Unanswered}
use Rattle.wq_base.specs.declared.asker.Unanswered.TheVariants.{Gone, NoMemory}
use Rattle.wq_reply.specs.Search.{MayEnd}

-- an asker that may go may end a search for each reason
pub may_end : {T : Type 0} (searched : Result T Unanswered) → IfErr searched (MayEnd true)
may_end (Ok found) = tt
may_end (Err Gone) = refl
may_end (Err NoMemory) = tt

-- what is said of a search is said of what it found
pub found_is : {T : Type 0} (P : T → Type 0) (searched : Result T Unanswered) (places : T) → IfOk searched P
    → MatchResult searched (λ other. ◌≡◌ {A = Result T AllocError} (Ok places) (Ok other)) (λ _. false ≡ true) → P places
found_is P (Ok other) places so is =
    let same : places ≡ other = cc is in
    subst P (sym same) so
found_is P (Err why) places so is = absurd (false≢true is)
