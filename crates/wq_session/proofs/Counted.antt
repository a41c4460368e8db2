-- The count of a launcher's failures over the turns of a round.
use Rattle.std.proofs.Common.{◌≡◌, ◌<◌, ◌≤◌, ◌⊎◌, inl, inr, ℕ, List, [], ◌∷◌, subst, arith}
use Rattle.wq_follow.specs.Launcher.{most_failures}
use Rattle.wq_follow.specs.Round.{CountsFailure, FiredData, runs, quiet, started, failed, short}
use Rattle.wq_session.specs.Round.{CountFailures, FailedStartsAreCounted, TriggerTurnData}

-- a turn after which the count is greater or the same, and turns after which it is
rises_then : (most b n c : ℕ) → (b < n) ⊎ (n ≡ most) → (n ≤ c) ⊎ (most ≤ c) → (b < c) ⊎ (most ≤ c)
rises_then most b n c (inl rose) (inl more) = inl (omega (arith, rose, more))
rises_then most b n c (inl rose) (inr full) = inr full
rises_then most b n c (inr is) (inl more) = inr (omega (arith, is, more))
rises_then most b n c (inr is) (inr full) = inr full

stays_then : (most b n c : ℕ) → (b ≤ n) ⊎ (n ≡ most) → (n ≤ c) ⊎ (most ≤ c) → (b ≤ c) ⊎ (most ≤ c)
stays_then most b n c (inl at) (inl more) = inl (omega (arith, at, more))
stays_then most b n c (inl at) (inr full) = inr full
stays_then most b n c (inr is) (inl more) = inr (omega (arith, is, more))
stays_then most b n c (inr is) (inr full) = inr full

then_rises : (most b n c : ℕ) → (b ≤ n) ⊎ (n ≡ most) → (n < c) ⊎ (most ≤ c) → (b < c) ⊎ (most ≤ c)
then_rises most b n c (inl at) (inl more) = inl (omega (arith, at, more))
then_rises most b n c (inl at) (inr full) = inr full
then_rises most b n c (inr is) (inl more) = inr (omega (arith, is, more))
then_rises most b n c (inr is) (inr full) = inr full

-- no turn lowers the count
turn_keeps : (fired : FiredData) (b n : ℕ) → CountsFailure fired b n → (b ≤ n) ⊎ (n ≡ most_failures)
turn_keeps (failed start) b n (inl rose) = inl (omega (arith, rose))
turn_keeps (failed start) b n (inr is) = inr is
turn_keeps (runs run) b n is = inl (omega (arith, is))
turn_keeps quiet b n is = inl (omega (arith, is))
turn_keeps (started run start) b n is = inl (omega (arith, is))
turn_keeps short b n is = inl (omega (arith, is))

turns_keep : (turns : List TriggerTurnData) (b c : ℕ) → CountFailures turns b c → (b ≤ c) ⊎ (most_failures ≤ c)
turns_keep [] b c is = inl (omega (arith, is))
turns_keep (turn ∷ turns) b c (n, one, more) =
    stays_then most_failures b n c (turn_keeps turn.fired b n one) (turns_keep turns n c more)

-- the law
pub failed_starts_are_counted : FailedStartsAreCounted
failed_starts_are_counted [] b c counts has = absurd has
failed_starts_are_counted (turn ∷ turns) b c (n, one, more) (inl (start, is)) =
    rises_then most_failures b n c (subst (λ fired. CountsFailure fired b n) is one) (turns_keep turns n c more)
failed_starts_are_counted (turn ∷ turns) b c (n, one, more) (inr later) =
    then_rises most_failures b n c (turn_keeps turn.fired b n one) (failed_starts_are_counted turns n c more later)
