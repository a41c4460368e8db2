-- Logs of one list are compared by their lengths.
use Rattle.std.proofs.Common.{◌≡◌, ℕ, ◌≤◌, Bool, true, false, nat_lt, MatchBool, List, length, refl, sym, arith}
use Rattle.std.proofs.lemmas.Bool.Decides.{nat_tests}
use Rattle.std.proofs.lemmas.Bool.{ltb-false}
use mathlib.Core.List.{IsPrefix}
use Rattle.wq_live.specs.declared.event.RootEvent.{RootEvent}
use Rattle.wq_live.specs.Log.{LogData, BeginsLog}
use Rattle.wq_live.proofs.Beginnings.{prefix_shorter}

is_less : (m n : ℕ) → nat_lt m n ≡ true → m ≤ n
is_less m n h = grind (arith, nat_tests)

-- the shorter begins the longer
pub compared : (a b : LogData) (both : List RootEvent) → a.book ≡ b.book → IsPrefix a.log both → IsPrefix b.log both
    → MatchBool (nat_lt (length a.log) (length b.log)) (BeginsLog a b) (BeginsLog b a)
compared a b both same p q = at (nat_lt (length a.log) (length b.log)) refl
  where
    at : (c : Bool) → nat_lt (length a.log) (length b.log) ≡ c → MatchBool (nat_lt (length a.log) (length b.log)) (BeginsLog a b) (BeginsLog b a)
    at true e = rw e (same, prefix_shorter a.log b.log both p q (is_less (length a.log) (length b.log) e))
    at false e = rw e (sym same, prefix_shorter b.log a.log both q p (ltb-false (length a.log) (length b.log) e))
