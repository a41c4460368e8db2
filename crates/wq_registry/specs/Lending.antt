-- The state that a `&mut` into things under names leaves, once it has ended. No public document
-- defines it.
use Rattle.std.specs.Prelude.{ℕ, Option}
use Rattle.std.specs.Borrow.{Fml, RattleType, MutBor, LendsIf}
use Rattle.wq_registry.specs.ByName.{ByName, put_at}
use Rattle.wq_registry.specs.Root.{RootData, with_trigger_at}
use Rattle.wq_registry.specs.contracts.named.ByName.{the_row}
use Rattle.wq_registry.specs.contracts.root.Root.{the_row as root_row}

-- the name at the place has the last value written; without one, nothing has changed
abbrev pub LendsAt : (V : RattleType) → MutBor (ByName V.Denot) → ℕ → Option (MutBor V.Denot) → Fml
LendsAt V s k r = LendsIf (the_row V) V s r (λ w. put_at k w s.now) s.now

-- the trigger at the place is the last value written; without one, nothing has changed
abbrev pub LendsTrigger : (T : RattleType) → MutBor (RootData T.Denot) → ℕ
    → Option (MutBor T.Denot) → Fml
LendsTrigger T s k r = LendsIf (root_row T) T s r (λ w. with_trigger_at k w s.now) s.now
