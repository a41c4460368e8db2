-- The state that a `&mut` into a shelf leaves, once it has ended. No public document defines it.
use Rattle.std.specs.Prelude.{ℕ, Option}
use Rattle.std.specs.Borrow.{Fml, RattleType, MutBor, Lends, LendsIf}
use Rattle.std.specs.List.{slice_set}
use Rattle.wq_registry.specs.Kept.{CacheData}
use Rattle.wq_registry.specs.Root.{RootData}
use Rattle.wq_registry.specs.Shelf.{ShelfData, root_changed, trigger_changed}
use Rattle.wq_registry.specs.contracts.cache.Cache.{the_row as cache_row}
use Rattle.wq_registry.specs.contracts.root.Root.{the_row as root_row}
use Rattle.wq_registry.specs.contracts.shelf.Shelf.{the_row}

-- the trigger at the place is the last value written; without one, nothing has changed
abbrev pub LendsTriggerOf : (T : RattleType) → MutBor (ShelfData T.Denot) → ℕ → ℕ
    → Option (MutBor T.Denot) → Fml
LendsTriggerOf T s root k r =
    LendsIf (the_row T) T s r (λ w. trigger_changed root k w s.now) s.now

-- the root of the number is the last value written; without one, nothing has changed
abbrev pub LendsRootOf : (T : RattleType) → MutBor (ShelfData T.Denot) → ℕ
    → Option (MutBor (RootData T.Denot)) → Fml
LendsRootOf T s number r =
    LendsIf (the_row T) (root_row T) s r (λ w. root_changed number (λ _. w) s.now) s.now

-- the root at the place is the last value written
abbrev pub LendsRootAt : (T : RattleType) → MutBor (ShelfData T.Denot) → ℕ
    → MutBor (RootData T.Denot) → Fml
LendsRootAt T s place r =
    Lends (the_row T) (root_row T) s r
    (λ w. let shelf = s.now in record shelf { roots = slice_set shelf.roots place w })

-- the shelf is unchanged, whatever happens to the cache
abbrev pub LendsCache : (T : RattleType) → MutBor (ShelfData T.Denot) → MutBor CacheData → Fml
LendsCache T s r = Lends (the_row T) cache_row s r (λ _. s.now)
