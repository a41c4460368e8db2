-- The order of last change: the positions of a view's records, those of the latest pass first. The
-- positions of one pass rise. The order is this server's own.
use Rattle.std.specs.Prelude.{ℕ, zero, suc, ◌≡◌, ◌≤◌, ◌<◌, ◌⊎◌, ◌+◌, ◌-◌, Bool, ◌==◌, nat_le, nat_lt, if◌then◌else◌}
use Rattle.std.specs.Prelude.{get_or, length, List, [], ◌∷◌, ◌++◌, map, refl}
use Rattle.std.specs.Coded.{Coded, code_by, coded×, coded_ℕ, coded_list}
use Rattle.std.specs.List.{All, AllByRecursion, range_with_len}
use Rattle.wq_record.specs.RecordData.{RecordData}

-- the positions of the items that pass the test, rising
abbrev pub positions : {X : Type 0} → (X → Bool) → List X → List ℕ
positions test [] = []
positions test (x ∷ xs) =
    if test x then 0 ∷ map suc (positions test xs) else map suc (positions test xs)

-- the positions of the ticks up to t: those of tick t first, then those of the tick before it, and
-- so on; those of one tick rise
abbrev pub newest_first : ℕ → List ℕ → List ℕ
newest_first zero ticks = positions (λ n. n == 0) ticks
newest_first (suc t) ticks = positions (λ n. n == suc t) ticks ++ newest_first t ticks

-- the ticks of the last changes
abbrev pub ticks_of : List RecordData → List ℕ
ticks_of = map (λ r. r.otick)

-- each record was seen to change at a tick from 1 to t
abbrev pub Known : ℕ → List RecordData → Type 0
Known t rs = AllByRecursion (λ n. (1 ≤ n) × (n ≤ t)) (ticks_of rs)

-- the first position comes before the second one: its tick is later, or it is the lower position of
-- one tick
abbrev pub ComesBefore : List ℕ → ℕ → ℕ → Type 0
ComesBefore ticks p q =
    (get_or ticks q 0 < get_or ticks p 0) ⊎ ((get_or ticks p 0 ≡ get_or ticks q 0) × (p < q))

-- each position of an order comes before all later ones
abbrev pub Falls : List ℕ → List ℕ → Type 0
Falls ticks [] = Unit {0}
Falls ticks (p ∷ ps) = AllByRecursion (ComesBefore ticks p) ps × Falls ticks ps

-- the order of last change is that of a sort by tick, falling, and then by position: it falls, and
-- has as many positions as there are, each of them below that number
abbrev pub NewestIsSorted : Type 0
NewestIsSorted = (t : ℕ) (ticks : List ℕ) → AllByRecursion (λ n. n ≤ t) ticks
    → Falls ticks (newest_first t ticks) × (length (newest_first t ticks) ≡ length ticks)
    × All (λ p. p < length ticks) (newest_first t ticks)

-- the positions of the next ticks after one, as many as these; the latest tick comes first
abbrev pub newer : ℕ → ℕ → List ℕ → List ℕ
newer zero since ticks = []
newer (suc more) since ticks =
    positions (λ n. n == suc (more + since)) ticks ++ newer more since ticks

-- the positions of what changed after a tick come first, and then those of the rest
abbrev pub NewestIsSplit : Type 0
NewestIsSplit = (more since t : ℕ) (ticks : List ℕ) → t ≡ more + since
    → (newest_first t ticks ≡ newer more since ticks ++ newest_first since ticks)
    × AllByRecursion (λ p. since < get_or ticks p 0) (newer more since ticks)
    × AllByRecursion (λ p. get_or ticks p 0 ≤ since) (newest_first since ticks)

-- each number is below all later ones
abbrev pub Rises : List ℕ → Type 0
Rises [] = Unit {0}
Rises (p ∷ ps) = AllByRecursion (λ q. p < q) ps × Rises ps

-- the number at a place among those that are not in a rising list
abbrev pub nth_outside : List ℕ → ℕ → ℕ
nth_outside [] place = place
nth_outside (p ∷ rising) place = if nat_le p place then nth_outside rising (place + 1) else place

-- the numbers below this one that are not in a rising list
abbrev pub outside : List ℕ → ℕ → List ℕ
outside rising count = map (nth_outside rising) (range_with_len 0 (count - length rising))

-- the parts of an order of last change
pub record OrderParts : Type 0 where
  -- the positions of the records that a later pass than the first saw change, the latest first
  pub later : List ℕ
  -- the same, rising
  pub rising : List ℕ
  -- how many records there are
  pub count : ℕ

-- the parts of an order as pairs
abbrev pub order_code : Coded OrderParts
order_code =
    code_by (List ℕ × (List ℕ × ℕ))
    (coded× (coded_list coded_ℕ) (coded× (coded_list coded_ℕ) coded_ℕ))
    (λ order. (order.later, (order.rising, order.count)))
    (λ (later, (rising, count)). record { later = later; rising = rising; count = count })
    (λ _. refl)

-- the positions of an order: those of the list, and then the others
abbrev pub positions_in : OrderParts → List ℕ
positions_in order = order.later ++ outside order.rising order.count

-- whether a tick comes after the first one
abbrev pub is_later : ℕ → Bool
is_later n = nat_lt 1 n

-- the order of last change of these records, each of which changed at a tick from 1 to this one
pub record IsOrderOf (tick : ℕ) (records : List RecordData) (order : OrderParts) : Type 0 where
  pub known : Known tick records
  pub later : order.later ≡ newer (tick - 1) 1 (ticks_of records)
  pub rising : order.rising ≡ positions is_later (ticks_of records)
  pub count : order.count ≡ length records
