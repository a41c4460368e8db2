-- The moves of a view's records in a pass: the positions of those that came or changed. No public
-- document defines them.
use Rattle.std.specs.Prelude.{◌≡◌, ℕ, Bool, true, false, ◌==◌, ◌||◌, not, ◌+◌, List, [], ◌∷◌, ◌++◌, map, filter}
use Rattle.std.specs.Ordering.{nat_cmp}
use Rattle.std.specs.List.Sorted.{IsPermutation, IsSorted}
use Rattle.wq_view.specs.Merge.{PairData, record_alone, record_and_row, row_alone, is_unchanged}
use Rattle.wq_view.specs.Order.{OrderParts, nth_outside}
use Rattle.wq_view.specs.declared.moves.Moves.{Moves}

-- the moves of the first records after a pass
pub record MovesData : Type 0 where
  -- the position of the next record
  pub next : ℕ
  -- the positions of the records that came or changed, rising
  pub changed : List ℕ
  -- those of the records that came
  pub came : List ℕ

-- the data of the type `Moves`
abbrev pub moves_data : Moves → MovesData
moves_data moves = record {
  next = moves.next;
  changed = moves.changed.items;
  came = moves.came.items;
}

-- the moves before the first record
abbrev pub no_moves : MovesData
no_moves = record { next = 0; changed = []; came = [] }

-- the moves with one record more, which the pass left as it was or changed
abbrev pub with_known : Bool → MovesData → MovesData
with_known true m = record { next = m.next + 1; changed = m.changed; came = m.came }
with_known false m = record {
  next = m.next + 1;
  changed = m.changed ++ (m.next ∷ []);
  came = m.came;
}

-- the moves with one record more, whose name is new
abbrev pub with_new : MovesData → MovesData
with_new m = record {
  next = m.next + 1;
  changed = m.changed ++ (m.next ∷ []);
  came = m.came ++ (m.next ∷ []);
}

-- the moves with one record more, that of a pair
abbrev pub with_pair : PairData → MovesData → MovesData
with_pair (record_alone r) m = with_known (is_unchanged (record_alone r)) m
with_pair (record_and_row r row) m = with_known (is_unchanged (record_and_row r row)) m
with_pair (row_alone row) m = with_new m

-- the moves with the records of these pairs
abbrev pub with_pairs : List PairData → MovesData → MovesData
with_pairs [] m = m
with_pairs (p ∷ ps) m = with_pairs ps (with_pair p m)

-- the moves with so many records more, which the pass left as they were
abbrev pub with_same : ℕ → MovesData → MovesData
with_same count m = record { next = m.next + count; changed = m.changed; came = m.came }

-- whether a number is in a list
abbrev pub is_among : List ℕ → ℕ → Bool
is_among [] n = false
is_among (k ∷ ks) n = (k == n) || is_among ks n

-- the positions after a pass of the records at these positions before it that did not change
abbrev pub moved_of : MovesData → List ℕ → List ℕ
moved_of m old = filter (λ p. not (is_among m.changed p)) (map (nth_outside m.came) old)

-- an order after a pass that is not the first: the positions of what changed come first, and then
-- those of the rest in the order before the pass
pub record IsMoved (m : MovesData) (old next : OrderParts) : Type 0 where
  pub later : next.later ≡ m.changed ++ moved_of m old.later
  pub same : IsPermutation next.later next.rising
  pub sorted : IsSorted nat_cmp next.rising
  pub count : next.count ≡ m.next

-- an order after a pass, which may be the first
abbrev pub IsAfter : Bool → MovesData → OrderParts → OrderParts → Type 0
IsAfter true m old next = next ≡ record { later = []; rising = []; count = m.next }
IsAfter false m old next = IsMoved m old next
