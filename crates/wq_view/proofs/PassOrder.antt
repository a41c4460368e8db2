-- The order of last change after a pass, from the moves of the records.
use Rattle.std.proofs.Common.{◌≡◌, ℕ, ℤ, zero, suc, ◌+◌, ◌-◌, ◌<◌, ◌≤◌, Bool, true, false, not, ◌&&◌, ◌==◌, if◌then◌else◌, slice_get, Option, Some, None, IfSome, List, [], ◌∷◌, ◌++◌, map, length, get_or, ◌⊎◌, inl, inr, refl, sym, ap, subst, ◌∙◌, append_assoc, append-nil, arith}
use mathlib.Core.Bool.{false≢true, true≢false}
use Rattle.std.specs.declared.cmp.Ordering.{Ordering}
use Rattle.std.specs.declared.cmp.Ordering.TheVariants.{Less, Equal, Greater}
use Rattle.std.specs.FinMap.Entries.{by_order}
use Rattle.std.specs.List.{filter, All, AllZip, AllByRecursion}
use Rattle.std.proofs.lemmas.List.{length-map}
use Rattle.std.proofs.lemmas.List.Elements.{recursion_from_All, filter_agree}
use Rattle.std.proofs.lemmas.Option.{slice_get_within, get_or_from_slice_get}
use Rattle.wq_view.specs.Limit.{max_records}
use Rattle.wq_record.specs.Seen.{SeenData, stat_of, same_stat}
use Rattle.wq_record.specs.Name.{name_cmp}
use Rattle.wq_record.specs.RecordData.{RecordData, last_stat, after_change, after_creation, after_deletion}
use Rattle.wq_view.specs.Merge.{PairData, record_alone, record_and_row, row_alone, pairs_from, pairs_of, is_unchanged, pair_after, records_after}
use Rattle.wq_view.specs.Order.{OrderParts, Rises, positions, newer, nth_outside, ticks_of, Known, IsOrderOf}
use Rattle.wq_view.specs.Moves.{IsAfter, IsMoved, MovesData, is_among, moved_of, no_moves, with_known, with_pair, with_pairs}
use Rattle.wq_view.proofs.Newest.{eq_same, eq_apart, is_left, Moves, positions_within}
use Rattle.wq_view.proofs.Growing.{is_known, length-kept}
use Rattle.wq_view.proofs.LaterOrder.{grown_newer, left_newer, newer_within, none_later}
use Rattle.wq_view.proofs.LaterRising.{sorted_later}
use Rattle.wq_view.proofs.Outside.{among_bucket, nth_other, positions_rise}
use Rattle.wq_view.proofs.Runs.{absent_stays, same_stays}

-- the tick of a pair's record before a pass; 0 if the name is new
abbrev tick_before : PairData → ℕ
tick_before (record_alone r) = r.otick
tick_before (record_and_row r row) = r.otick
tick_before (row_alone row) = 0

-- what has a tick is kept among what is known
known_kept : (n : ℕ) (ns : List ℕ) → 1 ≤ n → filter is_known (n ∷ ns) ≡ n ∷ filter is_known ns
known_kept n ns h =
    let known : is_known n ≡ true = ap not (eq_apart n 0 (λ e. omega (arith, e, h))) in
    rw known refl

new_left : (rows : List SeenData) → filter is_known (map tick_before (map row_alone rows)) ≡ []
new_left [] = refl
new_left (row ∷ rows) = new_left rows

kept_from : (r : RecordData) (later : List SeenData → List PairData) (ns : List ℕ) → 1 ≤ r.otick → ((rows : List SeenData) → filter is_known (map tick_before (later rows)) ≡ ns) → (rows : List SeenData) → filter is_known (map tick_before (pairs_from r later rows)) ≡ r.otick ∷ ns
kept_from r later ns h rest [] = known_kept r.otick (map tick_before (later [])) h ∙ ap (λ l. r.otick ∷ l) (rest [])
kept_from r later ns h rest (row ∷ rows) = by (name_cmp r.name row.name) (kept_from r later ns h rest rows)
  where
    by : (o : Ordering) → filter is_known (map tick_before (pairs_from r later rows)) ≡ r.otick ∷ ns → filter is_known (map tick_before (by_order o (record_alone r ∷ later (row ∷ rows)) (record_and_row r row ∷ later rows) (row_alone row ∷ pairs_from r later rows))) ≡ r.otick ∷ ns
    by Less greater = known_kept r.otick (map tick_before (later (row ∷ rows))) h ∙ ap (λ l. r.otick ∷ l) (rest (row ∷ rows))
    by Equal greater = known_kept r.otick (map tick_before (later rows)) h ∙ ap (λ l. r.otick ∷ l) (rest rows)
    by Greater greater = greater

-- the known ticks before the pass are those of the records
ticks_kept : (t : ℕ) (rs : List RecordData) (rows : List SeenData) → Known t rs → filter is_known (map tick_before (pairs_of rs rows)) ≡ ticks_of rs
ticks_kept t [] rows known = new_left rows
ticks_kept t (r ∷ rs) rows known = kept_from r (pairs_of rs) (ticks_of rs) known.0.0 (λ rows. ticks_kept t rs rows known.1) rows

-- the positions of what changed, and the places of the known records, from a position on
abbrev changed_from : ℕ → List PairData → List ℕ
changed_from n [] = []
changed_from n (p ∷ ps) = if is_unchanged p then changed_from (n + 1) ps else n ∷ changed_from (n + 1) ps

abbrev came_from : ℕ → List PairData → List ℕ
came_from n [] = []
came_from n (record_alone r ∷ ps) = came_from (n + 1) ps
came_from n (record_and_row r row ∷ ps) = came_from (n + 1) ps
came_from n (row_alone row ∷ ps) = n ∷ came_from (n + 1) ps

known_changed : (b : Bool) (ps : List PairData) (m : MovesData) → (with_known b m).changed ++ changed_from (with_known b m).next ps ≡ m.changed ++ (if b then changed_from (m.next + 1) ps else m.next ∷ changed_from (m.next + 1) ps)
known_changed true ps m = refl
known_changed false ps m = append_assoc m.changed (m.next ∷ []) (changed_from (m.next + 1) ps)

one_changed : (p : PairData) (ps : List PairData) (m : MovesData) → (with_pair p m).changed ++ changed_from (with_pair p m).next ps ≡ m.changed ++ changed_from m.next (p ∷ ps)
one_changed (record_alone r) ps m = known_changed (is_unchanged (record_alone r)) ps m
one_changed (record_and_row r row) ps m = known_changed (is_unchanged (record_and_row r row)) ps m
one_changed (row_alone row) ps m = append_assoc m.changed (m.next ∷ []) (changed_from (m.next + 1) ps)

changed_is : (ps : List PairData) (m : MovesData) → (with_pairs ps m).changed ≡ m.changed ++ changed_from m.next ps
changed_is [] m = sym (append-nil m.changed)
changed_is (p ∷ ps) m = changed_is ps (with_pair p m) ∙ one_changed p ps m

known_came : (b : Bool) (ps : List PairData) (m : MovesData) → (with_known b m).came ++ came_from (with_known b m).next ps ≡ m.came ++ came_from (m.next + 1) ps
known_came true ps m = refl
known_came false ps m = refl

one_came : (p : PairData) (ps : List PairData) (m : MovesData) → (with_pair p m).came ++ came_from (with_pair p m).next ps ≡ m.came ++ came_from m.next (p ∷ ps)
one_came (record_alone r) ps m = known_came (is_unchanged (record_alone r)) ps m
one_came (record_and_row r row) ps m = known_came (is_unchanged (record_and_row r row)) ps m
one_came (row_alone row) ps m = append_assoc m.came (m.next ∷ []) (came_from (m.next + 1) ps)

came_is : (ps : List PairData) (m : MovesData) → (with_pairs ps m).came ≡ m.came ++ came_from m.next ps
came_is [] m = sym (append-nil m.came)
came_is (p ∷ ps) m = came_is ps (with_pair p m) ∙ one_came p ps m

known_next : (b : Bool) (m : MovesData) → (with_known b m).next ≡ m.next + 1
known_next true m = refl
known_next false m = refl

one_next : (p : PairData) (m : MovesData) → (with_pair p m).next ≡ m.next + 1
one_next (record_alone r) m = known_next (is_unchanged (record_alone r)) m
one_next (record_and_row r row) m = known_next (is_unchanged (record_and_row r row)) m
one_next (row_alone row) m = refl

next_is : (ps : List PairData) (m : MovesData) → (with_pairs ps m).next ≡ m.next + length ps
next_is [] m = omega arith
next_is (p ∷ ps) m = omega (arith, next_is ps (with_pair p m), one_next p m)

shifted : (n : ℕ) (qs : List ℕ) → map (λ q. (n + 1) + q) qs ≡ map (λ q. n + q) (map suc qs)
shifted n [] = refl
shifted n (q ∷ qs) =
    let same : (n + 1) + q ≡ n + suc q = omega arith in
    ap (λ k. k ∷ map (λ q. (n + 1) + q) qs) same ∙ ap (λ l. (n + suc q) ∷ l) (shifted n qs)

from_zero : (qs : List ℕ) → map (λ q. 0 + q) qs ≡ qs
from_zero [] = refl
from_zero (q ∷ qs) =
    let same : 0 + q ≡ q = omega arith in
    ap (λ k. k ∷ map (λ q. 0 + q) qs) same ∙ ap (λ l. q ∷ l) (from_zero qs)

nothing_more : (n : ℕ) → n ≡ n + 0
nothing_more n = omega arith

-- a record that was known did not come
known_there : (n tick : ℕ) (ps : List PairData) → 1 ≤ tick → came_from (n + 1) ps ≡ map (λ q. (n + 1) + q) (positions (λ k. k == 0) (map tick_before ps)) → came_from (n + 1) ps ≡ map (λ q. n + q) (positions (λ k. k == 0) (tick ∷ map tick_before ps))
known_there n tick ps h rest =
    let no : (tick == 0) ≡ false = eq_apart tick 0 (λ e. omega (arith, e, h)) in
    rw no (rest ∙ shifted n (positions (λ k. k == 0) (map tick_before ps)))

-- a new one did
new_there : (n : ℕ) (ps : List PairData) (b : Bool) → b ≡ true → came_from (n + 1) ps ≡ map (λ q. (n + 1) + q) (positions (λ k. k == 0) (map tick_before ps)) → n ∷ came_from (n + 1) ps ≡ map (λ q. n + q) (if b then 0 ∷ map suc (positions (λ k. k == 0) (map tick_before ps)) else map suc (positions (λ k. k == 0) (map tick_before ps)))
new_there n ps true e rest =
    let later = positions (λ k. k == 0) (map tick_before ps) in
    ap (λ l. n ∷ l) (rest ∙ shifted n later) ∙ ap (λ k. k ∷ map (λ q. n + q) (map suc later)) (nothing_more n)
new_there n ps false e rest = absurd (false≢true e)

map_within : (f g : ℕ → ℕ) (bound : ℕ) → ((n : ℕ) → n < bound → f n ≡ g n) → (ns : List ℕ) → AllByRecursion (λ n. n < bound) ns → map f ns ≡ map g ns
map_within f g bound same [] all = refl
map_within f g bound same (n ∷ ns) all = ap (λ k. k ∷ map f ns) (same n all.0) ∙ ap (λ l. g n ∷ l) (map_within f g bound same ns all.1)

module _ (t : ℕ) (second : ℤ) where
  abbrev tick_after : PairData → ℕ
  tick_after p = (pair_after (suc t) second p).otick

  -- the record of a pair, if there is one, changed at a tick from 1 to t
  abbrev IsKnownPair : PairData → Type 0
  IsKnownPair (record_alone r) = (1 ≤ r.otick) × (r.otick ≤ t)
  IsKnownPair (record_and_row r row) = (1 ≤ r.otick) × (r.otick ≤ t)
  IsKnownPair (row_alone row) = Unit {0}

  known_rows : (rows : List SeenData) → AllByRecursion IsKnownPair (map row_alone rows)
  known_rows [] = tt
  known_rows (row ∷ rows) = (tt, known_rows rows)

  known_from : (r : RecordData) (later : List SeenData → List PairData) → (1 ≤ r.otick) × (r.otick ≤ t) → ((rows : List SeenData) → AllByRecursion IsKnownPair (later rows)) → (rows : List SeenData) → AllByRecursion IsKnownPair (pairs_from r later rows)
  known_from r later h rest [] = (h, rest [])
  known_from r later h rest (row ∷ rows) = by (name_cmp r.name row.name) (known_from r later h rest rows)
    where
      by : (o : Ordering) → AllByRecursion IsKnownPair (pairs_from r later rows) → AllByRecursion IsKnownPair (by_order o (record_alone r ∷ later (row ∷ rows)) (record_and_row r row ∷ later rows) (row_alone row ∷ pairs_from r later rows))
      by Less greater = (h, rest (row ∷ rows))
      by Equal greater = (h, rest rows)
      by Greater greater = (tt, greater)

  pairs_known : (rs : List RecordData) (rows : List SeenData) → Known t rs → AllByRecursion IsKnownPair (pairs_of rs rows)
  pairs_known [] rows known = known_rows rows
  pairs_known (r ∷ rs) rows known = known_from r (pairs_of rs) known.0 (λ rows. pairs_known rs rows known.1) rows

  -- a pass leaves the tick of a record that it does not change
  unchanged_tick : (p : PairData) → is_unchanged p ≡ true → tick_after p ≡ tick_before p
  unchanged_tick (record_alone r) e = ap (λ (x : RecordData). x.otick) (absent_stays (suc t) second r e)
  unchanged_tick (record_and_row r row) e = ap (λ (x : RecordData). x.otick) (same_stays (suc t) second r row e)
  unchanged_tick (row_alone row) e = absurd (false≢true e)

  -- what it changes has its tick
  changed_tick : (p : PairData) → is_unchanged p ≡ false → tick_after p ≡ suc t
  changed_tick (record_alone r) e = at r.exists e
    where
      at : (b : Bool) → not b ≡ false → (if b then after_deletion r (suc t) second else r).otick ≡ suc t
      at true e = refl
      at false e = absurd (true≢false e)
  changed_tick (record_and_row r row) e = at r.exists (same_stat (last_stat r) (stat_of row)) e
    where
      at : (a b : Bool) → (a && b) ≡ false → (if a then (if b then r else after_change r (stat_of row) (suc t) second) else after_creation r (stat_of row) (suc t) second).otick ≡ suc t
      at true true e = absurd (true≢false e)
      at true false e = refl
      at false b e = refl
  changed_tick (row_alone row) e = refl

  bounded : (p : PairData) → IsKnownPair p → tick_before p ≤ t
  bounded (record_alone r) known = known.1
  bounded (record_and_row r row) known = known.1
  bounded (row_alone row) known = omega arith

  -- what changed is what has the tick of the pass
  moved_is : (p : PairData) → IsKnownPair p → (tick_after p == suc t) ≡ not (is_unchanged p)
  moved_is p known = at (is_unchanged p) refl
    where
      at : (b : Bool) → is_unchanged p ≡ b → (tick_after p == suc t) ≡ not b
      at true e = ap (λ n. n == suc t) (unchanged_tick p e) ∙ eq_apart (tick_before p) (suc t) (λ same. omega (arith, bounded p known, same))
      at false e = ap (λ n. n == suc t) (changed_tick p e) ∙ eq_same (suc t)

  moves : (p : PairData) → (tick_after p ≡ suc t) ⊎ (tick_after p ≡ tick_before p)
  moves p = at (is_unchanged p) refl
    where
      at : (b : Bool) → is_unchanged p ≡ b → (tick_after p ≡ suc t) ⊎ (tick_after p ≡ tick_before p)
      at true e = inr (unchanged_tick p e)
      at false e = inl (changed_tick p e)

  moves_all : (ps : List PairData) → AllByRecursion IsKnownPair ps → AllZip (Moves t) (map tick_before ps) (map tick_after ps)
  moves_all [] all = tt
  moves_all (p ∷ ps) all = ((bounded p all.0, moves p), moves_all ps all.1)

  -- the positions of what changed
  changed_there : (n : ℕ) (ps : List PairData) → AllByRecursion IsKnownPair ps → changed_from n ps ≡ map (λ q. n + q) (positions (λ k. k == suc t) (map tick_after ps))
  changed_there n [] all = refl
  changed_there n (p ∷ ps) all =
      let later = positions (λ k. k == suc t) (map tick_after ps) in
      rw (moved_is p all.0) (at (is_unchanged p) later (changed_there (n + 1) ps all.1 ∙ shifted n later))
    where
      at : (b : Bool) (later : List ℕ) → changed_from (n + 1) ps ≡ map (λ q. n + q) (map suc later) → (if b then changed_from (n + 1) ps else n ∷ changed_from (n + 1) ps) ≡ map (λ q. n + q) (if not b then 0 ∷ map suc later else map suc later)
      at true later rest = rest
      at false later rest = ap (λ l. n ∷ l) rest ∙ ap (λ k. k ∷ map (λ q. n + q) (map suc later)) (nothing_more n)

  -- the positions of the records that came
  came_there : (n : ℕ) (ps : List PairData) → AllByRecursion IsKnownPair ps → came_from n ps ≡ map (λ q. n + q) (positions (λ k. k == 0) (map tick_before ps))
  came_there n [] all = refl
  came_there n (record_alone r ∷ ps) all = known_there n r.otick ps all.0.0 (came_there (n + 1) ps all.1)
  came_there n (record_and_row r row ∷ ps) all = known_there n r.otick ps all.0.0 (came_there (n + 1) ps all.1)
  came_there n (row_alone row ∷ ps) all = new_there n ps (0 == 0) (eq_same 0) (came_there (n + 1) ps all.1)

  ticks_after : (ps : List PairData) → ticks_of (map (pair_after (suc t) second) ps) ≡ map tick_after ps
  ticks_after [] = refl
  ticks_after (p ∷ ps) = ap (λ l. tick_after p ∷ l) (ticks_after ps)

  known_tick : (p : PairData) → IsKnownPair p → (1 ≤ tick_after p) × (tick_after p ≤ suc t)
  known_tick p here = at (is_unchanged p) refl
    where
      seen : (p : PairData) → IsKnownPair p → is_unchanged p ≡ true → 1 ≤ tick_before p
      seen (record_alone r) here e = here.0
      seen (record_and_row r row) here e = here.0
      seen (row_alone row) here e = absurd (false≢true e)

      at : (b : Bool) → is_unchanged p ≡ b → (1 ≤ tick_after p) × (tick_after p ≤ suc t)
      at true e = (omega (arith, unchanged_tick p e, seen p here e), omega (arith, unchanged_tick p e, bounded p here))
      at false e = (omega (arith, changed_tick p e), omega (arith, changed_tick p e))

  known_after : (ps : List PairData) → AllByRecursion IsKnownPair ps → Known (suc t) (map (pair_after (suc t) second) ps)
  known_after [] all = tt
  known_after (p ∷ ps) all = (known_tick p all.0, known_after ps all.1)

  module _ (rs : List RecordData) (rows : List SeenData) (known : Known t rs) where
    abbrev pairs : List PairData
    pairs = pairs_of rs rows

    all : AllByRecursion IsKnownPair pairs
    all = pairs_known rs rows known

    abbrev before : List ℕ
    before = map tick_before pairs

    abbrev after : List ℕ
    after = map tick_after pairs

    abbrev moves_made : MovesData
    moves_made = with_pairs pairs no_moves

    abbrev old : ℕ → List ℕ
    old more = newer more 1 (ticks_of rs)

    count_known : length (positions is_known before) ≡ length rs
    count_known = length-kept is_known before ∙ ap length (ticks_kept t rs rows known) ∙ length-map rs (λ (r : RecordData). r.otick)

    pub changed_are : moves_made.changed ≡ positions (λ k. k == suc t) after
    changed_are = changed_is pairs no_moves ∙ changed_there 0 pairs all ∙ from_zero (positions (λ k. k == suc t) after)

    pub came_are : moves_made.came ≡ positions (λ k. k == 0) before
    came_are = came_is pairs no_moves ∙ came_there 0 pairs all ∙ from_zero (positions (λ k. k == 0) before)

    -- the place of a known record
    place_is : (p : ℕ) → p < length rs → nth_outside moves_made.came p ≡ get_or (positions is_known before) p 0
    place_is p h = ap (λ came. nth_outside came p) came_are ∙ nth_other (λ k. k == 0) before p (omega (arith, h, count_known))

    -- it is within the records after the pass
    pub place_within : (p : ℕ) → p < length rs → nth_outside moves_made.came p < length pairs
    place_within p h = omega (arith, place_is p h, positions_within is_known before p 0 (omega (arith, h, count_known)), length-map pairs tick_before)

    old_within : (more : ℕ) → AllByRecursion (λ p. p < length rs) (old more)
    old_within more = recursion_from_All (λ p. p < length rs) (old more) (λ k d h. omega (arith, newer_within more 1 (ticks_of rs) k d h, length-map rs (λ (r : RecordData). r.otick)))

    -- what a later pass than the first saw change before this one, and this one did not
    moved_is_left : (more : ℕ) → more + 1 ≤ t → moved_of moves_made (old more) ≡ newer more 1 after
    moved_is_left more h =
        let place : ℕ → ℕ = λ p. get_or (positions is_known before) p 0 in
        ap (filter (λ p. not (is_among moves_made.changed p))) (map_within (nth_outside moves_made.came) place (length rs) place_is (old more) (old_within more))
        ∙ filter_agree (λ p. not (is_among moves_made.changed p)) (is_left (suc t) after) (λ p. ap not (ap (λ l. is_among l p) changed_are ∙ among_bucket (suc t) after p (omega arith))) (map place (old more))
        ∙ ap (filter (is_left (suc t) after)) (sym (grown_newer more 1 before ∙ ap (λ l. map place (newer more 1 l)) (ticks_kept t rs rows known)))
        ∙ sym (left_newer t more 1 h before after (moves_all pairs all))

    -- the list of the order after the pass
    pub later_is : (more : ℕ) → t ≡ more + 1 → moves_made.changed ++ moved_of moves_made (old more) ≡ newer t 1 (ticks_of (records_after (suc t) second rs rows))
    later_is more e =
        let next : suc (more + 1) ≡ suc t = omega (arith, e) in
        let same : suc more ≡ t = omega (arith, e) in
        ap (λ l. l ++ moved_of moves_made (old more)) changed_are
        ∙ ap (λ l. positions (λ k. k == suc t) after ++ l) (moved_is_left more (omega (arith, e)))
        ∙ ap (λ n. positions (λ k. k == n) after ++ newer more 1 after) (sym next)
        ∙ ap (λ n. newer n 1 after) same
        ∙ ap (newer t 1) (sym (ticks_after pairs))

    pub known_are : Known (suc t) (records_after (suc t) second rs rows)
    known_are = known_after pairs all

    pub count_is : moves_made.next ≡ length (records_after (suc t) second rs rows)
    count_is = omega (arith, next_is pairs no_moves, length-map pairs (pair_after (suc t) second))

    -- what changed and what came rises
    pub changed_rises : Rises moves_made.changed
    changed_rises = subst Rises (sym changed_are) (positions_rise (λ k. k == suc t) after)

    pub came_rises : Rises moves_made.came
    came_rises = subst Rises (sym came_are) (positions_rise (λ k. k == 0) before)

-- the order after the first pass
first_order : (second : ℤ) (rs : List RecordData) (rows : List SeenData) (next : OrderParts) → Known 0 rs → next ≡ record { later = []; rising = []; count = (with_pairs (pairs_of rs rows) no_moves).next } → IsOrderOf 1 (records_after 1 second rs rows) next
first_order second rs rows next known e =
    let after = known_are 0 second rs rows known in
    record {
      known = after;
      later = ap (λ (o : OrderParts). o.later) e;
      rising = ap (λ (o : OrderParts). o.rising) e ∙ sym (none_later (ticks_of (records_after 1 second rs rows)) after);
      count = ap (λ (o : OrderParts). o.count) e ∙ count_is 0 second rs rows known;
    }

-- the order after a later pass
later_order : (t : ℕ) (second : ℤ) (rs : List RecordData) (rows : List SeenData) (order next : OrderParts) → IsOrderOf (suc t) rs order → IsMoved (with_pairs (pairs_of rs rows) no_moves) order next → IsOrderOf (suc (suc t)) (records_after (suc (suc t)) second rs rows) next
later_order t second rs rows order next is moved =
    let ticks = ticks_of (records_after (suc (suc t)) second rs rows) in
    let after = known_are (suc t) second rs rows is.known in
    let before : suc t - 1 ≡ t = omega arith in
    let now : suc (suc t) - 1 ≡ suc t = omega arith in
    let later = moved.later ∙ ap (λ l. (with_pairs (pairs_of rs rows) no_moves).changed ++ moved_of (with_pairs (pairs_of rs rows) no_moves) l) (is.later ∙ ap (λ n. newer n 1 (ticks_of rs)) before) ∙ later_is (suc t) second rs rows is.known t (omega arith) in
    record {
      known = after;
      later = later ∙ ap (λ n. newer n 1 ticks) (sym now);
      rising = sorted_later (suc t) ticks next.later next.rising later after moved.same moved.sorted;
      count = moved.count ∙ count_is (suc t) second rs rows is.known;
    }

by_tick : (t : ℕ) (first : Bool) → first ≡ (t == 0) → (second : ℤ) (rs : List RecordData) (rows : List SeenData) (order next : OrderParts) → IsOrderOf t rs order → IsAfter first (with_pairs (pairs_of rs rows) no_moves) order next → IsOrderOf (suc t) (records_after (suc t) second rs rows) next
by_tick zero true e second rs rows order next is moved = first_order second rs rows next is.known moved
by_tick zero false e second rs rows order next is moved = absurd (false≢true (e ∙ eq_same 0))
by_tick (suc t) true e second rs rows order next is moved = absurd (true≢false (e ∙ eq_apart (suc t) 0 (λ e. omega (arith, e))))
by_tick (suc t) false e second rs rows order next is moved = later_order t second rs rows order next is moved

-- the order after a pass
pub order_after_pass : (t tick : ℕ) (first : Bool) (second : ℤ) (rs : List RecordData) (rows : List SeenData) (order next : OrderParts) → tick ≡ t + 1 → first ≡ (t == 0) → IsOrderOf t rs order → IsAfter first (with_pairs (pairs_of rs rows) no_moves) order next → IsOrderOf tick (records_after tick second rs rows) next
order_after_pass t tick first second rs rows order next e is_first is moved =
    let same : suc t ≡ tick = omega (arith, e) in
    subst (λ n. IsOrderOf n (records_after n second rs rows) next) same (by_tick t first is_first second rs rows order next is moved)

-- each record before a pass has a place after it
pub places_within : (t : ℕ) (second : ℤ) (rs : List RecordData) (rows : List SeenData) (order : OrderParts) → IsOrderOf t rs order → (with_pairs (pairs_of rs rows) no_moves).next ≤ max_records → All (λ p. nth_outside (with_pairs (pairs_of rs rows) no_moves).came p < max_records) order.later
places_within t second rs rows order is few = subst (All (λ p. nth_outside (with_pairs (pairs_of rs rows) no_moves).came p < max_records)) (sym is.later) (λ k d h.
    let within = newer_within (t - 1) 1 (ticks_of rs) k d h in
    omega (arith, place_within t second rs rows is.known (get_or (newer (t - 1) 1 (ticks_of rs)) k d) (omega (arith, within, length-map rs (λ (r : RecordData). r.otick))), few, next_is (pairs_of rs rows) no_moves))

-- what is read of positions is within their bound
pub there_within : (n : ℕ) (xs : List ℕ) (k : ℕ) (result : Option ℕ) → result ≡ slice_get xs k → All (λ p. p < n) xs → IfSome result (λ i. i < n)
there_within n xs k None e below = tt
there_within n xs k (Some i) e below = subst (λ p. p < n) (get_or_from_slice_get xs k i i (sym e)) (below k i (slice_get_within xs k i (sym e)))
