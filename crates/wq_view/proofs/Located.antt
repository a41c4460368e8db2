-- The chunk that has the record at a position, and the place at which the first records end.
use Rattle.std.proofs.Common.{◌≡◌, ◌<◌, ◌≤◌, ◌⊎◌, inl, inr, ℕ, zero, suc, ◌+◌, ◌-◌, leb, Bool, true, false, List, [], ◌∷◌, ◌++◌, take, drop, length, get_or, Some, refl, sym, ap, subst, ◌∙◌, arith, length-append, add-one}
use mathlib.Core.Bool.{false≢true}
use Rattle.std.specs.List.{AllWithin}
use Rattle.std.specs.List.Sorted.{IsPartitionedBy, IsPartitionPoint}
use Rattle.std.specs.Option.{option_map_or}
use Rattle.std.proofs.lemmas.Bool.{leb-true, leb-false, cases_lt}
use Rattle.std.proofs.lemmas.List.{take_more, drop_more, take_all, drop-append-le, get_or_append_left, get_or-append-add}
use Rattle.std.proofs.Math.Seq.{drop-append-add}
use Rattle.std.proofs.lemmas.Option.{slice_get-get_or}
use Rattle.wq_view.specs.declared.chunk.Slot.{Slot}
use Rattle.wq_record.specs.RecordData.{RecordData}
use Rattle.wq_view.specs.Chunk.{slot_records, records_in, AreChunks, IsChunkAt, IsRunAt, count_before, is_chunk_before}
use Rattle.wq_view.proofs.Slots.{records_push, records_parts}
use Rattle.wq_view.proofs.Lookups.{nobody}

-- the end that a slot names is the end of its chunk
slot_at : (slots : List Slot) (before n : ℕ) (d : Slot) → AreChunks before slots → n < length slots → (get_or slots n d).end ≡ before + count_before slots n + length (slot_records (get_or slots n d))
slot_at [] before n d all h = absurd (omega (arith, h))
slot_at (first ∷ slots) before zero d all h = omega (arith, all.0)
slot_at (first ∷ slots) before (suc n) d all h = omega (arith, slot_at slots first.end n d all.2 (omega (arith, h)), all.0, length-append (slot_records first) (records_in (take n slots)))

same_slot : (slots : List Slot) (n : ℕ) (d e : Slot) → n < length slots → get_or slots n d ≡ get_or slots n e
same_slot [] n d e h = absurd (omega (arith, h))
same_slot (first ∷ slots) zero d e h = refl
same_slot (first ∷ slots) (suc n) d e h = same_slot slots n d e (omega (arith, h))

some_at : (slots : List Slot) (before n : ℕ) (d : Slot) → AreChunks before slots → n < length slots → 1 ≤ length (slot_records (get_or slots n d))
some_at [] before n d all h = absurd (omega (arith, h))
some_at (first ∷ slots) before zero d all h = all.1
some_at (first ∷ slots) before (suc n) d all h = some_at slots first.end n d all.2 (omega (arith, h))

until_rises : (slots : List Slot) (i j : ℕ) → i ≤ j → count_before slots i ≤ count_before slots j
until_rises slots zero j h = omega arith
until_rises [] (suc i) j h = omega arith
until_rises (first ∷ slots) (suc i) zero h = absurd (omega (arith, h))
until_rises (first ∷ slots) (suc i) (suc j) h = omega (arith, until_rises slots i j (omega (arith, h)), length-append (slot_records first) (records_in (take i slots)), length-append (slot_records first) (records_in (take j slots)))

until_all : (slots : List Slot) (n : ℕ) → length slots ≤ n → count_before slots n ≡ length (records_in slots)
until_all slots n h = ap (λ s. length (records_in s)) (take_all n slots h)

module _ (slots : List Slot) (all : AreChunks 0 slots) where
  until_more : (n : ℕ) (d : Slot) → n < length slots → count_before slots (n + 1) ≡ count_before slots n + length (slot_records (get_or slots n d))
  until_more n d h = ap (λ s. length (records_in s)) (take_more slots n d h) ∙ ap length (records_push (take n slots) (get_or slots n d)) ∙ length-append (records_in (take n slots)) (slot_records (get_or slots n d))

  end_is : (n : ℕ) (d : Slot) → n < length slots → (get_or slots n d).end ≡ count_before slots (n + 1)
  end_is n d h = omega (arith, slot_at slots 0 n d all h, until_more n d h)

  -- the ends of the slots rise
  pub ends_rise : (m n : ℕ) (d : Slot) → m ≤ n → n < length slots → (get_or slots m d).end ≤ (get_or slots n d).end
  ends_rise m n d le h = omega (arith, end_is m d (omega (arith, le, h)), end_is n d h, until_rises slots (m + 1) (n + 1) (omega (arith, le)))

  -- a chunk among all records
  in_all : (n : ℕ) (d : Slot) → n < length slots → records_in slots ≡ records_in (take n slots) ++ (slot_records (get_or slots n d) ++ records_in (drop (n + 1) slots))
  in_all n d h = records_parts slots n ∙ ap (λ s. records_in (take n slots) ++ records_in s) (drop_more slots n d h)

  -- a record of a chunk among all records
  at_place : (n : ℕ) (d : Slot) (j : ℕ) (r : RecordData) → n < length slots → j < length (slot_records (get_or slots n d)) → get_or (records_in slots) (count_before slots n + j) r ≡ get_or (slot_records (get_or slots n d)) j r
  at_place n d j r h low =
      ap (λ rs. get_or rs (count_before slots n + j) r) (in_all n d h)
      ∙ get_or-append-add (records_in (take n slots)) (slot_records (get_or slots n d) ++ records_in (drop (n + 1) slots)) j r
      ∙ get_or_append_left (slot_records (get_or slots n d)) (records_in (drop (n + 1) slots)) r j low

  until_within : (n : ℕ) → count_before slots n ≤ length (records_in slots)
  until_within n = omega (arith, ap length (records_parts slots n), length-append (records_in (take n slots)) (records_in (drop n slots)))

  -- the slots before a place end at the position or earlier
  reached : (k i : ℕ) (d : Slot) → k ≤ length slots → AllWithin (λ (s : Slot). leb s.end i ≡ true) slots 0 k → count_before slots k ≤ i
  reached zero i d h low = omega arith
  reached (suc k) i d h low =
      let ends : (get_or slots k d).end ≤ i = leb-true (get_or slots k d).end i (low k d (omega arith) (omega arith)) in
      let same : count_before slots (k + 1) ≡ count_before slots (suc k) = ap (count_before slots) (add-one k) in
      omega (arith, ends, end_is k d (omega (arith, h)), same)

  -- the first slot that ends after a position has its record
  pub slot_found : (k i : ℕ) → k ≤ length slots → i < length (records_in slots) → IsPartitionPoint (λ (s : Slot). leb s.end i ≡ true) (λ (s : Slot). leb s.end i ≡ false) slots k → (k < length slots) × (count_before slots k ≤ i) × (i < count_before slots (k + 1))
  slot_found k i h there parted = at slots refl (cases_lt k (length slots))
    where
      at : (s : List Slot) → slots ≡ s → (k < length slots) ⊎ (length slots ≤ k) → (k < length slots) × (count_before slots k ≤ i) × (i < count_before slots (k + 1))
      at [] is which = absurd (omega (arith, there, ap (λ s. length (records_in s)) is))
      at (d ∷ s) is (inl fine) = (fine, reached k i d h parted.0, omega (arith, leb-false (get_or slots k d).end i (parted.1 k d (omega arith) fine), end_is k d fine))
      at (d ∷ s) is (inr past) = absurd (omega (arith, there, reached k i d h parted.0, until_all slots k past))

  -- the end of a slot, and how many records its chunk has
  pub start_is : (k : ℕ) (slot : Slot) (run : List RecordData) → k < length slots → slot ≡ get_or slots k slot → run ≡ slot_records slot → slot.end ≡ count_before slots k + length run
  start_is k slot run h is run_is = omega (arith, slot_at slots 0 k slot all h, ap (λ (s : Slot). s.end) is, ap (λ (s : Slot). length (slot_records s)) is, ap length run_is)

  -- the chunk of a slot
  pub chunk_is : (k start : ℕ) (slot : Slot) (run : List RecordData) → k < length slots → slot ≡ get_or slots k slot → run ≡ slot_records slot → start + length run ≡ slot.end → IsChunkAt slots k start run
  chunk_is k start slot run h is run_is start_is' = record {
    before = omega (arith, start_is', start_is k slot run h is run_is);
    records = λ d. run_is ∙ ap slot_records (is ∙ same_slot slots k slot d h);
  }

  -- the records of a chunk among all
  module _ (k start : ℕ) (run : List RecordData) (h : k < length slots) (is : IsChunkAt slots k start run) where
    some_slot : (goal : Type 0) → (Slot → goal) → goal
    some_slot goal from = at slots h
      where
        at : (s : List Slot) → k < length s → goal
        at [] b = absurd (omega (arith, b))
        at (d ∷ s) b = from d

    pub more : count_before slots (k + 1) ≡ start + length run
    more = some_slot (count_before slots (k + 1) ≡ start + length run) (λ d. omega (arith, until_more k d h, is.before, ap length (is.records d)))

    pub fits : start + length run ≤ length (records_in slots)
    fits = omega (arith, until_within (k + 1), more)

    pub record_there : (j : ℕ) (r : RecordData) → j < length run → get_or (records_in slots) (start + j) r ≡ get_or run j r
    record_there j r low = some_slot (get_or (records_in slots) (start + j) r ≡ get_or run j r) (λ d.
        ap (λ n. get_or (records_in slots) (n + j) r) is.before
        ∙ at_place k d j r h (subst (λ rs. j < length rs) (is.records d) low)
        ∙ ap (λ rs. get_or rs j r) (sym (is.records d)))

    pub run_there : IsRunAt (records_in slots) start run
    run_there j low =
        slice_get-get_or (records_in slots) (start + j) nobody (omega (arith, fits, low))
        ∙ ap Some (record_there j nobody low)
        ∙ sym (slice_get-get_or run j nobody low)

    -- the records from one of the chunk on
    pub rest_there : (j : ℕ) → j ≤ length run → drop (start + j) (records_in slots) ≡ drop j run ++ records_in (drop (k + 1) slots)
    rest_there j low = some_slot (drop (start + j) (records_in slots) ≡ drop j run ++ records_in (drop (k + 1) slots)) (λ d.
        let later = records_in (drop (k + 1) slots) in
        ap (λ n. drop (n + j) (records_in slots)) is.before
        ∙ ap (drop (count_before slots k + j)) (in_all k d h)
        ∙ drop-append-add (records_in (take k slots)) (slot_records (get_or slots k d) ++ later) j
        ∙ ap (λ rs. drop j (rs ++ later)) (sym (is.records d))
        ∙ drop-append-le j run later low)

  module _ (p : RecordData → Bool) (parted : IsPartitionedBy p (records_in slots)) where
    -- the last record of a chunk among all records
    last_there : (n : ℕ) (d : Slot) (r : RecordData) → n < length slots → is_chunk_before p (get_or slots n d) ≡ p (get_or (records_in slots) (count_before slots (n + 1) - 1) r)
    last_there n d r h =
        let some = some_at slots 0 n d all h in
        let rs = slot_records (get_or slots n d) in
        let place : count_before slots n + (length rs - 1) ≡ count_before slots (n + 1) - 1 = omega (arith, some, until_more n d h) in
        ap (λ o. option_map_or p o false) (slice_get-get_or rs (length rs - 1) r (omega (arith, some)))
        ∙ ap p (sym (at_place n d (length rs - 1) r h (omega (arith, some))))
        ∙ ap (λ j. p (get_or (records_in slots) j r)) place

    -- the chunks are partitioned as the records are
    pub chunks_parted : IsPartitionedBy (is_chunk_before p) slots
    chunks_parted i j d le h passes =
        let some = some_at slots 0 j d all h in
        last_there i d nobody (omega (arith, le, h))
        ∙ parted (count_before slots (i + 1) - 1) (count_before slots (j + 1) - 1) nobody (omega (arith, until_rises slots (i + 1) (j + 1) (omega (arith, le)))) (omega (arith, some, until_more j d h, until_within (j + 1))) (sym (last_there j d nobody h) ∙ passes)

    -- each record of the chunks that come before comes before
    before_all : (k j : ℕ) (d : Slot) (r : RecordData) → k ≤ length slots → AllWithin (λ s. is_chunk_before p s ≡ true) slots 0 k → j < count_before slots k → p (get_or (records_in slots) j r) ≡ true
    before_all zero j d r h low less = absurd (omega (arith, less))
    before_all (suc k) j d r h low less =
        let same : count_before slots (k + 1) ≡ count_before slots (suc k) = ap (count_before slots) (add-one k) in
        parted j (count_before slots (k + 1) - 1) r (omega (arith, less, same)) (omega (arith, less, same, until_within (k + 1))) (sym (last_there k d r (omega (arith, h))) ∙ low k d (omega arith) (omega arith))

    -- all records come before, if all chunks do
    pub all_before : (k : ℕ) → length slots ≤ k → k ≤ length slots → AllWithin (λ s. is_chunk_before p s ≡ true) slots 0 k → IsPartitionPoint (λ r. p r ≡ true) (λ r. p r ≡ false) (records_in slots) (length (records_in slots))
    all_before k past h low = (λ j r a b. at slots refl j r b, λ j r a b. absurd (omega (arith, a, b)))
      where
        at : (s : List Slot) → slots ≡ s → (j : ℕ) (r : RecordData) → j < length (records_in slots) → p (get_or (records_in slots) j r) ≡ true
        at [] is j r b = absurd (omega (arith, b, ap (λ s. length (records_in s)) is))
        at (d ∷ s) is j r b = before_all k j d r h low (omega (arith, b, until_all slots k past))

    module _ (k start m : ℕ) (run : List RecordData) (h : k < length slots) (is : IsChunkAt slots k start run) where
      -- the records of a chunk are partitioned as all are
      pub chunk_parted : IsPartitionedBy p run
      chunk_parted i j r le low passes =
          ap p (sym (record_there k start run h is i r (omega (arith, le, low))))
          ∙ parted (start + i) (start + j) r (omega (arith, le)) (omega (arith, low, fits k start run h is)) (ap p (record_there k start run h is j r low) ∙ passes)

      -- the place in the chunk is one among all records
      pub place_in_all : m ≤ length run → IsPartitionPoint (λ s. is_chunk_before p s ≡ true) (λ s. is_chunk_before p s ≡ false) slots k → IsPartitionPoint (λ r. p r ≡ true) (λ r. p r ≡ false) run m → IsPartitionPoint (λ r. p r ≡ true) (λ r. p r ≡ false) (records_in slots) (start + m)
      place_in_all within chunks here = (λ j r a b. under j r b (cases_lt j start), λ j r a b. over j r a b (cases_lt j (start + length run)))
        where
          under : (j : ℕ) (r : RecordData) → j < start + m → (j < start) ⊎ (start ≤ j) → p (get_or (records_in slots) j r) ≡ true
          under j r b (inl less) = some_slot k start run h is (p (get_or (records_in slots) j r) ≡ true) (λ d. before_all k j d r (omega (arith, h)) chunks.0 (omega (arith, less, is.before)))
          under j r b (inr from) =
              let place : j ≡ start + (j - start) = omega (arith, from) in
              ap (λ n. p (get_or (records_in slots) n r)) place
              ∙ ap p (record_there k start run h is (j - start) r (omega (arith, b, within, from)))
              ∙ here.0 (j - start) r (omega arith) (omega (arith, b, from))

          last_not : (r : RecordData) → p (get_or (records_in slots) (count_before slots (k + 1) - 1) r) ≡ false
          last_not r = some_slot k start run h is (p (get_or (records_in slots) (count_before slots (k + 1) - 1) r) ≡ false) (λ d. sym (last_there k d r h) ∙ chunks.1 k d (omega arith) h)

          over : (j : ℕ) (r : RecordData) → start + m ≤ j → j < length (records_in slots) → (j < start + length run) ⊎ (start + length run ≤ j) → p (get_or (records_in slots) j r) ≡ false
          over j r a b (inl less) =
              let place : j ≡ start + (j - start) = omega (arith, a) in
              ap (λ n. p (get_or (records_in slots) n r)) place
              ∙ ap p (record_there k start run h is (j - start) r (omega (arith, less, a)))
              ∙ here.1 (j - start) r (omega (arith, a)) (omega (arith, less, a))
          over j r a b (inr past) = by (p (get_or (records_in slots) j r)) refl
            where
              by : (t : Bool) → p (get_or (records_in slots) j r) ≡ t → p (get_or (records_in slots) j r) ≡ false
              by false e = e
              by true e = absurd (false≢true (sym (last_not r) ∙ parted (count_before slots (k + 1) - 1) j r (omega (arith, past, more k start run h is)) b e))
