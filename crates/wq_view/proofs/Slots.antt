-- Chunks one after the other: their records, and the place at which each begins.
use Rattle.std.proofs.Common.{◌≡◌, ◌<◌, ◌≤◌, ℕ, zero, suc, ◌+◌, ◌-◌, slice_get, List, [], ◌∷◌, ◌++◌, take, drop, length, get_or, Some, sym, ap, ◌∙◌, arith, length-append}
use Rattle.std.proofs.lemmas.List.{append-nil, take_more, take-append-drop}
use Rattle.std.proofs.lemmas.Grind.{flat_map-append}
use Rattle.std.proofs.lemmas.Option.{slice_get_within, get_or_from_slice_get}
use Rattle.wq_view.specs.declared.chunk.Slot.{Slot}
use Rattle.wq_view.specs.Chunk.{slot_records, records_in, AreChunks}

-- one chunk more
pub chunks_push : (before : ℕ) (slots : List Slot) (slot : Slot) → AreChunks before slots → slot.end ≡ before + length (records_in slots) + length (slot_records slot) → 1 ≤ length (slot_records slot) → AreChunks before (slots ++ slot ∷ [])
chunks_push before [] slot all e some = (omega (arith, e), some, tt)
chunks_push before (first ∷ slots) slot all e some = (all.0, all.1, chunks_push first.end slots slot all.2 (omega (arith, e, all.0, length-append (slot_records first) (records_in slots))) some)

-- the records of one slot more
pub records_push : (slots : List Slot) (slot : Slot) → records_in (slots ++ slot ∷ []) ≡ records_in slots ++ slot_records slot
records_push slots slot = flat_map-append slot_records slots (slot ∷ []) ∙ ap (λ l. records_in slots ++ l) (append-nil (slot_records slot))

-- one chunk less
pub chunks_pop : (before : ℕ) (slots : List Slot) (slot : Slot) → AreChunks before (slots ++ slot ∷ []) → AreChunks before slots
chunks_pop before [] slot all = tt
chunks_pop before (first ∷ slots) slot all = (all.0, all.1, chunks_pop first.end slots slot all.2)

-- the last slot ends where all records end
last_end : (before : ℕ) (slots : List Slot) (slot : Slot) (i : ℕ) → AreChunks before slots → length slots ≡ suc i → get_or slots i slot ≡ slot → slot.end ≡ before + length (records_in slots)
last_end before [] slot i all e is = absurd (omega (arith, e))
last_end before (first ∷ []) slot zero all e is = ap (λ (s : Slot). s.end) (sym is) ∙ omega (arith, all.0, length-append (slot_records first) [])
last_end before (first ∷ next ∷ slots) slot zero all e is = absurd (omega (arith, e))
last_end before (first ∷ slots) slot (suc i) all e is = last_end first.end slots slot i all.2 (omega (arith, e)) is ∙ omega (arith, all.0, length-append (slot_records first) (records_in slots))

-- the last of slots, as `last` gives it
pub last_is : (slots : List Slot) (slot : Slot) → AreChunks 0 slots → slice_get slots (length slots - 1) ≡ Some slot → slot.end ≡ length (records_in slots)
last_is slots slot all e =
    let within : length slots - 1 < length slots = slice_get_within slots (length slots - 1) slot e in
    omega (arith, last_end 0 slots slot (length slots - 1) all (omega (arith, within)) (get_or_from_slice_get slots (length slots - 1) slot slot e))

module _ (slots : List Slot) (i : ℕ) (slot : Slot) (h : i < length slots) (is : get_or slots i slot ≡ slot) where
  pub slot_taken : records_in (take (i + 1) slots) ≡ records_in (take i slots) ++ slot_records slot
  slot_taken = ap records_in (take_more slots i slot h ∙ ap (λ s. take i slots ++ s ∷ []) is) ∙ records_push (take i slots) slot

-- the records of the first slots and of the others are all
pub records_parts : (slots : List Slot) (i : ℕ) → records_in slots ≡ records_in (take i slots) ++ records_in (drop i slots)
records_parts slots i = ap records_in (sym (take-append-drop i slots)) ∙ flat_map-append slot_records (take i slots) (drop i slots)
