-- The positions of a chunk are found, or there is no other chunk.
use Rattle.std.proofs.Common.{◌≡◌, ◌+◌, ◌++◌, ℕ, List, [], length, drop, get_or, sym, ap, ◌∙◌, append_assoc, arith, length-append}
use Rattle.std.proofs.lemmas.List.{append-nil}
use Rattle.wq_view.specs.declared.chunk.Slot.{Slot}
use Rattle.wq_view.specs.Chunk.{records_in, slot_records}
use Rattle.wq_view.specs.Looks.{count_after}
use Rattle.wq_view.specs.Position.{places_from, positions_of}
use Rattle.wq_view.specs.Sought.{sought_texts}
use Rattle.wq_view.specs.Suffix.{has_suffix_of}
use Rattle.wq_view.proofs.SuffixPlaces.{all_places}
use Rattle.wq_view.proofs.SuffixSlots.{fits_next, more_after, no_records, places_next}
use Rattle.wq_view.proofs.suffix_search.push_found.Goals as goal

pub returns-in_err-push_of_chunk-clause-few : goal.returns-in_err-push_of_chunk-clause-few
returns-in_err-push_of_chunk-clause-few c =
    let test = has_suffix_of (sought_texts c.args.sought) in
    let slots = c.args.slots.now in
    let at = c.loop-slot.at in
    let i = c.loop-slot.slot-index in
    let d = c.slot-item.result in
    let rs = c.flagged-chunk.result.records.now in
    let is : rs ≡ slot_records (get_or slots i d) = c.flagged-chunk.ensures.records ∙ c.deref.ensures ∙ ap slot_records c.slot-item.is in
    omega (arith, c.push_of_chunk.ensures.few, c.loop-slot.invariant.few, ap length (places_next slots i d rs c.loop-slot-test.true is test at), length-append (places_from test at rs) (places_from test (at + length rs) (records_in (drop (i + 1) slots))), ap length (all_places test (records_in slots)))

pub loop-slot-preserved : goal.loop-slot-preserved
loop-slot-preserved c =
    let test = has_suffix_of (sought_texts c.args.sought) in
    let slots = c.args.slots.now in
    let at = c.loop-slot.at in
    let i = c.loop-slot.slot-index in
    let d = c.slot-item.result in
    let rs = c.flagged-chunk.result.records.now in
    let is : rs ≡ slot_records (get_or slots i d) = c.flagged-chunk.ensures.records ∙ c.deref.ensures ∙ ap slot_records c.slot-item.is in
    let here = places_from test at rs in
    let left = places_from test (at + length rs) (records_in (drop (i + 1) slots)) in
    let split = places_next slots i d rs c.loop-slot-test.true is test at in
    let two = length-append here left in
    let was = c.loop-slot.invariant in
    record {
      fits = fits_next slots i d rs c.loop-slot-test.true is at (length (records_in slots)) was.fits;
      all = ap (λ l. l ++ left) c.in_ok-push_of_chunk.ensures.found ∙ append_assoc c.loop-slot.found.items here left ∙ ap (λ l. c.loop-slot.found.items ++ l) (sym split) ∙ was.all;
      counted =
          ap (count_after (length left)) c.in_ok-push_of_chunk.ensures.counted
          ∙ sym (more_after (length here) (length left) c.loop-slot.looks)
          ∙ ap (λ n. count_after n c.loop-slot.looks) (sym two)
          ∙ ap (λ l. count_after (length l) c.loop-slot.looks) (sym split)
          ∙ was.counted;
      few = omega (arith, c.in_ok-push_of_chunk.ensures.few, was.few, ap length split, two);
    }

-- none is left
module _ (c : goal.After-saturating_add) where
  abbrev texts : List (List ℕ)
  texts = sought_texts c.args.sought

  abbrev slots : List Slot
  slots = c.args.slots.now

  none : places_from (has_suffix_of texts) c.loop-slot.at (records_in (drop c.loop-slot.slot-index slots)) ≡ []
  none = ap (places_from (has_suffix_of texts) c.loop-slot.at) (no_records slots c.loop-slot.slot-index c.loop-slot-test.false)

  all : places_from (has_suffix_of texts) 0 (records_in slots) ≡ positions_of (has_suffix_of texts) (records_in slots)
  all = all_places (has_suffix_of texts) (records_in slots)

pub returns-clause-found : goal.returns-clause-found
returns-clause-found c =
    sym (append-nil c.loop-slot.found.items) ∙ ap (λ l. c.loop-slot.found.items ++ l) (sym (none c)) ∙ c.loop-slot.invariant.all ∙ ap (λ l. c.args.found.now.items ++ l) (all c)

pub returns-clause-counted : goal.returns-clause-counted
returns-clause-counted c =
    c.saturating_add.ensures
    ∙ ap (count_after 1) (ap (λ l. count_after (length l) c.loop-slot.looks) (sym (none c)) ∙ c.loop-slot.invariant.counted ∙ ap (λ l. count_after (length l) c.args.looks.now) (all c))
    ∙ sym (more_after (length (positions_of (has_suffix_of (texts c)) (records_in (slots c)))) 1 c.args.looks.now)

pub returns-clause-few : goal.returns-clause-few
returns-clause-few c =
    omega (arith, c.saturating_add.ensures, c.loop-slot.invariant.few, ap length (none c), ap length (all c))
