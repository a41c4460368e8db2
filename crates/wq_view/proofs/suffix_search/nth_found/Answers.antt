-- The one sought is in the chunk, or after it.
use Rattle.std.proofs.Common.{◌≡◌, ◌+◌, length, drop, get_or, slice_get, sym, ap, ◌∙◌}
use Rattle.wq_view.specs.Chunk.{records_in, slot_records}
use Rattle.wq_view.specs.Position.{places_from}
use Rattle.wq_view.specs.Sought.{sought_texts}
use Rattle.wq_view.specs.Suffix.{has_suffix_of}
use Rattle.wq_view.proofs.SuffixPlaces.{all_places}
use Rattle.wq_view.proofs.SuffixSlots.{fits_next, no_records, places_next}
use Rattle.wq_view.proofs.suffix_search.nth_found.Goals as goal

pub returns-in-Ok : goal.returns-in-Ok
returns-in-Ok c =
    let test = has_suffix_of (sought_texts c.args.sought) in
    let slots = c.args.slots.now in
    let at = c.loop-slot.at in
    let i = c.loop-slot.slot-index in
    let d = c.slot-item.result in
    let rs = c.flagged-chunk.result.records.now in
    let is : rs ≡ slot_records (get_or slots i d) = c.flagged-chunk.ensures.records ∙ c.deref.ensures ∙ ap slot_records c.slot-item.is in
    sym (ap (λ l. slice_get l c.args.k) (sym (all_places test (records_in slots)))
    ∙ c.loop-slot.invariant.later
    ∙ ap (λ l. slice_get l c.loop-slot.left) (places_next slots i d rs c.loop-slot-test.true is test at)
    ∙ c.in-Ok.ensures.here at (places_from test (at + length rs) (records_in (drop (i + 1) slots))))

pub loop-slot-preserved : goal.loop-slot-preserved
loop-slot-preserved c =
    let test = has_suffix_of (sought_texts c.args.sought) in
    let slots = c.args.slots.now in
    let at = c.loop-slot.at in
    let i = c.loop-slot.slot-index in
    let d = c.slot-item.result in
    let rs = c.flagged-chunk.result.records.now in
    let is : rs ≡ slot_records (get_or slots i d) = c.flagged-chunk.ensures.records ∙ c.deref.ensures ∙ ap slot_records c.slot-item.is in
    record {
      fits = fits_next slots i d rs c.loop-slot-test.true is at (length (records_in slots)) c.loop-slot.invariant.fits;
      later =
          c.loop-slot.invariant.later
          ∙ ap (λ l. slice_get l c.loop-slot.left) (places_next slots i d rs c.loop-slot-test.true is test at)
          ∙ c.in-Err.ensures.later at (places_from test (at + length rs) (records_in (drop (i + 1) slots)));
    }

pub returns : goal.returns
returns c =
    let test = has_suffix_of (sought_texts c.args.sought) in
    let slots = c.args.slots.now in
    sym (ap (λ l. slice_get l c.args.k) (sym (all_places test (records_in slots)))
    ∙ c.loop-slot.invariant.later
    ∙ ap (λ rs. slice_get (places_from test c.loop-slot.at rs) c.loop-slot.left) (no_records slots c.loop-slot.slot-index c.loop-slot-test.false))
