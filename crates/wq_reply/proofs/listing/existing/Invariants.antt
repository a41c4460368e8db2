-- the reader has the view's records, and the places kept so far with the ones to be kept of the rest
-- are all that are kept
use Rattle.std.proofs.Common.{◌≡◌, ◌++◌, drop}
use Rattle.std.specs.Prelude.{filter}
use Rattle.wq_view.specs.Position.{passes_at}
use Rattle.wq_reply.proofs.listing.existing.Given as goal

abbrev pub invariant-loop-place : goal.invariant-loop-place
invariant-loop-place l = record {
  reads : l.reader ≡ l.view.records;
  kept : l.kept.items ++ filter (passes_at (λ r. r.exists) l.view.records) (drop l.place-index l.places)
      ≡ filter (passes_at (λ r. r.exists) l.view.records) l.places;
}
