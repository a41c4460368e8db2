-- so far the files are counted
use Rattle.std.proofs.Common.{◌≡◌, ◌≤◌, length, take}
use Rattle.wq_view.specs.Limit.{max_listing_rows}
use Rattle.wq_walk.specs.Listed.{walked_rows}
use Rattle.wq_walk.proofs.listing.are_few.Given as goal

abbrev pub invariant-loop-rows : goal.invariant-loop-rows
invariant-loop-rows l = record {
  count : l.count ≡ length (walked_rows (take l.rows-index l.walked));
  few : l.count ≤ max_listing_rows;
}
