-- the rows so far are lawful
use Rattle.std.proofs.Common.{IsTrue, take}
use Rattle.std.specs.List.{list_all}
use Rattle.wq_record.specs.Seen.{is_lawful_row}
use Rattle.wq_view.proofs.listing.first_unlawful.Given as goal

abbrev pub invariant-loop-at : goal.invariant-loop-at
invariant-loop-at l = IsTrue (list_all is_lawful_row (take l.at l.rows))
