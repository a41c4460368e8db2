-- the numbers so far
use Rattle.std.proofs.Common.{◌≡◌, length}
use Rattle.wq_view.specs.Suffix.{ArePlaces, first_places, folded_suffixes}
use Rattle.wq_view.proofs.SuffixNumbers.{AreNumbers}
use Rattle.wq_view.proofs.suffix.SuffixTable.of.Given as goal

abbrev pub invariant-loop-at : goal.invariant-loop-at
invariant-loop-at l = record {
  fits : ArePlaces (length l.records) (first_places l.firsts.items);
  count : length l.numbers.items ≡ l.at;
  right : AreNumbers (folded_suffixes l.records) (first_places l.firsts.items) l.numbers.items l.at;
}
