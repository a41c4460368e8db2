-- the reader has the view's records, and these are the positions kept so far
use Rattle.std.proofs.Common.{◌≡◌, filter, take}
use Rattle.wq_eval.specs.Answer.{says_yes}
use Rattle.wq_view.specs.Position.{passes_at}
use Rattle.wq_eval.proofs.evaluation.filter_for.Given as goal

abbrev pub invariant-loop-position : goal.invariant-loop-position
invariant-loop-position g l = record {
  reads : l.reader ≡ l.view.records;
  kept : l.kept.items ≡ filter (passes_at (says_yes l.program) l.view.records) (take l.position-index l.positions);
}
