-- what is made, and what is left to make
use Rattle.std.proofs.Common.{◌≡◌, ◌++◌, drop, take, IsTrue}
use Rattle.std.specs.List.{list_all}
use Rattle.wq_record.specs.Seen.{is_lawful_row}
use Rattle.wq_view.specs.ChunkFiller.{filled}
use Rattle.wq_view.specs.Merge.{pairs_of, records_after}
use Rattle.wq_view.specs.Moves.{moves_data, with_pairs}
use Rattle.wq_view.specs.Records.{records_left}
use Rattle.wq_view.proofs.patch_merge.replace.Given as goal

abbrev pub invariant-loop-stretch : goal.invariant-loop-stretch
invariant-loop-stretch l = record {
  lawful : IsTrue (list_all is_lawful_row l.rows);
  made : filled l.filling ++ records_after l.at.tick l.at.second (take l.more (records_left l.left)) l.rows ≡ filled l.initial.filling ++ records_after l.at.tick l.at.second (take l.patch.replaced (records_left l.records)) l.patch.rows.items;
  left : drop l.more (records_left l.left) ≡ drop l.patch.replaced (records_left l.records);
  moves : with_pairs (pairs_of (take l.more (records_left l.left)) l.rows) (moves_data l.moves) ≡ with_pairs (pairs_of (take l.patch.replaced (records_left l.records)) l.patch.rows.items) (moves_data l.initial.moves);
}

abbrev pub decreases-loop-stretch : goal.decreases-loop-stretch
decreases-loop-stretch l = l.more
