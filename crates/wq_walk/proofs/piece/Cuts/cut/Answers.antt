-- the pieces with the one that was cut off
use Rattle.std.proofs.Common.{rules}
use Rattle.wq_walk.proofs.Pieces.{shared_with_one}
use Rattle.wq_walk.proofs.Tiles.{more_tiles}
use Rattle.wq_walk.specs.Tiles.{cut_records}
use Rattle.wq_walk.proofs.piece.Cuts.cut.Goals as goal

pub invariant_of-self-2 : goal.invariant_of-self-2
invariant_of-self-2 c = record {
  shared = rw (c.in_ok-push.ensures.items) (shared_with_one c.args.self.now.pieces.items c.args.self.now.last c.args.name c.piece-piece.result c.piece-piece.ensures.part (search rules) c.args.self.now.shared);
  tiled = rw (c.in_ok-push.ensures.items) (more_tiles (cut_records c.args.self.now.names) c.args.self.now.pieces.items c.piece-piece.result c.args.self.now.start c.args.end (search rules) c.args.self.now.tiled c.piece-piece.ensures.records);
}
