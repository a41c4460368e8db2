-- the pieces with the rest of the tree
use Rattle.wq_walk.proofs.Pieces.{shared_with_rest}
use Rattle.wq_walk.proofs.Tiles.{rest_tiles}
use Rattle.wq_walk.specs.Tiles.{cut_records}
use Rattle.wq_walk.proofs.piece.Cuts.with_rest.Goals as goal

pub returns-clause-shared : goal.returns-clause-shared
returns-clause-shared c = rw (c.in_ok-push.ensures.items) (shared_with_rest c.args.self.pieces.items c.args.self.last c.piece-piece.result c.piece-piece.ensures.part c.args.self.shared)

pub returns-clause-tiled : goal.returns-clause-tiled
returns-clause-tiled c = rw (c.in_ok-push.ensures.items) (rest_tiles (cut_records c.args.self.names) c.args.self.pieces.items c.piece-piece.result c.args.self.start c.len.result c.len.ensures c.args.self.tiled c.piece-piece.ensures.records)
