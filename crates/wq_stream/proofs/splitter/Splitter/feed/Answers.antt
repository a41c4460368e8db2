-- The stream has ended, or its rest and the piece determine the events.
use Rattle.wq_stream.proofs.Feeding.{none_fed, some_fed}
use Rattle.wq_stream.proofs.splitter.Splitter.feed.Goals as goal

pub returns-then-self-clause-adds : goal.returns-then-self-clause-adds
returns-then-self-clause-adds c =
    none_fed c.self.inside.has_ended c.self.inside.rest.items c.args.self.now c.args.piece.now c.new.result.items c.self.view_is c.if-self.true c.new.ensures.items

pub returns-clause-adds : goal.returns-clause-adds
returns-clause-adds c =
    some_fed c.self.inside.has_ended c.self.inside.rest.items c.args.self.now c.args.piece.now c.in_ok-told.told c.take_piece.new.rest.items c.self.view_is c.if-self.false c.in_ok-told.ensures.told
