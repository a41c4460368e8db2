-- The root that is looked at is the watched one, and the object of the ask was read there.
use Rattle.std.proofs.Common.{option_map, subst, sym}
use Rattle.wq_session.proofs.Before.{there}
use Rattle.wq_crawl.specs.At.{at_data}
use Rattle.wq_session.specs.Prepared.{IsReadAt, object_of}
use Rattle.wq_session.specs.Shelved.{shelf_data}
use Rattle.wq_session.proofs.command.begin_of_root.Goals as goal

pub begin_there-requires-clause-read : goal.begin_there-requires-clause-read
begin_there-requires-clause-read c =
    subst (λ a. IsReadAt (object_of c.args.what.now) a c.args.object.now)
    (there c.args.root.now (option_map at_data c.args.at) (shelf_data c.args.shelf.now) (at_data c.in-Some.at) (sym c.in-Some.ensures.value)) c.requires.read
