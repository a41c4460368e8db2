-- The shelf is shown, and preparing leaves it.
use Rattle.std.proofs.Common.{option_map}
use Rattle.wq_crawl.specs.At.{at_data}
use Rattle.wq_session.specs.Prepared.{asked, asked_at}
use Rattle.wq_session.specs.Shelved.{shelf_data}
use Rattle.wq_session.specs.Work.{work_data}
use Rattle.wq_session.proofs.Held.{taken_as}
use Rattle.wq_session.proofs.session.Session.take.Goals as goal

pub returns-clause-taken : goal.returns-clause-taken
returns-clause-taken c =
    let made = c.prepare_at-prepared in
    taken_as (shelf_data c.args.shelf.now) (shelf_data made.new.desk) (shelf_data c.take.new.shelf) c.args.ask (asked made.result)
    (option_map at_data c.args.at) (asked_at made.result) (work_data c.take.result) made.ensures.same made.ensures.ask made.ensures.at c.take.ensures
