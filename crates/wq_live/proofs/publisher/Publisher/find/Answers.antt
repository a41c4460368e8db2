-- the table's roots are those of the list
use Rattle.wq_live.proofs.publisher.Publisher.find.Goals as goal

pub returns : goal.returns
returns g c = c.number_of.ensures.list c.args.self.now c.table.ensures.table
