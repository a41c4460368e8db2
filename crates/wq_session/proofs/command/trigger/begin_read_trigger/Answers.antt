-- The program answers what the expression of the definition means within its measure, unless it was named.
use Rattle.std.proofs.Common.{Ok, subst}
use Rattle.wq_query.specs.Query.{QueryData}
use Rattle.wq_session.specs.Shelved.{shelf_data}
use Rattle.wq_session.specs.Taking.{FindsProgram}
use Rattle.wq_session.proofs.command.trigger.begin_read_trigger.Goals as goal

pub add-requires-clause-program : goal.add-requires-clause-program
add-requires-clause-program c =
    (subst (λ (q : QueryData). FindsProgram q (shelf_data c.args.shelf.now) (Ok c.in_ok-program.program)) c.query.ensures c.in_ok-program.ensures).1
