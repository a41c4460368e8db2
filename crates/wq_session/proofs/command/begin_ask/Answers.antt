-- An ask whose answer is always the same begins so at this shelf.
use Rattle.std.proofs.Common.{◌≡◌, false, true, IfErr, option_map, subst, sym}
use Rattle.wq_ask.specs.Refusal.{ends_session}
use Rattle.wq_ask.specs.declared.ask.Ask.{Ask}
use Rattle.wq_crawl.specs.At.{at_data}
use Rattle.wq_session.specs.Begun.{takes_memory, begun_ask}
use Rattle.wq_session.specs.Shelved.{shelf_data}
use Rattle.wq_session.specs.Work.{Begins}
use Rattle.wq_session.proofs.command.begin_ask.Goals as goal

pub returns-in-Alone-clause-begun : goal.returns-in-Alone-clause-begun
returns-in-Alone-clause-begun c =
    subst (λ (ask : Ask). Begins (begun_ask ask (option_map at_data c.args.at) (shelf_data c.args.shelf.now)) (shelf_data c.args.shelf.now)
    c.begin_alone.result (shelf_data c.args.shelf.now)) (sym c.in-Alone.is) (c.begin_alone.ensures.begun (shelf_data c.args.shelf.now))

pub returns-in-Alone-clause-memory : goal.returns-in-Alone-clause-memory
returns-in-Alone-clause-memory c =
    subst (λ (ask : Ask). IfErr c.begin_alone.result (λ refusal. ends_session refusal ≡ false → takes_memory ask ≡ true))
    (sym c.in-Alone.is) c.begin_alone.ensures.memory
