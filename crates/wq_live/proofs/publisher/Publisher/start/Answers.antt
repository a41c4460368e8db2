-- by the table, which is that of the list
use Rattle.std.proofs.lemmas.Result.{err_from_is_err_and}
use Rattle.wq_live.proofs.Fullness.{not_there, full, no_memory, well}
use Rattle.wq_live.proofs.publisher.Publisher.start.Goals as goal

pub with_start-requires : goal.with_start-requires
with_start-requires g c = record { new = not_there c.args.self.now c.table.result.now c.table.ensures.table c.args.text.now c.requires.new }

pub returns-in_err-news-clause-full : goal.returns-in_err-news-clause-full
returns-in_err-news-clause-full g c =
    let p = err_from_is_err_and c.from_residual-in_err-news.result c.from_residual-in_err-news.ensures.1 in
    no_memory c.from_residual-in_err-news.result c.with_start.result c.in_ok-next.next p.0 p.1 p.2 c.in_ok-next.was (full c.args.self.now c.table.result.now c.table.ensures.table c.with_start.ensures.full)

pub returns-in_err-told-clause-full : goal.returns-in_err-told-clause-full
returns-in_err-told-clause-full g c =
    let p = err_from_is_err_and c.from_residual-in_err-told.result c.from_residual-in_err-told.ensures.1 in
    no_memory c.from_residual-in_err-told.result c.with_start.result c.in_ok-next.next p.0 p.1 p.2 c.in_ok-next.was (full c.args.self.now c.table.result.now c.table.ensures.table c.with_start.ensures.full)

pub returns-clause-full : goal.returns-clause-full
returns-clause-full g c =
    well _ c.with_start.result c.in_ok-next.next c.in_ok-next.was (full c.args.self.now c.table.result.now c.table.ensures.table c.with_start.ensures.full)
