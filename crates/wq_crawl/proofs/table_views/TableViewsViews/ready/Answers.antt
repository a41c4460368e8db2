-- The need was met: its crawl or watching was refused, its root has ended, or it was looked at.
use Rattle.std.proofs.Common.{option_map, subst, sym, ◌∙◌}
use Rattle.wq_clock.specs.Run.{run_data}
use Rattle.wq_crawl.specs.Need.{need_data}
use Rattle.wq_crawl.specs.Tables.{refused_data}
use Rattle.wq_crawl.proofs.Meets.{MeetsAll, met_ended, met_looked, met_refused}
use Rattle.wq_crawl.proofs.table_views.TableViewsViews.ready.Goals as goal

pub returns-in-Some : goal.returns-in-Some
returns-in-Some c =
    let need = need_data c.args.need in
    let run = run_data c.args.self.run in
    let refused = option_map refused_data c.args.self.refused in
    let it = met_refused need run refused c.args.self.table c.in-Some.fault (sym c.in-Some.is ∙ c.fault_for.ensures) in
    (it.0, (c.new.ensures.0, c.new.ensures.2, subst (λ t. MeetsAll need run refused c.args.self.table it.0 t) (sym c.new.ensures.1) it.1), it.2)

pub returns-in-Some-ending : goal.returns-in-Some-ending
returns-in-Some-ending c =
    let it = met_ended (need_data c.args.need) (run_data c.args.self.run) (option_map refused_data c.args.self.refused) c.args.self.table c.in-Some-ending.number
    c.at_end.result.1 c.at_end.result.0.table (sym c.in_default.is ∙ c.fault_for.ensures) (sym c.in-Some-ending.is ∙ c.ending.ensures.value) c.at_end.ensures.ends in
    (it.0, (c.at_end.ensures.run, c.at_end.ensures.followed, it.1), it.2)

pub returns-in-None : goal.returns-in-None
returns-in-None c =
    let need = need_data c.args.need in
    let run = run_data c.args.self.run in
    let refused = option_map refused_data c.args.self.refused in
    let it = met_looked need run refused c.args.self.table c.looked-root.result (sym c.in_default.is ∙ c.fault_for.ensures) (sym c.in-None.is ∙ c.ending.ensures.value)
    c.looked-root.ensures in
    (it.0, (c.new-in-None.ensures.0, c.new-in-None.ensures.2, subst (λ t. MeetsAll need run refused c.args.self.table it.0 t) (sym c.new-in-None.ensures.1) it.1), it.2)
