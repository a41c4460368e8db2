-- The view that is found by the number.
use Rattle.std.proofs.Common.{rules, ◌<◌, find}
use Rattle.wq_clock.specs.Instance.{instance_data}
use Rattle.wq_clock.specs.Run.{run_data}
use Rattle.wq_live.specs.Table.{has_number}
use Rattle.wq_crawl.proofs.Tables.{at_numbered, at_past, numbered_found}
use Rattle.wq_crawl.proofs.table_views.TableViews.numbered.Goals as goal

pub returns-then-number-given : goal.returns-then-number-given
returns-then-number-given c = λ events is.
    let past : c.args.self.now.table.given < c.args.number = search rules in
    at_past (run_data c.args.self.now.run) c.args.number events c.args.self.now.table is past

pub returns : goal.returns
returns c = λ events is.
    at_numbered (run_data c.args.self.now.run) c.args.number (find (has_number c.args.number) c.args.self.now.table.roots) c.in_ok-view.view.now (instance_data c.instance.result)
    (numbered_found c.args.number c.args.self.now.table.roots) c.in_ok-view.ensures.view c.instance.ensures
