-- The roots of the world met the need, and the session of the client answered.
use Rattle.std.proofs.Common.{ℤ, false, Some, ap, option_map, refl, subst, sym, ◌∙◌}
use mir.Facts.{to_z-of_z}
use Rattle.wq_clock.specs.Run.{run_data}
use Rattle.wq_live.specs.Table.{IsTableOf}
use Rattle.wq_session.specs.Need.{need_of}
use Rattle.wq_session.specs.Desk.{stand}
use Rattle.wq_session.specs.Shelved.{shelf_data}
use Rattle.wq_session.specs.Desk.{Replies}
use Rattle.wq_replay.specs.Client.{follows_in}
use Rattle.wq_replay.specs.Clients.{FollowsNow}
use Rattle.wq_replay.specs.Gets.{kept}
use Rattle.wq_crawl.specs.Tables.{refused_data}
use Rattle.wq_crawl.specs.declared.table_views.TableViews.{TableViews}
use Rattle.wq_replay.proofs.Worlds.{answers_well, met_here}
use Rattle.wq_replay.proofs.world.World.answer.Goals as goal

pub returns : goal.returns
returns c = λ before stands.
    let had = c.args.self.now.clients.items in
    let number = to_z-of_z c.ranges.client in
    let taken = c.replace-views.result in
    let value = c.replace-views.ensures.value in
    let out = (c.in_ok-answered.answered).1 in
    let it = c.in_ok-answered.ensures in
    let replies = subst (λ (client : ℤ). Replies false it.0 c.args.ask (stand (Some (shelf_data c.args.self.now.shelf)) (follows_in client had)) out
    (stand (Some (shelf_data c.answer.new.shelf)) it.1)) number it.3 in
    let follows = subst (λ (client : ℤ). FollowsNow client (kept out.goes_on it.1) had c.answer.new.clients.items) number it.4 in
    let run = stands.run ∙ ap (λ (v : TableViews). run_data v.run) (sym value) in
    let refused = stands.refused ∙ ap (λ (v : TableViews). option_map refused_data v.refused) (sym value) in
    let met = (it.2).2 before.events (subst (λ (v : TableViews). IsTableOf before.events v.table) (sym value) stands.roots) in
    let meets = met_here (need_of c.args.ask) before.run (run_data taken.run) before.refused (option_map refused_data taken.refused) before.events it.0 met.0 run refused met.1 in
    answers_well before c.args.client c.args.ask it.0 met.0 (shelf_data c.args.self.now.shelf) (shelf_data c.answer.new.shelf) had it.1 out
    (record c.args.self.now { views = (c.in_ok-answered.answered).0; clients = c.answer.new.clients; shelf = c.answer.new.shelf }) stands.shelf stands.follows meets replies
    follows (run ∙ ap run_data (sym (it.2).0)) met.2 refl stands.runs (ap (option_map refused_data) (sym (it.2).1)) stands.whole
