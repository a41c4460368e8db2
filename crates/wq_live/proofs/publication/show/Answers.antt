-- the value that is lined up last continues the one that is shown, and is shown in its place
use Rattle.std.proofs.Common.{◌≡◌, ap, drop, fold, ◌∙◌}
use Rattle.left_right.specs.Sides.{view}
use Rattle.wq_live.specs.Log.{LogData}
use Rattle.wq_live.proofs.Sharing.{last_is, shows_last, turns}
use Rattle.wq_live.proofs.publication.show.Goals as goal

pub publish_as-requires : goal.publish_as-requires
publish_as-requires g c next is =
    let shown : LogData = c.append.new.self.desk.shown.value in
    let same : next ≡ c.args.next = is ∙ ap (fold (λ _ (log : LogData). log) shown) c.in-Ok.ensures.pending ∙ last_is shown (drop c.args.writer.behind c.args.writer.log.items) c.args.next in
    turns _ _ _ next (rw (same, c.append.ensures.desk) c.requires)

pub returns : goal.returns
returns g c =
    let shown : LogData = c.append.new.self.desk.shown.value in
    let pending = drop c.append.new.self.behind c.append.new.self.log.items in
    let same : fold (λ _ (log : LogData). log) shown pending ≡ c.args.next = ap (fold (λ _ (log : LogData). log) shown) c.in-Ok.ensures.pending ∙ last_is shown (drop c.args.writer.behind c.args.writer.log.items) c.args.next in
    let now = c.publish_as.result.0.desk in
    rw (← c.append.ensures.desk) (shows_last _ _ c.publish_as.result.1 shown now.shown.value c.args.next (view c.append.new.self.desk.place) (view now.place) pending same c.publish_as.ensures.values c.publish_as.ensures.rule)
