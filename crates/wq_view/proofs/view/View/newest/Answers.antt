-- The positions of the order are those of the order of last change, within the records.
use Rattle.std.proofs.Common.{◌≡◌, length, slice_get, ap, ◌∙◌, arith}
use Rattle.std.proofs.lemmas.List.{length-map}
use Rattle.wq_record.specs.RecordData.{RecordData}
use Rattle.wq_view.specs.Order.{ticks_of}
use Rattle.wq_view.specs.View.{ViewData, newest_of}
use Rattle.wq_view.proofs.LaterOrder.{order_is_newest, order_rises}
use Rattle.wq_view.proofs.Newest.{newest_within}
use Rattle.wq_view.proofs.PassOrder.{there_within}
use Rattle.wq_view.proofs.view.View.newest.Goals as goal

pub get-requires : goal.get-requires
get-requires c = order_rises c.self.inside.tick c.self.inside.chunks c.self.inside.order c.self.invariant.2

-- what is read is read of the order of last change
value : (c : goal.After-get) → c.get.result ≡ slice_get (newest_of c.args.self.now) c.args.k
value c =
    c.get.ensures
    ∙ ap (λ ps. slice_get ps c.args.k) (order_is_newest c.self.inside.tick c.self.inside.chunks c.self.inside.order c.self.invariant.2)
    ∙ ap (λ (v : ViewData). slice_get (newest_of v) c.args.k) c.self.view_is

pub returns-clause-value : goal.returns-clause-value
returns-clause-value c = value c

pub returns-clause-bound : goal.returns-clause-bound
returns-clause-bound c =
    let records = c.args.self.now.records in
    there_within (length records) (newest_of c.args.self.now) c.args.k c.get.result (value c) (λ k d h. omega (arith, newest_within c.args.self.now.tick (ticks_of records) k d h, length-map records (λ (r : RecordData). r.otick)))
