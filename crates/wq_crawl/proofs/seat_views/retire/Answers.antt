-- The root was looked for, and its end was told.
use Rattle.std.proofs.Common.{option_map, subst}
use Rattle.wq_clock.specs.Instance.{instance_data}
use Rattle.wq_crawl.specs.Basis.{basis_of}
use Rattle.wq_crawl.specs.Meeting.{EndsAtEnd, SeesNumber}
use Rattle.wq_crawl.specs.Run.{found_data}
use Rattle.wq_crawl.proofs.Needs.{met_at_end, met_at_none}
use Rattle.wq_crawl.proofs.seat_views.retire.Goals as goal

pub returns-in-None : goal.returns-in-None
returns-in-None g c =
    let basis = basis_of c.args.run (g.N.Witness.published g.N.Named.book) (g.N.Witness.refused g.N.Named.book) in
    met_at_none basis c.args.root.now c.args.seat c.root_for-seat.result.0 (g.R.Roots.crawler c.args.roots.now)
    (subst (λ i. SeesNumber basis c.args.root.now c.args.seat (option_map found_data i) c.root_for-seat.result.0) c.in-None.is c.root_for-seat.ensures)

pub returns-in-Some : goal.returns-in-Some
returns-in-Some g c =
    let basis = basis_of c.args.run (g.N.Witness.published g.N.Named.book) (g.N.Witness.refused g.N.Named.book) in
    met_at_end basis c.args.root.now c.args.seat c.root_for-seat.result.0 c.at_end.result.0 c.at_end.result.1 (g.R.Roots.crawler c.args.roots.now)
    (g.R.Roots.crawler c.retire-told.new.self) (instance_data c.in-Some.shown.instance) c.retire-told.result
    (subst (λ i. SeesNumber basis c.args.root.now c.args.seat (option_map found_data i) c.root_for-seat.result.0) c.in-Some.is c.root_for-seat.ensures)
    c.retire-told.ensures (subst (λ i. EndsAtEnd (instance_data i) c.retire-told.result c.root_for-seat.result.0 c.at_end.result.1 c.at_end.result.0) c.instance-instance.ensures c.at_end.ensures)
