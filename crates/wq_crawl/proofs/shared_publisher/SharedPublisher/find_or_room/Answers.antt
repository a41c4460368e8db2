-- The root is found as the present table has it.
use Rattle.std.proofs.Common.{inr, refl}
use Rattle.wq_crawl.specs.declared.place.Place.TheVariants.{Free, Full, Shown}
use Rattle.wq_crawl.proofs.shared_publisher.SharedPublisher.find_or_room.Goals as goal

pub returns-in-Shown : goal.returns-in-Shown
returns-in-Shown g c =
    let events = c.publisher-publisher.result.now in
    (events, Shown c.in-Shown.field-0, (c.in-Shown.ensures.place events c.table.ensures.table, inr refl))

pub returns-in-Full : goal.returns-in-Full
returns-in-Full g c =
    let events = c.publisher-publisher.result.now in
    (events, Full, (c.in-Full.ensures.place events c.table.ensures.table, refl))

pub returns : goal.returns
returns g c =
    let events = c.publisher-publisher.result.now in
    (events, Free, (c.in-Free.ensures.place events c.table.ensures.table, refl))
