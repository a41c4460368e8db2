-- The number is that of the root that was found.
use Rattle.wq_crawl.proofs.Shown.{none_shown, number_shown}
use Rattle.wq_crawl.proofs.found_root.FoundRoot.seen.Goals as goal

pub returns-in-Some : goal.returns-in-Some
returns-in-Some g c =
    number_shown c.args.run c.args.root.now c.args.look.now c.in-Some.ensures.lawful c.in-Some.number _ _ c.in-Some.ensures.number
    c.instance-instance.ensures c.in-Some.ensures.view

pub returns-in-None : goal.returns-in-None
returns-in-None g c = none_shown c.args.run c.args.root.now c.args.look.now c.in-None.ensures.lawful c.in-None.ensures.number
