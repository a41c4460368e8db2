-- The share is that of the root whose number was found.
use Rattle.std.proofs.Common.{Some, ap, option_map, subst, sym}
use Rattle.wq_clock.specs.Instance.{instance_data}
use Rattle.wq_crawl.specs.Run.{ShowsAt, ShowsNumber, found_data}
use Rattle.wq_crawl.specs.Views.{root_at_data}
use Rattle.wq_crawl.proofs.Shown.{IsNumbered, even_err, none_there, one_shown, shows_by_number, still_ok}
use Rattle.wq_crawl.proofs.seat_views.share_for.Goals as goal

pub returns-in-Some-clause-shared : goal.returns-in-Some-clause-shared
returns-in-Some-clause-shared g c =
    let shows = ShowsAt c.args.run c.args.root.now c.args.look.now in
    let it = one_shown shows (instance_data c.instance-instance.result)
    (subst (λ i. IsNumbered shows (Some (instance_data i))) (sym c.instance-instance.ensures) (subst (λ s. IsNumbered shows (option_map found_data s)) c.in-Some.is c.seen.ensures)) in
    still_ok (λ at. ShowsNumber c.args.run c.instance-instance.result.root c.args.look.now (option_map root_at_data at))
    (λ at. shows (option_map root_at_data at)) c.numbered.result
    (λ at. shows_by_number c.args.run c.args.look.now c.instance-instance.result.root it.0 (ap (λ i. i.root) it.2) c.args.root.now (option_map root_at_data at) it.1)
    c.numbered.ensures

pub returns-in-Some-clause-short : goal.returns-in-Some-clause-short
returns-in-Some-clause-short g c =
    let shows = ShowsAt c.args.run c.args.root.now c.args.look.now in
    let it = one_shown shows (instance_data c.instance-instance.result)
    (subst (λ i. IsNumbered shows (Some (instance_data i))) (sym c.instance-instance.ensures) (subst (λ s. IsNumbered shows (option_map found_data s)) c.in-Some.is c.seen.ensures)) in
    even_err _ c.numbered.result (it.0, it.1)

pub returns-in-None-clause-shared : goal.returns-in-None-clause-shared
returns-in-None-clause-shared g c =
    let shows = ShowsAt c.args.run c.args.root.now c.args.look.now in
    none_there shows (subst (λ s. IsNumbered shows (option_map found_data s)) c.in-None.is c.seen.ensures)
