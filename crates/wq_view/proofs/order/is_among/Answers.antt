-- A binary search in a rising list finds what is in it.
use Rattle.std.proofs.Common.{◌∙◌}
use Rattle.std.proofs.lemmas.List.Sorted.{searched}
use Rattle.wq_view.proofs.Outside.{among_found, rises_on}
use Rattle.wq_view.proofs.order.is_among.Goals as goal

pub returns : goal.returns
returns c =
    let xs = c.args.rising.now in
    c.is_ok.ensures.value
    ∙ among_found xs c.args.position c.binary_search.result (searched xs c.args.position c.binary_search.result c.binary_search.ensures.position (rises_on xs c.requires))
