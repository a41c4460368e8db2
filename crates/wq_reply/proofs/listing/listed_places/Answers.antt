-- The places of the files that match are places of the view.
use Rattle.std.proofs.Common.{◌<◌, All, length, sym, subst, ◌∙◌}
use Rattle.wq_reply.specs.Listing.{is_match}
use Rattle.wq_reply.specs.Plan.{planned}
use Rattle.wq_reply.proofs.listing.listed_places.Goals as goal

pub existing-requires : goal.existing-requires
existing-requires c =
    let records = c.args.view.now.records in
    subst (All (λ i. i < length records)) (sym (c.deref.ensures.value ∙ c.requires))
    (c.positions_are_there.ensures (is_match (planned c.args.plan.now)) records).0
