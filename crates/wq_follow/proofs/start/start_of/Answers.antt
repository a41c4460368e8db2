-- The parts are those of a start.
use Rattle.std.proofs.Common.{sym, subst}
use Rattle.wq_clock.specs.Instance.{instance_data}
use Rattle.wq_reply.specs.Listing.{AreWithin}
use Rattle.wq_follow.specs.Started.{order_data}
use Rattle.wq_follow.proofs.Places.{within_taken}
use Rattle.wq_follow.proofs.Starts.{start_from}
use Rattle.wq_follow.proofs.start.start_of.Goals as goal

pub returns : goal.returns
returns c =
    let same = c.as_slice-places.ensures.value in
    start_from (order_data c.args.order.now) (instance_data c.args.instance.now) c.args.view.now.records c.args.batch.now
    c.as_slice-places.result.now c.given-given.result.now c.appended-count.result c.overflows-overflow.result _ _ _
    same (subst (AreWithin c.args.view.now.records) (sym same) c.requires.within)
    c.appended-count.ensures.front c.appended-count.ensures.within
    c.in_ok-args.ensures c.overflows-overflow.ensures c.in_ok-env.ensures c.given-given.ensures c.in_ok-input.ensures

pub input_for-requires : goal.input_for-requires
input_for-requires c =
    let records = c.args.view.now.records in
    let within = subst (AreWithin records) (sym c.as_slice-places.ensures.value) c.requires.within in
    subst (AreWithin records) (sym c.given-given.ensures) (within_taken records _ c.as_slice-places.result.now within)
