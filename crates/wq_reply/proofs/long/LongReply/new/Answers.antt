-- The first bytes and the others are those of the reply.
use Rattle.std.proofs.Common.{◌++◌, map, take, ap, subst, ◌∙◌}
use Rattle.wq_clock.specs.Bound.{is_fresh}
use Rattle.wq_clock.specs.ClockText.{clock_text}
use Rattle.wq_clock.specs.Instance.{instance_data}
use Rattle.wq_view.specs.Position.{records_at}
use Rattle.wq_reply.specs.Long.{head_files, long_text}
use Rattle.wq_reply.specs.Printing.{IsFormOf, told}
use Rattle.wq_reply.specs.Plan.{planned}
use Rattle.wq_reply.specs.Rows.{opened, start_text}
use Rattle.wq_reply.proofs.Longs.{whole}
use Rattle.wq_reply.proofs.long.LongReply.new.Goals as goal

pub returns : goal.returns
returns c =
    let form = c.in_ok-form.form in
    let plan = planned c.args.plan.now in
    let instance = instance_data c.args.instance.now in
    let view = c.args.view.now in
    let head = c.in_ok-head.head.items in
    let places = c.args.places.items in
    let is = subst (λ fields. IsFormOf fields form) c.deref.ensures.value c.in_ok-form.ensures in
    let headed = c.in_ok-head.ensures ∙ ap (λ l. start_text (clock_text instance view.tick)
    ++ opened (map (told form instance plan.bound) (records_at view.records (take head_files l)))) c.deref-2.ensures.value in
    c.of_parts.ensures
    ∙ ap (λ shown. long_text head (told form instance plan.bound) shown.records places (is_fresh plan.bound)) c.in-Ok.ensures.ok
    ∙ whole form plan instance view places head is c.requires.within c.requires.some c.requires.files headed
