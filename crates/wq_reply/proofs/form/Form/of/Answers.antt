-- Several fields are told as an object.
use Rattle.wq_reply.proofs.Order.{object-form}
use Rattle.wq_reply.proofs.form.Form.of.Goals as goal

pub returns : goal.returns
returns c =
    object-form c.args.fields.now c.in_ok-in_order.field-0.items c.if-fields-eq1.false c.in_ok-in_order.ensures
