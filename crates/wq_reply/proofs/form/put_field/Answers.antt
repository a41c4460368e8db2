-- The place of the field.
use Rattle.std.proofs.Common.{sym, ◌∙◌, arith}
use Rattle.wq_reply.proofs.Order.{put-less, put-equal, put-greater, put-last}
use Rattle.wq_reply.proofs.form.put_field.Goals as goal

pub returns-in-Less : goal.returns-in-Less
returns-in-Less c =
    c.in_ok-insert-in-Less.ensures.items
    ∙ sym (put-less c.loop-place.ordered.items c.loop-place.place c.args.field c.index.result.now (omega arith) c.index.ensures (cc))
    ∙ c.loop-place.invariant.behind

pub returns-in-Equal : goal.returns-in-Equal
returns-in-Equal c =
    sym (put-equal c.loop-place.ordered.items c.loop-place.place c.args.field c.index.result.now (omega arith) c.index.ensures (cc))
    ∙ c.loop-place.invariant.behind

pub loop-place-preserved : goal.loop-place-preserved
loop-place-preserved c = record {
  same = c.loop-place.invariant.same;
  behind = put-greater c.loop-place.ordered.items c.loop-place.place c.args.field c.index.result.now (omega arith) c.index.ensures (cc) ∙ c.loop-place.invariant.behind;
}

pub returns : goal.returns
returns c =
    c.in_ok-push.ensures.items
    ∙ sym (put-last c.loop-place.ordered.items c.loop-place.place c.args.field (omega arith))
    ∙ c.loop-place.invariant.behind
