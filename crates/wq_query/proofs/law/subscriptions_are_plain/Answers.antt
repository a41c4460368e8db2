-- The lemma is the law.
use Rattle.wq_query.proofs.Subscribed.{subscriptions_are_plain}
use Rattle.wq_query.proofs.law.subscriptions_are_plain.Goals as goal

pub returns : goal.returns
returns c =
    subscriptions_are_plain c.texts_say_what_they_spell.ensures c.values_ask_what_they_write.ensures
