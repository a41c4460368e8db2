-- An object that was read as a subscription was read as a query.
use Rattle.serde_json.specs.View.{view as data_of}
use Rattle.wq_session.proofs.Before.{plain_read}
use Rattle.wq_session.proofs.read_object.ReadObject.read.Goals as goal

pub of_query-requires-in-Subscribe : goal.of_query-requires-in-Subscribe
of_query-requires-in-Subscribe c =
    plain_read _ (data_of c.in-Subscribe.object) c.read_subscription-query.result
    c.read_subscription-query.ensures
