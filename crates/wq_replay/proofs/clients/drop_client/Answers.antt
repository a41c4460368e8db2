-- The other clients are left.
use Rattle.std.proofs.Common.{rules, not}
use Rattle.std.proofs.lemmas.Fn.{filter_same}
use Rattle.wq_replay.specs.Client.{is_of}
use Rattle.wq_replay.specs.declared.client.Client.{Client}
use Rattle.wq_replay.proofs.clients.drop_client.Goals as goal

pub returns-clause-others : goal.returns-clause-others
returns-clause-others c =
    filter_same _ (λ (client : Client). not (is_of c.args.number client)) _ (λ x b f' k. search rules) _ _ c.retain.ensures.filtered
