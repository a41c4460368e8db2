-- The other runs are left.
use Rattle.std.proofs.Common.{ℕ, rules, not, nat_eq}
use Rattle.std.proofs.lemmas.Fn.{filter_same}
use Rattle.wq_replay.proofs.runs.RunSet.end.Goals as goal

pub returns : goal.returns
returns c =
    filter_same _ (λ (r : ℕ). not (nat_eq c.args.run r)) _ (λ x b f' k. search rules) _ _ c.retain.ensures.filtered
