-- the rest decides
use Rattle.std.proofs.Common.{◌≡◌, map, drop}
use Rattle.serde_json.specs.View.{view as data_of}
use Rattle.wq_query.specs.Reading.{has_key_of}
use Rattle.wq_query.proofs.key.has_key_of.Given as goal

abbrev pub invariant-loop-key : goal.invariant-loop-key
invariant-loop-key l = has_key_of (map (λ key. key.now) (drop l.key-index l.keys)) (data_of l.query) ≡ has_key_of (map (λ key. key.now) l.keys) (data_of l.query)
