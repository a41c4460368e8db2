-- the members so far and then those of the keys that are left are all
use Rattle.std.proofs.Common.{◌≡◌, map, drop}
use Rattle.serde_json.specs.Data.{no_members}
use Rattle.serde_json.specs.View.{members_view, view as data_of}
use Rattle.wq_follow.specs.Definition.{with_keys}
use Rattle.wq_follow.proofs.definition.part_of.Given as goal

abbrev pub invariant-loop-key : goal.invariant-loop-key
invariant-loop-key l =
    with_keys (map (λ key. key.now) (drop l.key-index l.keys)) (data_of l.object) (members_view l.part.entries)
    ≡ with_keys (map (λ key. key.now) l.keys) (data_of l.object) no_members
