-- the names but the one that was taken
use Rattle.std.proofs.Common.{rules, ◌≡◌, ◌++◌}
use Rattle.std.specs.Prelude.{option_to_list}
use Rattle.wq_disk.proofs.Distinct.{distinct_popped}
use Rattle.wq_disk.proofs.names.Names.take.Goals as goal

pub invariant_of-self-clause-distinct : goal.invariant_of-self-clause-distinct
invariant_of-self-clause-distinct c =
    let popped : c.args.self.now.places.items ≡ c.pop.new.self.items ++ option_to_list c.pop.result = search rules in
    distinct_popped c.args.self.now.bytes.items _ _ _ popped c.args.self.now.distinct
