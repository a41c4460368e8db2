-- no names are distinct
use Rattle.std.proofs.Common.{rules, ◌≡◌, []}
use Rattle.wq_disk.proofs.Distinct.{distinct_none}
use Rattle.wq_disk.proofs.names.Names.new.Goals as goal

pub invariant_of-result-clause-distinct : goal.invariant_of-result-clause-distinct
invariant_of-result-clause-distinct c =
    let none : c.new-2.result.items ≡ [] = search rules in
    distinct_none c.new.result.items c.new-2.result.items none
