-- Each position took one look, and that there is no other took one.
use Rattle.wq_gen.specs.Candidate.{suffix_is_among}
use Rattle.wq_gen.proofs.Suffixed.{found_few}
use Rattle.wq_gen.proofs.suffix.found_by_suffix.Goals as goal

pub returns-in_err-push_with_suffix-clause-few : goal.returns-in_err-push_with_suffix-clause-few
returns-in_err-push_with_suffix-clause-few c =
    found_few (suffix_is_among c.args.sought.now) c.args.counted.now.view.records c.args.counted.now.count c.push_with_suffix.new.self.count c.push_with_suffix.ensures.few

pub returns-clause-few : goal.returns-clause-few
returns-clause-few c =
    found_few (suffix_is_among c.args.sought.now) c.args.counted.now.view.records c.args.counted.now.count c.push_with_suffix.new.self.count c.push_with_suffix.ensures.few
