-- The flags of the records' numbers.
use Rattle.std.proofs.Common.{subst}
use Rattle.wq_view.specs.Sought.{sought_texts}
use Rattle.wq_view.specs.Suffix.{AreNumberFlags, first_places, folded_suffixes}
use Rattle.wq_view.proofs.SuffixFlags.{flagged_by}
use Rattle.wq_view.proofs.suffix.SuffixTable.flags.Goals as goal

pub returns : goal.returns
returns c =
    flagged_by (sought_texts c.args.sought) c.args.records.now (first_places c.args.self.now.firsts.items) c.args.self.now.numbers.items c.flags_of.result c.requires (subst (λ l. AreNumberFlags (sought_texts c.args.sought) (folded_suffixes c.args.records.now) (first_places l) c.flags_of.result) c.deref.ensures.value c.flags_of.ensures)
