-- The closure tests each part that `split` gives.
use Rattle.std.proofs.Common.{rules}
use borrow.Author.Tests.{tests}
use Rattle.std.proofs.lemmas.Iterator.Search.{all_from_yields_List}
use Rattle.std.proofs.lemmas.Iterator.Splits.{YieldsList-from_slice_split}
use Rattle.wq_base.specs.Byte.{is_slash}
use Rattle.wq_record.specs.Name.{is_plain_part}
use Rattle.wq_record.proofs.name.has_plain_parts.Goals as goal

pub returns : goal.returns
returns c = all_from_yields_List is_plain_part _ _ _ c.all.ensures.ran (YieldsList-from_slice_split _ is_slash c.args.bytes.now c.split.ensures.rest c.split.ensures.done c.split.ensures.closure (λ x b q called. search (rules, tests))) (λ x b q called. search (rules, tests))
