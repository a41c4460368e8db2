-- Nothing may follow the options.
use Rattle.std.proofs.Common.{sym, ◌∙◌}
use Rattle.wq_ask.proofs.Behind.{more_options}
use Rattle.wq_ask.proofs.words.are_options_alone.Goals as goal

pub returns-else-is_empty : goal.returns-else-is_empty
returns-else-is_empty c =
    c.if-is_empty.false
    ∙ more_options c.in-Some.options.now c.in-Some.rest.now c.args.values.now c.in-Some.ensures.cases.0 (sym c.if-is_empty.ensures)
