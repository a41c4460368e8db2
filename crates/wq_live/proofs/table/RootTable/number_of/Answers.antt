-- The table's roots are those of the list.
use Rattle.std.proofs.Common.{rules, ◌∙◌}
use Rattle.wq_live.proofs.Fullness.{number_named}
use Rattle.wq_live.proofs.table.RootTable.number_of.Goals as goal

pub returns-in_err-root-clause-list : goal.returns-in_err-root-clause-list
returns-in_err-root-clause-list c = λ events is. (search rules) ∙ number_named events c.args.self.now is c.args.text.now

pub returns-clause-list : goal.returns-clause-list
returns-clause-list c = λ events is. (search rules) ∙ number_named events c.args.self.now is c.args.text.now
