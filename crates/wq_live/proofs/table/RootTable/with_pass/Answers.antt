-- no root has the number
use Rattle.std.proofs.Common.{inl, option_map, ap, sym, ◌∙◌}
use Rattle.wq_live.proofs.Passes.{not_shown}
use Rattle.wq_live.proofs.table.RootTable.with_pass.Goals as goal

pub returns-in-None-clause-passed : goal.returns-in-None-clause-passed
returns-in-None-clause-passed c events is =
    inl (not_shown events c.args.self.now is c.args.number (sym c.root_of_number.ensures ∙ ap (option_map (λ root. root.now)) c.in-None.is))

pub returns-in-None-clause-spent : goal.returns-in-None-clause-spent
returns-in-None-clause-spent c events is =
    let hidden = not_shown events c.args.self.now is c.args.number (sym c.root_of_number.ensures ∙ ap (option_map (λ root. root.now)) c.in-None.is) in
    ((λ h. absurd (cc h)), (λ wants. absurd (cc (hidden, wants.0.0))))
