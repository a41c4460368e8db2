use Rattle.std.proofs.Common.{◌≡◌, ◌-◌, ◌∙◌, ℕ, false, get_or, ap, arith, inl, inr}
use Rattle.std.proofs.lemmas.Bool.{cases_eq, ne_eqb}
use Rattle.wq_base.specs.Byte.{is_slash}
use Rattle.wq_glob.proofs.MarkLemmas.{plain_wild}
use Rattle.wq_glob.proofs.leftmost.plain_end.Goals as goal

pub returns-clause-wild : goal.returns-clause-wild
returns-clause-wild c f i after before =
    let found = c.find_same.ensures in
    let last : is_slash (get_or c.args.text.now (i - 1) 0) ≡ false = elim (cases_eq (i - 1) c.args.at) [
      | inl same ↦ ap (λ (n : ℕ). is_slash (get_or c.args.text.now n 0)) same ∙ ne_eqb _ _ c.if-text-at-eq47.false
      | inr other ↦ found.other (i - 1) (omega arith) (omega arith)
    ] in
    plain_wild f c.args.text.now i (omega arith) (found.other i (omega arith) before) last
