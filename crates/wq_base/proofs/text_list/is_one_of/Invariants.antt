-- the rest decides
use Rattle.std.proofs.Common.{◌≡◌, drop}
use Rattle.std.specs.List.{list_any}
use Rattle.wq_base.specs.Compare.{same_text}
use Rattle.wq_base.proofs.text_list.is_one_of.Given as goal

abbrev pub invariant-loop-one : goal.invariant-loop-one
invariant-loop-one l =
    list_any (λ one. same_text l.case one l.text) (drop l.one-index l.texts)
    ≡ list_any (λ one. same_text l.case one l.text) l.texts
