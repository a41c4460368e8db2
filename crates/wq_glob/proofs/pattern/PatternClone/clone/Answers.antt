use Rattle.std.proofs.Common.{◌≡◌, ◌∙◌, List, ℕ, ap, sym}
use Rattle.std.specs.List.{each_same}
use Rattle.wq_glob.specs.Least.{least_of}
use Rattle.wq_glob.specs.declared.flag.Flags.{Flags}
use Rattle.wq_glob.proofs.StepLemmas.{compiled_same}
use Rattle.wq_glob.proofs.pattern.PatternClone.clone.Goals as goal
use Rattle.wq_glob.proofs.pattern.PatternClone.clone.Goals.{In_ok-clone-3}

-- the copy has the bytes of the text
same_text : (c : In_ok-clone-3) → c.in_ok-clone.field-0.items ≡ c.self.inside.text.items
same_text c = each_same _ _ c.in_ok-clone.ensures.cases.0

pub invariant_of-result : goal.invariant_of-result
invariant_of-result c =
    let rules = c.in_ok-clone-2.ensures.cases in
    let steps = each_same _ _ c.in_ok-clone-3.ensures.cases.0 in (
      compiled_same _ _ c.self.inside.rules c.in_ok-clone-2.field-0 _ _ (same_text c) rules.0 rules.1 steps c.self.invariant.0,
      c.self.invariant.1 ∙ ap least_of (sym steps),
    )

pub returns : goal.returns
returns c = record {
  cases = ap (λ (t : List ℕ). record { text = t; flags = c.in_ok-clone-2.field-0.flags }) (same_text c)
      ∙ ap (λ (v : Flags). record { text = c.self.inside.text.items; flags = v }) c.in_ok-clone-2.ensures.cases.0
      ∙ c.self.view_is;
}
