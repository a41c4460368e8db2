-- A sort keeps the texts, and leaves none after the next one.
use Rattle.std.proofs.Common.{rules, ◌≡◌, map, subst, ◌∙◌, arith}
use Rattle.std.specs.List.Sorted.{IsPermutation}
use Rattle.std.specs.Ordering.{is_lt}
use Rattle.std.proofs.lemmas.List.{take_all}
use Rattle.std.proofs.lemmas.List.Sorted.{answers_always, ranks_by, IsPermutation-map}
use Rattle.wq_base.specs.Compare.{folded_order}
use Rattle.wq_base.proofs.TextOrder.{folded_total}
use Rattle.wq_view.proofs.suffixes.Suffixes.of.Goals as goal

pub returns : goal.returns
returns c =
    let all : map (λ t. t.now) c.loop-text.sorted.items ≡ c.args.texts.now = c.loop-text.invariant ∙ take_all c.loop-text.text-index c.args.texts.now (omega (arith, c.loop-text-test.false)) in
    subst (λ ts. IsPermutation ts (map (λ t. t.now) c.sort_unstable_by.new.self.items)) all (IsPermutation-map (λ t. t.now) c.loop-text.sorted.items c.sort_unstable_by.new.self.items c.sort_unstable_by.ensures.permutation)

pub invariant_of-result : goal.invariant_of-result
invariant_of-result c =
    c.sort_unstable_by.ensures.sorted (λ s t. is_lt (folded_order s.now t.now)) (ranks_by folded_total (λ t. t.now)) (answers_always _ _ _ (λ f a r g called. search rules))
