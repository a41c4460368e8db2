-- A sort keeps the paths, and leaves none after the next one.
use Rattle.std.proofs.Common.{rules, ◌≡◌, map, subst, ◌∙◌, arith}
use Rattle.std.specs.List.Sorted.{IsPermutation}
use Rattle.std.specs.Ordering.{is_lt}
use Rattle.std.proofs.lemmas.List.{take_all}
use Rattle.std.proofs.lemmas.List.Sorted.{answers_always, ranks_by, IsPermutation-map}
use Rattle.wq_gen.specs.Outer.{path_order}
use Rattle.wq_gen.proofs.Kept.{sorted_image}
use Rattle.wq_gen.proofs.PathOrder.{path_total}
use Rattle.wq_gen.proofs.outer.in_order.Goals as goal

pub returns-clause-same : goal.returns-clause-same
returns-clause-same c =
    let all : map (λ p. p.now) c.loop-path.sorted.items ≡ c.args.paths.now = c.loop-path.invariant ∙ take_all c.loop-path.path-index c.args.paths.now (omega (arith, c.loop-path-test.false)) in
    subst (λ ps. IsPermutation ps (map (λ p. p.now) c.sort_unstable_by.new.self.items)) all (IsPermutation-map (λ p. p.now) c.loop-path.sorted.items c.sort_unstable_by.new.self.items c.sort_unstable_by.ensures.permutation)

pub returns-clause-rise : goal.returns-clause-rise
returns-clause-rise c =
    sorted_image (λ p. p.now) (λ p q. is_lt (path_order p q)) c.sort_unstable_by.new.self.items (c.sort_unstable_by.ensures.sorted (λ p q. is_lt (path_order p.now q.now)) (ranks_by path_total (λ p. p.now)) (answers_always _ _ _ (λ f a r g called. search rules)))
