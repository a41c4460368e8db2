-- one more number comes after those so far
use Rattle.std.proofs.Common.{◌≡◌, ℕ, zero, suc, ◌+◌, ◌-◌, ◌<◌, ◌≤◌, ◌++◌, ◌∷◌, [], List, min, ap, sym, ◌∙◌, arith, append_assoc}
use Rattle.std.specs.List.{range_with_len}
use Rattle.wq_server.proofs.moments.RootNumbers.due.Goals as goal

-- the numbers from one on, and one more
one_more : (a n j : ℕ) → a + n ≡ j → range_with_len a (suc n) ≡ range_with_len a n ++ j ∷ []
one_more a zero j same = let one : a ≡ j = omega (arith, same) in ap (λ k. k ∷ []) one
one_more a (suc n) j same = ap (λ rest. a ∷ rest) (one_more (a + 1) n j (omega (arith, same)))

-- the numbers after a list go on by one number
goes_on : (shown due more : List ℕ) (a i end : ℕ) → a ≤ i → i < end → due ≡ shown ++ range_with_len (a + 1) (min i end - a) → more ≡ due ++ (i + 1) ∷ [] → more ≡ shown ++ range_with_len (a + 1) (min (i + 1) end - a)
goes_on shown due more a i end from below so_far is =
    let after : suc (min i end - a) ≡ min (i + 1) end - a = omega (arith, from, below) in
    let last : (a + 1) + (min i end - a) ≡ i + 1 = omega (arith, from, below) in
    is ∙ ap (λ xs. xs ++ (i + 1) ∷ []) so_far
    ∙ append_assoc shown (range_with_len (a + 1) (min i end - a)) ((i + 1) ∷ [])
    ∙ ap (λ xs. shown ++ xs) (sym (one_more (a + 1) (min i end - a) (i + 1) last) ∙ ap (range_with_len (a + 1)) after)

pub loop-last-preserved : goal.loop-last-preserved
loop-last-preserved c = goes_on _ _ _ _ _ _ c.loop-last.auto.last c.loop-last-test.true c.loop-last.invariant c.in_ok-push.ensures.items
