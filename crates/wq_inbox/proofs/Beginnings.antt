-- Beginnings of one list.
use Rattle.std.proofs.Common.{◌≡◌, ◌≤◌, ℕ, zero, suc, List, [], ◌∷◌, ◌++◌, length, take, refl, ap, sym, ◌∙◌, arith, append_assoc, length-append}
use mathlib.Core.List.{IsPrefix}

-- a beginning as long as the whole is the whole
pub prefix_whole : {A : Type 0} (xs ys : List A) → IsPrefix xs ys → length ys ≤ length xs → xs ≡ ys
prefix_whole [] [] p le = refl
prefix_whole [] (y ∷ ys) p le = absurd (omega arith)
prefix_whole (x ∷ xs) [] p le = absurd (cc (p.1))
prefix_whole (x ∷ xs) (y ∷ ys) p le =
    let rest = prefix_whole xs ys (p.0, cc (p.1)) (omega arith) in cc (p.1, rest)

-- two beginnings of one list have the same first elements
pub same_first : {A : Type 0} (xs ys zs : List A) → IsPrefix xs zs → IsPrefix ys zs → (n : ℕ) → n ≤ length xs → n ≤ length ys → take n xs ≡ take n ys
same_first xs ys zs p q zero in_xs in_ys = refl
same_first [] ys zs p q (suc n) in_xs in_ys = absurd (omega arith)
same_first (x ∷ xs) [] zs p q (suc n) in_xs in_ys = absurd (omega arith)
same_first (x ∷ xs) (y ∷ ys) [] p q (suc n) in_xs in_ys = absurd (cc (p.1))
same_first (x ∷ xs) (y ∷ ys) (z ∷ zs) p q (suc n) in_xs in_ys =
    let heads : x ≡ y = cc (p.1, q.1) in
    let rest = same_first xs ys zs (p.0, cc (p.1)) (q.0, cc (q.1)) n (omega arith) (omega arith) in
    cc (heads, rest)

-- two beginnings of one list that are as long are the same
pub same_whole : {A : Type 0} (xs ys zs : List A) → IsPrefix xs zs → IsPrefix ys zs → length xs ≡ length ys → xs ≡ ys
same_whole [] [] zs p q is = refl
same_whole [] (y ∷ ys) zs p q is = absurd (omega arith)
same_whole (x ∷ xs) [] zs p q is = absurd (omega arith)
same_whole (x ∷ xs) (y ∷ ys) [] p q is = absurd (cc (p.1))
same_whole (x ∷ xs) (y ∷ ys) (z ∷ zs) p q is =
    let heads : x ≡ y = cc (p.1, q.1) in
    let rest = same_whole xs ys zs (p.0, cc (p.1)) (q.0, cc (q.1)) (omega arith) in
    cc (heads, rest)

-- the first elements begin the list
pub take_prefix : {A : Type 0} (n : ℕ) (xs : List A) → IsPrefix (take n xs) xs
take_prefix zero xs = (xs, refl)
take_prefix (suc n) [] = ([], refl)
take_prefix (suc n) (x ∷ xs) = let r = take_prefix n xs in (r.0, ap (λ ys. x ∷ ys) r.1)

pub prefix_trans : {A : Type 0} (xs ys zs : List A) → IsPrefix xs ys → IsPrefix ys zs → IsPrefix xs zs
prefix_trans xs ys zs p q = (p.0 ++ q.0, sym (append_assoc xs p.0 q.0) ∙ (ap (λ w. w ++ q.0) p.1 ∙ q.1))
