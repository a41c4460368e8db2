-- A text is its part without the slashes at its end, and then those slashes.
use Rattle.std.proofs.Common.{◌≡◌, ℕ, zero, suc, ◌+◌, ◌-◌, Bool, true, false, cond, List, [], ◌∷◌, one-add}
use Rattle.std.proofs.Common.{◌++◌}
use Rattle.std.proofs.Common.{length, take, drop, refl, sym, ap, ◌∙◌, arith, subst}
use Rattle.std.specs.Prelude.{codes, reverse}
use Rattle.std.specs.Str.{byte}
use Rattle.std.specs.List.{repeat, prefix_len, suffix_len}
use Rattle.std.proofs.Math.Seq.{take-append_seam}
use Rattle.std.proofs.lemmas.Bool.{eqb-true}
use Rattle.std.proofs.lemmas.List.{reverse-append, reverse-reverse, take-append-drop, length-append}
use Rattle.std.proofs.lemmas.Str.{IsUtf8-nil, IsUtf8-append, IsUtf8-encode, IsCharBoundary-at_seam}
use Rattle.std.specs.Str.{IsUtf8, IsCharBoundary}
use Rattle.wq_base.specs.Byte.{is_slash}
use Rattle.wq_term.specs.Text.{without_end_slashes}

-- slashes, as many as this
abbrev pub slashes : ℕ → List ℕ
slashes n = repeat n (codes "/")

-- one more may be at either end
snoc : (n : ℕ) → slashes n ++ (byte "/" ∷ []) ≡ byte "/" ∷ slashes n
snoc zero = refl
snoc (suc n) = ap (λ bs. byte "/" ∷ bs) (snoc n)

-- they read the same from their end
turned : (n : ℕ) → reverse (slashes n) ≡ slashes n
turned zero = refl
turned (suc n) =
    reverse-append (codes "/") (slashes n) ∙ ap (λ bs. bs ++ (byte "/" ∷ [])) (turned n) ∙ snoc n

-- the slashes that a text begins with
prefix : (bs : List ℕ) → take (prefix_len is_slash bs) bs ≡ slashes (prefix_len is_slash bs)
prefix [] = refl
prefix (b ∷ bs) = at (is_slash b) (eqb-true b (byte "/")) (prefix bs)
  where
    at : (s : Bool) → (s ≡ true → b ≡ byte "/")
        → take (prefix_len is_slash bs) bs ≡ slashes (prefix_len is_slash bs)
        → take (cond s (1 + prefix_len is_slash bs) 0) (b ∷ bs)
        ≡ slashes (cond s (1 + prefix_len is_slash bs) 0)
    at true is rest =
        rw (one-add (prefix_len is_slash bs)) (ap (λ x. x ∷ take (prefix_len is_slash bs) bs) (is refl) ∙ ap (λ cs. byte "/" ∷ cs) rest)
    at false is rest = refl

-- after them there is no slash
behind : (bs : List ℕ) → prefix_len is_slash (drop (prefix_len is_slash bs) bs) ≡ 0
behind [] = refl
behind (b ∷ bs) = at (is_slash b) refl (behind bs)
  where
    at : (s : Bool) → is_slash b ≡ s → prefix_len is_slash (drop (prefix_len is_slash bs) bs) ≡ 0
        → prefix_len is_slash (drop (cond s (1 + prefix_len is_slash bs) 0) (b ∷ bs)) ≡ 0
    at true is rest = rw (one-add (prefix_len is_slash bs)) rest
    at false is rest = ap (λ s. cond s (1 + prefix_len is_slash bs) 0) is

-- slashes before a text count
counted : (n : ℕ) (bs : List ℕ) → prefix_len is_slash (slashes n ++ bs) ≡ n + prefix_len is_slash bs
counted zero bs = omega arith
counted (suc n) bs = let rest = counted n bs in omega (arith, rest)

length_slashes : (n : ℕ) → length (slashes n) ≡ n
length_slashes zero = refl
length_slashes (suc n) = ap suc (length_slashes n)

-- they are characters
plain : (n : ℕ) → IsUtf8 (slashes n)
unfolding lib.Utf8.encode
plain zero = IsUtf8-nil
plain (suc n) = IsUtf8-append (codes "/") (slashes n) (IsUtf8-encode (byte "/") refl) (plain n)

-- a text, cut before the slashes at its end
cut : (text : List ℕ)
    → (text ≡ reverse (drop (suffix_len is_slash text) (reverse text)) ++ slashes (suffix_len is_slash text))
cut text =
    let bs = reverse text in
    let n = prefix_len is_slash bs in
    sym (reverse-reverse text) ∙ ap reverse (sym (take-append-drop n bs))
    ∙ reverse-append (take n bs) (drop n bs)
    ∙ ap (λ s. reverse (drop n bs) ++ s) (ap reverse (prefix bs) ∙ turned n)

-- dropping as many slashes as were added leaves the directory
left : (dir : List ℕ) (n : ℕ) → suffix_len is_slash (dir ++ slashes n) ≡ n
    → without_end_slashes (dir ++ slashes n) ≡ dir
left dir n is =
    let long : length (dir ++ slashes n) ≡ length dir + n = length-append dir (slashes n) ∙ ap (λ k. length dir + k) (length_slashes n) in
    let rest : length (dir ++ slashes n) - suffix_len is_slash (dir ++ slashes n) ≡ length dir = omega (arith, long, is) in
    ap (λ k. take k (dir ++ slashes n)) rest ∙ take-append_seam dir (slashes n)

-- a directory without slashes at its end is left when added ones are dropped
pub drops : (dir : List ℕ) (n : ℕ) → suffix_len is_slash dir ≡ 0
    → without_end_slashes (dir ++ slashes n) ≡ dir
drops dir n none =
    left dir n (ap (prefix_len is_slash) (reverse-append dir (slashes n) ∙ ap (λ s. s ++ reverse dir) (turned n))
    ∙ counted n (reverse dir) ∙ (let sum : n + suffix_len is_slash dir ≡ n = omega (arith, none) in sum))

-- and each text is such a directory with such slashes
pub dropped : (text dir : List ℕ) → without_end_slashes text ≡ dir
    → (suffix_len is_slash dir ≡ 0) × ((n : ℕ) × (text ≡ dir ++ slashes n))
dropped text dir e =
    let n = suffix_len is_slash text in
    let front = reverse (drop n (reverse text)) in
    let whole : text ≡ front ++ slashes n = cut text in
    let same : without_end_slashes text ≡ front =
    ap without_end_slashes whole ∙ left front n (ap (suffix_len is_slash) (sym whole)) in
    let none : suffix_len is_slash front ≡ 0 =
    ap (prefix_len is_slash) (reverse-reverse (drop n (reverse text))) ∙ behind (reverse text) in
    let is : front ≡ dir = sym same ∙ e in
    (subst (λ f. suffix_len is_slash f ≡ 0) is none, (n, subst (λ f. text ≡ f ++ slashes n) is whole))

-- it may be cut there
pub seam : (text : List ℕ) → IsCharBoundary text (length text - suffix_len is_slash text)
seam text =
    let n = suffix_len is_slash text in
    let front = reverse (drop n (reverse text)) in
    let whole : text ≡ front ++ slashes n = cut text in
    let long : length text ≡ length front + n =
    ap length whole ∙ length-append front (slashes n) ∙ ap (λ k. length front + k) (length_slashes n) in
    let rest : length front ≡ length text - n = omega (arith, long) in
    subst (IsCharBoundary text) rest (IsCharBoundary-at_seam text front (slashes n) whole (plain n))
