-- The numbers of the parts of a text, one part after another.
use Rattle.std.proofs.Common.{◌≡◌, ℕ, ◌<◌, zero, suc, List, [], ◌∷◌, ◌++◌, length, get_or, Option, Some, None, refl, sym, ap, ◌∙◌, arith}
use Rattle.std.specs.Option.{option_and_then}
use Rattle.std.proofs.lemmas.Option.{same_Some}
use Rattle.wq_base.specs.Fault.{with_first}
use Rattle.wq_base.specs.Limit.{max_number}
use Rattle.wq_base.specs.Decimal.{unsigned_of}
use Rattle.wq_clock.specs.ClockSpec.{numbers_of, id_from_numbers}

-- one more number at the end, after a first number
push_first : (o : Option ℕ) (os more : Option (List ℕ)) (ns : List ℕ) (n : ℕ) → with_first o os ≡ Some ns
    → ((ms : List ℕ) → os ≡ Some ms → more ≡ Some (ms ++ n ∷ [])) → with_first o more ≡ Some (ns ++ n ∷ [])
push_first None os more ns n e then' = cc
push_first (Some m) None more ns n e then' = cc
push_first (Some m) (Some ms) more ns n e then' =
    ap (with_first (Some m)) (then' ms refl) ∙ ap (λ xs. Some (xs ++ n ∷ [])) (same_Some _ _ e)

-- one more part that is a number
pub numbers_of-push : (parts : List (List ℕ)) (part : List ℕ) (ns : List ℕ) (n : ℕ)
    → numbers_of parts ≡ Some ns → unsigned_of max_number part ≡ Some n
    → numbers_of (parts ++ part ∷ []) ≡ Some (ns ++ n ∷ [])
numbers_of-push [] part ns n e is =
    ap (λ o. with_first o (Some [])) is ∙ ap (λ xs. Some (xs ++ n ∷ [])) (same_Some _ _ e)
numbers_of-push (first ∷ parts) part ns n e is =
    push_first (unsigned_of max_number first) (numbers_of parts) _ ns n e (λ ms e'. numbers_of-push parts part ms n e' is)

-- no numbers, for any first part
with_first-none : (o : Option ℕ) → with_first o None ≡ None
with_first-none None = refl
with_first-none (Some n) = refl

-- a part that is no number
pub numbers_of-bad : (parts : List (List ℕ)) (i : ℕ) (part : List ℕ) → i < length parts
    → part ≡ get_or parts i part → unsigned_of max_number part ≡ None
    → numbers_of parts ≡ None
numbers_of-bad [] i part within is bad = absurd (omega arith)
numbers_of-bad (first ∷ parts) zero part within is bad =
    ap (λ o. with_first o (numbers_of parts)) (ap (unsigned_of max_number) (sym is) ∙ bad)
numbers_of-bad (first ∷ parts) (suc i) part within is bad =
    ap (with_first (unsigned_of max_number first)) (numbers_of-bad parts i part (omega arith) is bad)
    ∙ with_first-none (unsigned_of max_number first)

-- one more number than without the first
length_first : (o : Option ℕ) (os : Option (List ℕ)) (ns : List ℕ) (k : ℕ) → with_first o os ≡ Some ns
    → ((ms : List ℕ) → os ≡ Some ms → length ms ≡ k) → length ns ≡ suc k
length_first None os ns k e then' = cc
length_first (Some m) None ns k e then' = cc
length_first (Some m) (Some ms) ns k e then' = ap length (sym (same_Some _ _ e)) ∙ ap suc (then' ms refl)

-- there are as many numbers as parts
pub length-numbers_of : (parts : List (List ℕ)) (ns : List ℕ) → numbers_of parts ≡ Some ns
    → length ns ≡ length parts
length-numbers_of [] ns e = ap length (sym (same_Some _ _ e))
length-numbers_of (part ∷ parts) ns e =
    length_first (unsigned_of max_number part) (numbers_of parts) ns (length parts) e (length-numbers_of parts)

-- five numbers or more are no clock id
id_from_numbers-long : (ns : List ℕ) → 4 < length ns → id_from_numbers ns ≡ None
id_from_numbers-long [] long = absurd (omega arith)
id_from_numbers-long (a ∷ []) long = refl
id_from_numbers-long (a ∷ b ∷ []) long = absurd (omega arith)
id_from_numbers-long (a ∷ b ∷ c ∷ []) long = refl
id_from_numbers-long (a ∷ b ∷ c ∷ d ∷ []) long = absurd (omega arith)
id_from_numbers-long (a ∷ b ∷ c ∷ d ∷ e ∷ ns) long = refl

-- five parts or more, if they are all numbers or not
long_id : (os : Option (List ℕ)) (k : ℕ) → 4 < k → ((ns : List ℕ) → os ≡ Some ns → length ns ≡ k)
    → option_and_then id_from_numbers os ≡ None
long_id None k long count = refl
long_id (Some ns) k long count = id_from_numbers-long ns (omega (arith, count ns refl))

-- five parts or more are no clock id
pub id-long : (parts : List (List ℕ)) → 4 < length parts
    → option_and_then id_from_numbers (numbers_of parts) ≡ None
id-long parts long = long_id (numbers_of parts) (length parts) long (length-numbers_of parts)
