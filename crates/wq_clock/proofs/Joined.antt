-- Texts of numbers with colons between them, and their parts.
use Rattle.std.proofs.Common.{◌≡◌, ℕ, ◌≤◌, false, List, [], ◌∷◌, map, Some, None, Option, refl, sym, ap, subst, ◌∙◌, arith}
use Rattle.std.specs.Fmt.{decimal}
use Rattle.std.specs.List.{All, AllByRecursion, slice_split, join_with_byte}
use Rattle.std.proofs.lemmas.List.Splits.{slice_split_at, slice_split_none, join_with_byte-slice_split}
use Rattle.std.proofs.lemmas.List.Elements.{All-from_get_or}
use Rattle.std.proofs.lemmas.Fmt.{decimal_is_IsNumeral}
use Rattle.std.proofs.lemmas.Str.Parse.{digit_at}
use Rattle.std.proofs.lemmas.Bool.{ne_eqb}
use Rattle.std.proofs.lemmas.Option.{same_Some}
use Rattle.wq_base.specs.Limit.{max_number}
use Rattle.wq_base.specs.Byte.{is_colon}
use Rattle.wq_base.specs.Fault.{with_first}
use Rattle.wq_base.specs.Decimal.{unsigned_of}
use Rattle.wq_clock.specs.ClockSpec.{numbers_of}
use Rattle.wq_base.proofs.Unsigned.{small, decimal_of}
use Rattle.wq_base.proofs.Unsigned.{unsigned_of-decimal}

-- each of the numbers may be one of a clock id
abbrev pub AllInRange : List ℕ → Type 0
AllInRange ns = AllByRecursion (λ n. n ≤ max_number) ns

-- no digit is a colon
no_colon : (n : ℕ) → n ≤ max_number → All (λ byte. is_colon byte ≡ false) (decimal n)
no_colon n h = All-from_get_or (λ byte. is_colon byte ≡ false) (decimal n) 0 (λ i within.
    let digit = digit_at (decimal n) i (decimal_is_IsNumeral n (small n h)).0.1 within in
    ne_eqb _ _ (λ e. absurd (omega (arith, digit, e))))

-- numbers with colons between them have their texts as parts
pub slice_split-join : (first : ℕ) (ns : List ℕ) → AllInRange (first ∷ ns)
    → slice_split is_colon (join_with_byte 58 (map decimal (first ∷ ns))) ≡ map decimal (first ∷ ns)
slice_split-join first [] h = slice_split_none _ (decimal first) (no_colon first h.0)
slice_split-join first (n ∷ ns) h =
    slice_split_at _ (decimal first) 58 _ (no_colon first h.0) refl
    ∙ ap (λ parts. decimal first ∷ parts) (slice_split-join n ns h.1)

-- the texts of numbers are these numbers
pub numbers_of-map : (ns : List ℕ) → AllInRange ns → numbers_of (map decimal ns) ≡ Some ns
numbers_of-map [] h = refl
numbers_of-map (n ∷ ns) h = rw (unsigned_of-decimal max_number (decimal n) n (omega arith) h.0 refl, numbers_of-map ns h.1)

-- the numbers of a first part and of the other parts
parts_first : (o : Option ℕ) (os : Option (List ℕ)) (part : List ℕ) (parts : List (List ℕ)) (ns : List ℕ) → with_first o os ≡ Some ns
    → ((n : ℕ) → o ≡ Some n → (n ≤ max_number) × (part ≡ decimal n))
    → ((ms : List ℕ) → os ≡ Some ms → AllInRange ms × (parts ≡ map decimal ms))
    → AllInRange ns × ((part ∷ parts) ≡ map decimal ns)
parts_first None os part parts ns e first others = cc
parts_first (Some n) None part parts ns e first others = cc
parts_first (Some n) (Some ms) part parts ns e first others =
    let front = first n refl in
    let rest = others ms refl in
    subst (λ xs. AllInRange xs × ((part ∷ parts) ≡ map decimal xs)) (same_Some _ _ e)
    ((front.0, rest.0), ap (λ p. p ∷ parts) front.1 ∙ ap (λ ps. decimal n ∷ ps) rest.1)

-- if all parts are numbers, the parts are the texts of these numbers
pub parts_are_decimals : (parts : List (List ℕ)) (ns : List ℕ) → numbers_of parts ≡ Some ns
    → AllInRange ns × (parts ≡ map decimal ns)
parts_are_decimals [] ns e = subst (λ xs. AllInRange xs × ([] ≡ map decimal xs)) (same_Some _ _ e) (tt, refl)
parts_are_decimals (part ∷ parts) ns e =
    parts_first (unsigned_of max_number part) (numbers_of parts) part parts ns e (decimal_of max_number part) (parts_are_decimals parts)

-- a text whose parts are numbers has these numbers with colons between them
pub text_from_numbers : (text ns : List ℕ) → numbers_of (slice_split is_colon text) ≡ Some ns
    → AllInRange ns × (text ≡ join_with_byte 58 (map decimal ns))
text_from_numbers text ns e =
    let parts = parts_are_decimals _ ns e in
    (parts.0, sym (join_with_byte-slice_split 58 text) ∙ ap (join_with_byte 58) parts.1)
