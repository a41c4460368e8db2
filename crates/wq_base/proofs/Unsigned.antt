-- The texts that are numbers up to a limit, and the lengths of the texts of numbers.
use Rattle.std.proofs.Common.{◌≡◌, ℕ, ◌<◌, ◌≤◌, ◌^◌, List, length, Some, None, Result, sym, ap, subst, ◌∙◌, arith}
use Rattle.std.specs.Fmt.{decimal}
use Rattle.std.specs.Result.{result_ok}
use Rattle.std.specs.Str.Parse.{digits_value, ParsesUnsigned}
use Rattle.std.proofs.lemmas.Bool.{and_parts, and_from, le-leb, leb-true, cond-true, cond-false, false_from_ne_true}
use Rattle.std.proofs.lemmas.Option.{cond_some}
use Rattle.std.proofs.lemmas.Slice.Eq.{bytes_eq-Decides}
use Rattle.std.proofs.lemmas.Fmt.{decimal_is_IsNumeral, parse-decimal, length-decimal-le}
use Rattle.wq_base.specs.Decimal.{unsigned_of}
use Rattle.wq_base.specs.Limit.{max_number}

-- a number of the protocol fits 64 bits
pub small : (n : ℕ) → n ≤ max_number → n < 2 ^ 64
small n h = omega arith

-- a number of the protocol has at most 19 digits
pub decimal_is_short : (n : ℕ) → n ≤ max_number → length (decimal n) ≤ 19
decimal_is_short n h = length-decimal-le 19 n (omega arith) (omega arith) (omega arith)

-- a text that is the decimal text of a number is that number
pub unsigned_of-decimal : (most : ℕ) (text : List ℕ) (n : ℕ) → most < 2 ^ 64 → n ≤ most
    → decimal n ≡ text → unsigned_of most text ≡ Some n
unfolding unsigned_of
unsigned_of-decimal most text n fits h e =
    let value : digits_value 10 text ≡ n = ap (digits_value 10) (sym e) ∙ (decimal_is_IsNumeral n (omega arith)).1 in
    rw value (cond-true _ _ _ (and_from _ _ (le-leb n most h) ((bytes_eq-Decides text (decimal n)).1 (sym e))))

-- a text that is the decimal text of no number is no number
pub unsigned_of-other : (most : ℕ) (text : List ℕ) → ((n : ℕ) → n ≤ most → text ≡ decimal n → ⊥)
    → unsigned_of most text ≡ None
unfolding unsigned_of
unsigned_of-other most text none = cond-false _ _ _ (false_from_ne_true _ (λ passes.
    let parts = and_parts _ _ passes in
    none (digits_value 10 text) (leb-true _ _ parts.0) ((bytes_eq-Decides text _).0 parts.1)))

-- a number's text is its decimal text
pub decimal_of : (most : ℕ) (text : List ℕ) (n : ℕ) → unsigned_of most text ≡ Some n
    → (n ≤ most) × (text ≡ decimal n)
unfolding unsigned_of
decimal_of most text n e =
    let passes = cond_some _ _ _ e in
    let parts = and_parts _ _ passes.0 in (
      subst (λ k. k ≤ most) passes.1 (leb-true _ _ parts.0),
      (bytes_eq-Decides text _).0 parts.1 ∙ ap decimal passes.1,
    )

-- a text that `parse` does not read is no number
pub unsigned_of-unread : {E : Type 0} (most : ℕ) (text : List ℕ) (r : Result ℕ E) → most < 2 ^ 64
    → ParsesUnsigned 64 10 text r → result_ok r ≡ None → unsigned_of most text ≡ None
unsigned_of-unread most text r fits parses unread = unsigned_of-other most text (λ n h e.
    let low : n < 2 ^ 64 = omega arith in
    let read : result_ok r ≡ Some n = ap result_ok (parse-decimal 64 n text r low low e parses) in cc)

-- a text is no number if `parse` reads a number that is too large or has another text
pub unsigned_of-refused : {E : Type 0} (most : ℕ) (text : List ℕ) (r : Result ℕ E) (n : ℕ) → most < 2 ^ 64
    → ParsesUnsigned 64 10 text r → result_ok r ≡ Some n
    → (n ≤ most → decimal n ≡ text → ⊥) → unsigned_of most text ≡ None
unsigned_of-refused most text r n fits parses is refused = unsigned_of-other most text (λ m h e.
    let low : m < 2 ^ 64 = omega arith in
    let read : result_ok r ≡ Some m = ap result_ok (parse-decimal 64 m text r low low e parses) in
    let same : m ≡ n = cc in
    refused (subst (λ k. k ≤ most) same h) (ap decimal (sym same) ∙ sym e))
