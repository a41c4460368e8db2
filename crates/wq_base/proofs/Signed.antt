-- The texts that are numbers of a script.
use Rattle.std.proofs.Common.{◌≡◌, ℕ, ℤ, pos, negsuc, ◌^◌, true, false, List, Some, None, Ok, Err, FitsSigned, w64, refl, sym, subst}
use Rattle.std.specs.Fmt.{signed_decimal}
use Rattle.std.specs.Str.{IsUtf8, bytes_eq}
use Rattle.std.specs.Str.Parse.{signed_digits_value, ParsesSigned}
use Rattle.std.proofs.lemmas.Bool.{and_parts, and_from, lt-ltb, ltb-true, cond-true, cond-false, false_from_ne_true, and_right}
use Rattle.std.proofs.lemmas.Slice.Eq.{bytes_eq-Decides}
use Rattle.std.proofs.lemmas.Str.{IsUtf8-from_ascii}
use Rattle.std.proofs.lemmas.Fmt.{parse-signed_decimal}
use Rattle.itoa.proofs.Decimal.{IsAscii-signed_decimal}
use Rattle.wq_base.specs.Decimal.{is_word, signed_of}

from_fits : (z : ℤ) → FitsSigned w64 z → is_word z ≡ true
from_fits (pos n) h = lt-ltb n (2 ^ 63) h.sfits
from_fits (negsuc n) h = lt-ltb n (2 ^ 63) h.sfits

to_fits : (z : ℤ) → is_word z ≡ true → FitsSigned w64 z
to_fits (pos n) h = record { sfits = ltb-true n (2 ^ 63) h }
to_fits (negsuc n) h = record { sfits = ltb-true n (2 ^ 63) h }

-- `parse` reads the decimal text of each number that fits
reads : {E : Type 0} (text : List ℕ) (z : ℤ) (e : E) → FitsSigned w64 z → text ≡ signed_decimal z → ParsesSigned w64 10 text (Err e) → ⊥
reads {E} text z e fits is parses =
    let read : Err e ≡ Ok z = parse-signed_decimal w64 z text (Err e) fits fits.sfits is parses in
    cc

-- a text that is the decimal text of no number that fits is no number
pub no_number : (text : List ℕ) → ((z : ℤ) → FitsSigned w64 z → text ≡ signed_decimal z → ⊥) → signed_of text ≡ None
unfolding signed_of
no_number text none = cond-false _ _ _ (false_from_ne_true _ (λ passes.
    let parts = and_parts _ _ passes in
    none (signed_digits_value 10 text) (to_fits _ parts.0) ((bytes_eq-Decides text _).0 parts.1)))

-- bytes that are no text are no number
pub not_text : (text : List ℕ) → (IsUtf8 text → ⊥) → signed_of text ≡ None
not_text text isnt = no_number text (λ z fits is. isnt (subst IsUtf8 (sym is) (IsUtf8-from_ascii _ (IsAscii-signed_decimal z fits))))

-- a text that `parse` does not read is no number
pub not_read : {E : Type 0} (text : List ℕ) (e : E) → ParsesSigned w64 10 text (Err e) → signed_of text ≡ None
not_read text e parses = no_number text (λ z fits is. reads text z e fits is parses)

-- the number that `parse` reads is that of the text, if the text is its decimal text
pub is_number : (text : List ℕ) (z : ℤ) → FitsSigned w64 z → z ≡ signed_digits_value 10 text → text ≡ signed_decimal z → signed_of text ≡ Some z
unfolding signed_of
is_number text z fits is same = rw (← is) (cond-true _ _ _ (and_from _ _ (from_fits z fits) ((bytes_eq-Decides text (signed_decimal z)).1 same)))

-- a text is no number if `parse` reads a number with another text
pub other_text : (text : List ℕ) (z : ℤ) → z ≡ signed_digits_value 10 text → (text ≡ signed_decimal z → ⊥) → signed_of text ≡ None
unfolding signed_of
other_text text z is isnt =
    let other : bytes_eq text (signed_decimal z) ≡ false = false_from_ne_true _ (λ same. isnt ((bytes_eq-Decides text (signed_decimal z)).0 same)) in
    rw (← is, other, and_right (is_word z) false refl) refl
