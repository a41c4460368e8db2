-- The part after the last dot of a basename, if the last dot or slash of a name is known.
use Rattle.std.proofs.Common.{◌≡◌, ℕ, zero, suc, ◌+◌, ◌-◌, ◌<◌, Bool, true, false, not, List, [], ◌∷◌, ◌++◌, length, drop, take, refl, sym, ap, ◌∙◌, arith}
use Rattle.std.specs.Prelude.{slice_index}
use Rattle.std.specs.List.{after_last, list_any, suffix_len}
use Rattle.std.proofs.lemmas.Bool.{eqb-true, or_parts, false_from_ne_true, or_right}
use Rattle.std.proofs.lemmas.List.{reverse-append, drop-append-le, take-append-drop, append_assoc, append-nil, length-append}
use Rattle.std.proofs.lemmas.List.Sums.{suffix_len-le-length}
use Rattle.std.proofs.lemmas.List.Folds.{list_any-append}
use Rattle.std.proofs.Math.Seq.{drop-cons, drop-length}
use Rattle.std.specs.Str.{byte}
use Rattle.memchr.specs.Find.{NoneAfter, Nowhere, Passes, is_byte2}
use Rattle.wq_base.specs.Byte.{is_slash, is_dot}
use Rattle.wq_base.specs.Name.{basename_of, suffix_of}

-- bytes that all fail a test are counted first
tail_counts : (p : ℕ → Bool) (front tail : List ℕ) → list_any p tail ≡ false
    → suffix_len (λ x. not (p x)) (front ++ tail) ≡ length tail + suffix_len (λ x. not (p x)) front
tail_counts p front [] none =
    let e : 0 + suffix_len (λ x. not (p x)) front ≡ suffix_len (λ x. not (p x)) front = omega
    arith in
    rw (append-nil front, e) refl
tail_counts p front (x ∷ tail) none =
    let parts = or_parts (p x) (list_any p tail) none in
    let last : suffix_len (λ x. not (p x)) (front ++ x ∷ []) ≡ 1 + suffix_len (λ x. not (p x))
    front =
    rw (reverse-append front (x ∷ []), parts.0) refl in
    let more = tail_counts p (front ++ x ∷ []) tail parts.1 in
    let here = append_assoc front (x ∷ []) tail in
    rw here at more ∙ omega (arith, last)

-- these bytes are also after the last byte that passes
after_last-front : (p : ℕ → Bool) (front tail : List ℕ) → list_any p tail ≡ false
    → after_last p (front ++ tail) ≡ after_last p front ++ tail
after_last-front p front tail none =
    let s = suffix_len (λ x. not (p x)) front in
    let low = suffix_len-le-length (λ x. not (p x)) front in
    let count : length (front ++ tail) - suffix_len (λ x. not (p x)) (front ++ tail) ≡ length
    front - s =
    omega (arith, tail_counts p front tail none, length-append front tail, low) in
    rw count (drop-append-le (length front - s) front tail (omega arith))

-- the part after a byte that passes, if no later byte does
after_last-here : (p : ℕ → Bool) (front tail : List ℕ) (x : ℕ) → p x ≡ true
    → list_any p tail ≡ false
    → after_last p (front ++ x ∷ tail) ≡ tail
after_last-here p front tail x here none =
    let last : suffix_len (λ x. not (p x)) (front ++ x ∷ []) ≡ 0 = rw
    (reverse-append front (x ∷ []), here) refl in
    let all = front ++ x ∷ [] in
    let e : length all - 0 ≡ length all = omega arith in
    let gone : after_last p (front ++ x ∷ []) ≡ [] = rw (last, e) (drop-length (front ++ x ∷ [])) in
    let parts = after_last-front p (front ++ x ∷ []) tail none in
    rw (append_assoc front (x ∷ []) tail, gone) at parts

-- if no byte passes, it is the whole text
after_last-none : (p : ℕ → Bool) (xs : List ℕ) → list_any p xs ≡ false → after_last p xs ≡ xs
after_last-none p xs none = after_last-front p [] xs none

-- the bytes from a place on, none of which passes
rest_fails : (test : ℕ → Bool) (bytes : List ℕ) (n : ℕ)
    → Nowhere (Passes test bytes) n (length bytes)
    → list_any test (drop n bytes) ≡ false
rest_fails test [] zero none = refl
rest_fails test [] (suc n) none = refl
rest_fails test (b ∷ bytes) zero none =
    rw (false_from_ne_true (test b) (none 0 (omega arith) (omega arith)))
    (rest_fails test bytes zero (λ k low high. none (suc k) (omega arith) (omega arith)))
rest_fails test (b ∷ bytes) (suc n) none =
    rest_fails test bytes n (λ k low high. none (suc k) (omega arith) (omega arith))

-- a byte that is neither a dot nor a slash is neither of them
no_dot : (bytes : List ℕ) → list_any (is_byte2 (byte ".") (byte "/")) bytes ≡ false
    → list_any is_dot bytes ≡ false
no_dot [] none = refl
no_dot (b ∷ bytes) none =
    let parts = or_parts (is_byte2 (byte ".") (byte "/") b)
    (list_any (is_byte2 (byte ".") (byte "/")) bytes) none in
    rw ((or_parts (is_dot b) (is_slash b) parts.0).0) (no_dot bytes parts.1)

no_slash : (bytes : List ℕ) → list_any (is_byte2 (byte ".") (byte "/")) bytes ≡ false
    → list_any is_slash bytes ≡ false
no_slash [] none = refl
no_slash (b ∷ bytes) none =
    let parts = or_parts (is_byte2 (byte ".") (byte "/") b)
    (list_any (is_byte2 (byte ".") (byte "/")) bytes) none in
    rw ((or_parts (is_dot b) (is_slash b) parts.0).1) (no_slash bytes parts.1)

-- a byte at a place joins the bytes before it and the bytes after it
parted : (name : List ℕ) (at : ℕ) → at < length name
    → take at name ++ slice_index name at ∷ drop (at + 1) name ≡ name
parted name at inside =
    let e : at + 1 ≡ suc at = omega arith in
    rw (e, sym (drop-cons name at 0 inside)) (take-append-drop at name)

-- if neither a dot nor a slash is there, there is no suffix
pub no_suffix : (name : List ℕ)
    → Nowhere (Passes (is_byte2 (byte ".") (byte "/")) name) 0 (length name) → suffix_of name ≡ []
no_suffix name none =
    let all = rest_fails (is_byte2 (byte ".") (byte "/")) name 0 none in
    rw (after_last-none is_slash name (no_slash name all), no_dot name all) refl

-- a dot is no slash
not_slash : (x : ℕ) → is_dot x ≡ true → is_slash x ≡ false
not_slash x dot = let e : x ≡ byte "." = eqb-true x (byte ".") dot in rw e refl

-- the other one of two
is_other : (x : ℕ) → is_byte2 (byte ".") (byte "/") x ≡ true → is_dot x ≡ false → is_slash x ≡ true
is_other x either other = rw other at either

-- the bytes after a dot
from_dot : (front rest : List ℕ) (x : ℕ) → is_dot x ≡ true → list_any is_dot rest ≡ false
    → list_any is_slash rest ≡ false
    → suffix_of (front ++ x ∷ rest) ≡ rest
from_dot front rest x dot dots slashes =
    let behind : list_any is_slash (x ∷ rest) ≡ false = rw (not_slash x dot, slashes) refl in
    let base = after_last-front is_slash front (x ∷ rest) behind in
    let some : list_any is_dot (basename_of front ++ x ∷ rest) ≡ true =
    list_any-append is_dot (basename_of front) (x ∷ rest) ∙ rw dot
    (or_right (list_any is_dot (basename_of front)) true refl) in
    rw (base, some) (after_last-here is_dot (basename_of front) rest x dot dots)

-- the bytes after a slash
from_slash : (front rest : List ℕ) (x : ℕ) → is_slash x ≡ true → list_any is_dot rest ≡ false
    → list_any is_slash rest ≡ false
    → suffix_of (front ++ x ∷ rest) ≡ []
from_slash front rest x slash dots slashes =
    rw (after_last-here is_slash front rest x slash slashes, dots) refl

-- if the last dot or slash is a dot, the suffix is the part after it
pub suffix_after : (name : List ℕ) (at : ℕ)
    → NoneAfter (Passes (is_byte2 (byte ".") (byte "/")) name) 0 (length name) at
    → slice_index name at ≡ byte "."
    → drop (at + 1) name ≡ suffix_of name
suffix_after name at place is =
    let dot : is_dot (slice_index name at) ≡ true = rw is refl in
    let all = rest_fails (is_byte2 (byte ".") (byte "/")) name (at + 1) place.after in
    let rest = drop (at + 1) name in
    sym (from_dot (take at name) rest (slice_index name at) dot (no_dot rest all)
    (no_slash rest all))
    ∙ ap suffix_of (parted name at place.high)

-- if the last dot or slash is a slash, there is no suffix
pub no_suffix_after : (name : List ℕ) (at : ℕ)
    → NoneAfter (Passes (is_byte2 (byte ".") (byte "/")) name) 0 (length name) at
    → Passes (is_byte2 (byte ".") (byte "/")) name at → (slice_index name at ≡ byte "." → ⊥)
    → suffix_of name ≡ []
no_suffix_after name at place here isnt =
    let other = false_from_ne_true (is_dot (slice_index name at))
    (λ dot. isnt (eqb-true (slice_index name at) (byte ".") dot)) in
    let all = rest_fails (is_byte2 (byte ".") (byte "/")) name (at + 1) place.after in
    let rest = drop (at + 1) name in
    ap suffix_of (sym (parted name at place.high))
    ∙ from_slash (take at name) rest (slice_index name at)
    (is_other (slice_index name at) here other) (no_dot rest all) (no_slash rest all)
