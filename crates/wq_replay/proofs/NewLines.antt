-- The first line of some bytes, and the lines after it.
use Rattle.std.proofs.Common.{◌≡◌, ℕ, suc, ◌-◌, Bool, true, false, ◌==◌, nat_lt, if◌then◌else◌, List, [], ◌∷◌, length, take, refl, sym, ap, ◌∙◌, arith}
use Rattle.std.proofs.lemmas.Bool.{lt-ltb}
use Rattle.std.specs.Io.BufRead.{take_through, drop_through, strip_last, ends_with_byte}
use Rattle.wq_replay.specs.Line.{lines_of, put_first}

-- the first line of some bytes
abbrev pub first_line : List ℕ → List ℕ
first_line [] = []
first_line (b ∷ bs) = if b == 10 then [] else b ∷ first_line bs

-- the lines of some bytes are their first line and the lines after it
pub lines_first : (b : ℕ) (bs : List ℕ) → lines_of (b ∷ bs) ≡ first_line (b ∷ bs) ∷ lines_of (drop_through 10 (b ∷ bs))
lines_first b [] = at (b == 10)
  where
    at : (newline : Bool) → (if newline then [] ∷ [] else (b ∷ []) ∷ []) ≡ (if newline then [] else b ∷ []) ∷ lines_of (if newline then [] else [])
    at true = refl
    at false = refl
lines_first b (c ∷ bs) = at (b == 10) (lines_first c bs)
  where
    at : (newline : Bool) → lines_of (c ∷ bs) ≡ first_line (c ∷ bs) ∷ lines_of (drop_through 10 (c ∷ bs)) → (if newline then [] ∷ lines_of (c ∷ bs) else put_first b (lines_of (c ∷ bs))) ≡ (if newline then [] else b ∷ first_line (c ∷ bs)) ∷ lines_of (if newline then c ∷ bs else drop_through 10 (c ∷ bs))
    at true later = refl
    at false later = ap (put_first b) later

-- the last byte of more than one byte is the last byte of the rest
ends_later : (b c : ℕ) (xs : List ℕ) → ends_with_byte 10 (b ∷ c ∷ xs) ≡ ends_with_byte 10 (c ∷ xs)
ends_later b c xs =
    let long : nat_lt 0 (suc (suc (length xs))) ≡ true = lt-ltb _ _ (omega arith) in
    let short : nat_lt 0 (suc (length xs)) ≡ true = lt-ltb _ _ (omega arith) in
    let last : suc (suc (length xs)) - 1 ≡ suc (suc (length xs) - 1) = omega arith in
    rw (long, short, last) refl

strip_later : (b c : ℕ) (xs : List ℕ) → strip_last 10 (b ∷ c ∷ xs) ≡ b ∷ strip_last 10 (c ∷ xs)
strip_later b c xs =
    let last : suc (suc (length xs)) - 1 ≡ suc (suc (length xs) - 1) = omega arith in
    rw (ends_later b c xs, last) (at (ends_with_byte 10 (c ∷ xs)))
  where
    at : (ends : Bool) → (if ends then b ∷ take (suc (length xs) - 1) (c ∷ xs) else b ∷ c ∷ xs) ≡ b ∷ (if ends then take (suc (length xs) - 1) (c ∷ xs) else c ∷ xs)
    at true = refl
    at false = refl

strip_one : (b : ℕ) → strip_last 10 (b ∷ []) ≡ (if b == 10 then [] else b ∷ [])
strip_one b = refl

through_head : (c : ℕ) (bs : List ℕ) → take_through 10 (c ∷ bs) ≡ c ∷ (if c == 10 then [] else take_through 10 bs)
through_head c bs = at (c == 10)
  where
    at : (newline : Bool) → (if newline then c ∷ [] else c ∷ take_through 10 bs) ≡ c ∷ (if newline then [] else take_through 10 bs)
    at true = refl
    at false = refl

strip_more : (b c : ℕ) (bs : List ℕ) → strip_last 10 (take_through 10 (c ∷ bs)) ≡ first_line (c ∷ bs) → strip_last 10 (b ∷ take_through 10 (c ∷ bs)) ≡ b ∷ first_line (c ∷ bs)
strip_more b c bs later =
    ap (λ xs. strip_last 10 (b ∷ xs)) (through_head c bs)
    ∙ strip_later b c (if c == 10 then [] else take_through 10 bs)
    ∙ ap (λ xs. b ∷ strip_last 10 xs) (sym (through_head c bs))
    ∙ ap (λ xs. b ∷ xs) later

strip_if : (b : ℕ) (more line : List ℕ) (newline : Bool) → (b == 10) ≡ newline → strip_last 10 (b ∷ more) ≡ b ∷ line → strip_last 10 (if newline then b ∷ [] else b ∷ more) ≡ (if newline then [] else b ∷ line)
strip_if b more line true is later = strip_one b ∙ rw is refl
strip_if b more line false is later = later

-- the bytes that are read up to a newline are the first line, without that newline
pub strip_through : (bs : List ℕ) → strip_last 10 (take_through 10 bs) ≡ first_line bs
strip_through [] = refl
strip_through (b ∷ []) = last (b == 10) refl
  where
    last : (newline : Bool) → (b == 10) ≡ newline → strip_last 10 (if newline then b ∷ [] else b ∷ []) ≡ (if newline then [] else b ∷ [])
    last true is = strip_one b ∙ rw is refl
    last false is = strip_one b ∙ rw is refl
strip_through (b ∷ c ∷ bs) = strip_if b (take_through 10 (c ∷ bs)) (first_line (c ∷ bs)) (b == 10) refl (strip_more b c bs (strip_through (c ∷ bs)))
