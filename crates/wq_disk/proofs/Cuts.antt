-- The names that are cut out of a text one by one.
use Rattle.std.proofs.Common.{◌≡◌, ◌<◌, ◌≤◌, ◌+◌, ◌-◌, ◌==◌, ◌&&◌, ℕ, zero, suc, true, false, cond, List, [], ◌∷◌, ◌++◌, All, Option, Some, None, length, take, drop, filter, nat_le, if◌then◌else◌, refl, sym, ap, subst, ◌∙◌, arith}
use Rattle.std.specs.Option.{unwrap_or}
use Rattle.std.specs.Prelude.{slice_range}
use Rattle.std.proofs.lemmas.Bool.{eqb-true, false_from_ne_true, le-leb}
use Rattle.std.proofs.lemmas.List.{append-nil, append_assoc, drop-drop, drop_all, length-drop, map-append, take_all}
use Rattle.std.proofs.lemmas.List.Elements.{All-cons, All-nil, filter-append}
use Rattle.std.proofs.lemmas.List.Splits.{slice_split_at, slice_split_none}
use Rattle.memchr.specs.Find.{IsFirstByte, Nowhere, Passes, is_byte}
use Rattle.wq_disk.specs.declared.names.Place.{Place}
use Rattle.wq_disk.specs.Entries.{is_entry, names_of_text}
use Rattle.wq_disk.specs.Names.{name_at, names_at}

-- the bytes before the first byte 0 are other ones
none_in : (n : ℕ) (bytes : List ℕ) → Nowhere (Passes (is_byte 0) bytes) 0 n → All (λ b. (b == 0) ≡ false) (take n bytes)
none_in zero bytes none = All-nil (λ b. (b == 0) ≡ false)
none_in (suc n) [] none = All-nil (λ b. (b == 0) ≡ false)
none_in (suc n) (x ∷ xs) none =
    All-cons (λ b. (b == 0) ≡ false) x (take n xs) (false_from_ne_true _ (none 0 (omega arith) (omega arith)))
    (none_in n xs (λ k low high. none (suc k) (omega arith) (omega arith)))

-- bytes with a byte 0 are the bytes before it, that byte, and the bytes after it
at_zero : (at : ℕ) (bytes : List ℕ) → at < length bytes → Passes (is_byte 0) bytes at → bytes ≡ take at bytes ++ 0 ∷ drop (suc at) bytes
at_zero at [] within here = absurd (omega arith)
at_zero zero (x ∷ xs) within here = ap (λ b. b ∷ xs) (eqb-true x 0 here)
at_zero (suc at) (x ∷ xs) within here = ap (λ l. x ∷ l) (at_zero at xs (omega arith) here)

-- the entries of a text are the first name, if it is that of an entry, and those of the text after it
pub first_name : (rest : List ℕ) (found : Option ℕ) (n : ℕ) → IsFirstByte (is_byte 0) rest found → n ≡ unwrap_or found (length rest)
    → filter is_entry (names_of_text rest) ≡ filter is_entry (take n rest ∷ []) ++ filter is_entry (names_of_text (drop (n + 1) rest))
first_name rest None n none is =
    let all : take n rest ≡ rest = take_all n rest (omega (arith, is)) in
    let gone : drop (n + 1) rest ≡ [] = drop_all (n + 1) rest (omega (arith, is)) in
    let whole : names_of_text rest ≡ rest ∷ [] =
    slice_split_none (λ b. b == 0) rest (subst (All (λ b. (b == 0) ≡ false)) all (none_in n rest (λ k low high. none k low (omega (arith, is))))) in
    ap (filter is_entry) whole ∙ ap (λ name. filter is_entry (name ∷ [])) (sym all)
    ∙ sym (append-nil (filter is_entry (take n rest ∷ [])))
    ∙ ap (λ more. filter is_entry (take n rest ∷ []) ++ filter is_entry (names_of_text more)) (sym gone)
first_name rest (Some k) n (before, here) is =
    ap (λ text. filter is_entry (names_of_text text)) (at_zero k rest before.high here)
    ∙ ap (filter is_entry) (slice_split_at (λ b. b == 0) (take k rest) 0 (drop (suc k) rest) (none_in k rest before.before) refl)
    ∙ filter-append is_entry (take k rest ∷ []) (names_of_text (drop (suc k) rest))
    ∙ ap (λ i. filter is_entry (take i rest ∷ []) ++ filter is_entry (names_of_text (drop (suc i) rest))) (sym is)
    ∙ ap (λ i. filter is_entry (take n rest ∷ []) ++ filter is_entry (names_of_text (drop i rest))) (after n)
  where
    after : (n : ℕ) → suc n ≡ n + 1
    after n = omega arith

-- the entries of a text are those of the first name and the text after it, at a place of a longer text
name_within : (text : List ℕ) (start n : ℕ) (found : Option ℕ) → IsFirstByte (is_byte 0) (drop start text) found → n ≡ unwrap_or found (length (drop start text))
    → filter is_entry (names_of_text (drop start text)) ≡ filter is_entry (take n (drop start text) ∷ []) ++ filter is_entry (names_of_text (drop (start + n + 1) text))
name_within text start n found first is =
    first_name (drop start text) found n first is
    ∙ ap (λ more. filter is_entry (take n (drop start text) ∷ []) ++ filter is_entry (names_of_text more)) (drop-drop (n + 1) start text ∙ ap (λ i. drop i text) (along start n))
  where
    along : (a b : ℕ) → a + (b + 1) ≡ a + b + 1
    along a b = omega arith

module _ (text : List ℕ) (start n : ℕ) (found : Option ℕ) (old : List Place) (first : IsFirstByte (is_byte 0) (drop start text) found)
    (is : n ≡ unwrap_or found (length (drop start text)))
    (so_far : names_at text old ++ filter is_entry (names_of_text (drop start text)) ≡ filter is_entry (names_of_text text)) where
  -- a name that is not that of an entry is passed over
  pub passed : is_entry (take n (drop start text)) ≡ false → names_at text old ++ filter is_entry (names_of_text (drop (start + n + 1) text)) ≡ filter is_entry (names_of_text text)
  passed not_one =
      ap (λ b. names_at text old ++ (cond b (take n (drop start text) ∷ []) [] ++ filter is_entry (names_of_text (drop (start + n + 1) text)))) (sym not_one)
      ∙ ap (λ l. names_at text old ++ l) (sym (name_within text start n found first is)) ∙ so_far

  -- the name of an entry is kept
  pub kept : (place : Place) → name_at text place ≡ take n (drop start text) → is_entry (take n (drop start text)) ≡ true
      → names_at text (old ++ place ∷ []) ++ filter is_entry (names_of_text (drop (start + n + 1) text)) ≡ filter is_entry (names_of_text text)
  kept place name one =
      ap (λ l. l ++ filter is_entry (names_of_text (drop (start + n + 1) text))) (map-append (name_at text) old (place ∷ []))
      ∙ append_assoc (names_at text old) (name_at text place ∷ []) (filter is_entry (names_of_text (drop (start + n + 1) text)))
      ∙ ap (λ m. names_at text old ++ m ∷ filter is_entry (names_of_text (drop (start + n + 1) text))) name
      ∙ ap (λ b. names_at text old ++ (cond b (take n (drop start text) ∷ []) [] ++ filter is_entry (names_of_text (drop (start + n + 1) text)))) (sym one)
      ∙ ap (λ l. names_at text old ++ l) (sym (name_within text start n found first is)) ∙ so_far

-- a text from a place to its end
pub tail_of : (text : List ℕ) (start : ℕ) → take (length text - start) (drop start text) ≡ drop start text
tail_of text start = take_all (length text - start) (drop start text) (omega (arith, length-drop start text))

-- the first name is in the text
pub within : (rest : List ℕ) (found : Option ℕ) (n : ℕ) → IsFirstByte (is_byte 0) rest found → n ≡ unwrap_or found (length rest) → n ≤ length rest
within rest None n none is = omega (arith, is)
within rest (Some k) n (before, here) is = omega (arith, is, before.high)

-- the bytes between two places
pub cut_of : (text : List ℕ) (start n : ℕ) → take (start + n - start) (drop start text) ≡ take n (drop start text)
cut_of text start n = ap (λ i. take i (drop start text)) (back start n)
  where
    back : (a b : ℕ) → a + b - a ≡ b
    back a b = omega arith

-- the name at the place of a name that was cut out
pub name_there : (text : List ℕ) (place : Place) (start n : ℕ) → place.start ≡ start → place.end ≡ start + n → start < length text → n ≤ length (drop start text)
    → name_at text place ≡ take n (drop start text)
name_there text place start n at to inside short =
    let fits : (nat_le place.start place.end && nat_le place.end (length text)) ≡ true =
    (λ i. le-leb place.start place.end (omega (arith, at, to)) i && le-leb place.end (length text) (omega (arith, to, short, length-drop start text, inside)) i) in
    ap (λ b. if b then slice_range text place.start place.end else []) fits
    ∙ (λ i. slice_range text (at i) (to i)) ∙ cut_of text start n
