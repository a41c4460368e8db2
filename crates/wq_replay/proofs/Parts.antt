-- The first line of some bytes is taken part by part.
use Rattle.std.proofs.Common.{◌≡◌, ℕ, zero, suc, ◌+◌, ◌-◌, ◌<◌, ◌≤◌, Bool, true, false, ◌||◌, ◌==◌, nat_lt, if◌then◌else◌, List, [], ◌∷◌, ◌++◌, length, min, take, drop, Option, Some, None, IfSome, refl, sym, ap, subst, ◌∙◌, arith, inl, inr}
use Rattle.std.proofs.lemmas.List.{append-nil, append_assoc, append_cancel_left, drop_at, length-append, take_all, take_min}
use Rattle.std.proofs.lemmas.Bool.{eq-eqb, eqb-false, eqb-true, ltb-true, ltb-false, false_from_ne_true}
use Rattle.std.specs.Io.{StartsWith}
use Rattle.std.specs.Io.KnownBytes.{Consumes, Keeps}
use Rattle.std.specs.Io.BufRead.{take_through, drop_through, strip_last}
use Rattle.std.proofs.KnownBytes.{starts_with_rest}
use Rattle.memchr.specs.Find.{NoneBefore, Nowhere, Passes, is_byte}
use Rattle.wq_replay.specs.Limit.{max_script_line}
use Rattle.wq_replay.specs.Line.{lines_of}
use Rattle.wq_replay.specs.Taken.{BeginsWith, TakesLine, TakesPart, is_last_line, kept_line, max_kept, stops_within}
use Rattle.wq_replay.proofs.NewLines.{first_line, lines_first, strip_through}

-- the kept part of some bytes, and of the bytes after them
pub kept_then : (room : ℕ) (shown tail : List ℕ) → kept_line room (shown ++ tail) ≡ kept_line room shown ++ (if stops_within room shown then [] else kept_line (room - length (kept_line room shown)) (drop (length (kept_line room shown)) (shown ++ tail)))
kept_then zero shown tail = refl
kept_then (suc room) [] tail = let same : suc room - 0 ≡ suc room = omega arith in rw same refl
kept_then (suc room) (x ∷ xs) tail = at (x == 10) (kept_then room xs tail)
  where
    part : List ℕ
    part = kept_line room xs

    at : (newline : Bool) → kept_line room (xs ++ tail) ≡ part ++ (if stops_within room xs then [] else kept_line (room - length part) (drop (length part) (xs ++ tail)))
        → (if newline then x ∷ [] else x ∷ kept_line room (xs ++ tail))
        ≡ (if newline then x ∷ [] else x ∷ part) ++ (if newline || stops_within room xs then [] else kept_line (suc room - length (if newline then x ∷ [] else x ∷ part)) (drop (length (if newline then x ∷ [] else x ∷ part)) (x ∷ xs ++ tail)))
    at true later = refl
    at false later = let left : suc room - suc (length part) ≡ room - length part = omega arith in rw left (ap (λ l. x ∷ l) later)

-- it is a front of them, and no longer than its room
pub kept_front : (room : ℕ) (bytes : List ℕ) → take (length (kept_line room bytes)) bytes ≡ kept_line room bytes
kept_front zero bytes = refl
kept_front (suc room) [] = refl
kept_front (suc room) (x ∷ xs) = at (x == 10) (kept_front room xs)
  where
    at : (newline : Bool) → take (length (kept_line room xs)) xs ≡ kept_line room xs → take (length (if newline then x ∷ [] else x ∷ kept_line room xs)) (x ∷ xs) ≡ (if newline then x ∷ [] else x ∷ kept_line room xs)
    at true later = refl
    at false later = ap (λ l. x ∷ l) later

-- the kept part is no longer than its room
pub kept_short : (room : ℕ) (bytes : List ℕ) → length (kept_line room bytes) ≤ room
kept_short zero bytes = omega arith
kept_short (suc room) [] = omega arith
kept_short (suc room) (x ∷ xs) = at (x == 10) (kept_short room xs)
  where
    at : (newline : Bool) → length (kept_line room xs) ≤ room → length (if newline then x ∷ [] else x ∷ kept_line room xs) ≤ suc room
    at true later = omega arith
    at false later = omega arith

-- and no longer than the bytes
pub kept_within : (room : ℕ) (bytes : List ℕ) → length (kept_line room bytes) ≤ length bytes
kept_within zero bytes = omega arith
kept_within (suc room) [] = omega arith
kept_within (suc room) (x ∷ xs) = at (x == 10) (kept_within room xs)
  where
    at : (newline : Bool) → length (kept_line room xs) ≤ length xs → length (if newline then x ∷ [] else x ∷ kept_line room xs) ≤ suc (length xs)
    at true later = omega arith
    at false later = omega arith

-- a newline within the room ends it, and it stops there
pub newline_here : (room at : ℕ) (bytes : List ℕ) → at < length (take room bytes) → Nowhere (Passes (is_byte 10) (take room bytes)) 0 at → Passes (is_byte 10) (take room bytes) at → (length (kept_line room bytes) ≡ suc at) × (stops_within room bytes ≡ true)
newline_here zero at bytes h before here = absurd (omega arith)
newline_here (suc room) at [] h before here = absurd (omega arith)
newline_here (suc room) zero (x ∷ xs) h before here = rw here (refl, refl)
newline_here (suc room) (suc at) (x ∷ xs) h before here =
    let other : (x == 10) ≡ false = false_from_ne_true _ (before 0 (omega arith) (omega arith)) in
    let later = newline_here room at xs (omega arith) (λ k low high. before (suc k) (omega arith) (omega arith)) here in
    rw other (ap suc later.0, later.1)

same_later : (a b : ℕ) (same : Bool) → (a == b) ≡ same → same ≡ (suc a == suc b)
same_later a b true is = sym (eq-eqb (suc a) (suc b) (ap suc (eqb-true a b is)))
same_later a b false is = sym (false_from_ne_true _ (λ h. let later : suc a ≡ suc b = eqb-true _ _ h in eqb-false a b is (omega (arith, later))))

-- without a newline it is all that there is room for, and it stops if it fills its room
pub no_newline : (room : ℕ) (bytes : List ℕ) → Nowhere (Passes (is_byte 10) (take room bytes)) 0 (length (take room bytes)) → (length (kept_line room bytes) ≡ length (take room bytes)) × (stops_within room bytes ≡ (length (take room bytes) == room))
no_newline zero bytes none = (refl, refl)
no_newline (suc room) [] none = (refl, sym (false_from_ne_true _ (λ same. let h : 0 ≡ suc room = eqb-true _ _ same in absurd (omega (arith, h)))))
no_newline (suc room) (x ∷ xs) none =
    let other : (x == 10) ≡ false = false_from_ne_true _ (none 0 (omega arith) (omega arith)) in
    let later = no_newline room xs (λ k low high. none (suc k) (omega arith) (omega arith)) in
    rw other (ap suc later.0, later.1 ∙ same_later (length (take room xs)) room _ refl)

kept_none : (room : ℕ) → kept_line room [] ≡ []
kept_none zero = refl
kept_none (suc room) = refl

-- the bytes that are searched, cut at the room or at the end
cut_at : (n room : ℕ) (bytes : List ℕ) → n ≡ min room (length bytes) → take n bytes ≡ take room bytes
cut_at n room bytes is = ap (λ k. take k bytes) is ∙ take_min room bytes

-- if a newline is found, the kept part ends with it
pub newline_in : (n room at : ℕ) (bytes : List ℕ) → n ≡ min room (length bytes) → NoneBefore (Passes (is_byte 10) (take n bytes)) 0 (length (take n bytes)) at → Passes (is_byte 10) (take n bytes) at → (at + 1 ≡ length (kept_line room bytes)) × (true ≡ is_last_line room bytes)
newline_in n room at bytes is first here =
    let same = cut_at n room bytes is in
    let found = newline_here room at bytes (subst (λ l. at < length l) same first.high) (subst (λ l. Nowhere (Passes (is_byte 10) l) 0 at) same first.before) (subst (λ l. Passes (is_byte 10) l at) same here) in
    let next : at + 1 ≡ suc at = omega arith in
    (next ∙ sym found.0, rw (found.1) refl)

-- if none is found, all that was searched is kept
pub none_in : (n room : ℕ) (bytes : List ℕ) → n ≡ min room (length bytes) → Nowhere (Passes (is_byte 10) (take n bytes)) 0 (length (take n bytes)) → (length (take n bytes) ≡ length (kept_line room bytes)) × ((length (take n bytes) == room || length bytes == 0) ≡ is_last_line room bytes)
none_in n room bytes is none =
    let same = cut_at n room bytes is in
    let found = no_newline room bytes (subst (λ l. Nowhere (Passes (is_byte 10) l) 0 (length l)) same none) in
    (ap length same ∙ sym found.0, rw (same, found.1) refl)

-- the kept part of all the bytes that a reader has, and of those that it shows
kept_shown : (room : ℕ) (bytes part left shown : List ℕ) (stop : Bool) → StartsWith bytes shown → bytes ≡ part ++ left → part ≡ kept_line room shown → stop ≡ stops_within room shown → kept_line room bytes ≡ part ++ (if stop then [] else kept_line (room - length part) left)
kept_shown room bytes part left shown stop front split took stopped =
    let whole = starts_with_rest bytes shown front in
    let behind : drop (length part) bytes ≡ left = ap (drop (length part)) split ∙ drop_at part left (length part) refl in
    let then_left = kept_then room shown (drop (length shown) bytes) in
    rw (took, stopped) (subst (λ all. kept_line room all ≡ kept_line room shown ++ (if stops_within room shown then [] else kept_line (room - length (kept_line room shown)) (drop (length (kept_line room shown)) all))) (sym whole) then_left ∙ ap (λ l. kept_line room shown ++ (if stops_within room shown then [] else kept_line (room - length (kept_line room shown)) l)) (subst (λ p. drop (length p) bytes ≡ left) took behind))

room_left : (n most more : ℕ) → most - (n + more) ≡ (most - n) - more
room_left n most more = omega arith

-- a part that a reader shows is taken
taken_as : (bytes before part left : List ℕ) (room : ℕ) (stop empty last : Bool) → room ≡ max_kept - length before → bytes ≡ part ++ left
    → kept_line room bytes ≡ part ++ (if stop then [] else kept_line (room - length part) left) → (empty ≡ true → kept_line room bytes ≡ part) → last ≡ (stop || empty)
    → TakesPart bytes before last (before ++ part) (Some left)
taken_as bytes before part left room true empty last is split all ends lasts =
    rw lasts (left, refl, ap (λ l. before ++ l) split ∙ sym (append_assoc before part left), ap (λ r. before ++ kept_line r bytes) (sym is) ∙ ap (λ l. before ++ l) (all ∙ append-nil part))
taken_as bytes before part left room false true last is split all ends lasts =
    rw lasts (left, refl, ap (λ l. before ++ l) split ∙ sym (append_assoc before part left), ap (λ r. before ++ kept_line r bytes) (sym is) ∙ ap (λ l. before ++ l) (ends refl))
taken_as bytes before part left room false false last is split all ends lasts =
    let rest : max_kept - length (before ++ part) ≡ room - length part = ap (λ n. max_kept - n) (length-append before part) ∙ room_left (length before) max_kept (length part) ∙ ap (λ r. r - length part) (sym is) in
    rw (lasts, rest) (left, refl, ap (λ l. before ++ l) split ∙ sym (append_assoc before part left), ap (λ r. before ++ kept_line r bytes) (sym is) ∙ ap (λ l. before ++ l) all ∙ sym (append_assoc before part (kept_line (room - length part) left)))

-- the bytes that a reader showed are taken as far as they are kept
pub part_taken : (known rest : Option (List ℕ)) (before after shown : List ℕ) (count : ℕ) (last : Bool) → Consumes known rest (take count shown)
    → IfSome known (λ bytes. StartsWith bytes shown) → IfSome known (λ bytes. length shown ≡ 0 → bytes ≡ []) → count ≡ length (kept_line (max_kept - length before) shown) → last ≡ is_last_line (max_kept - length before) shown → after ≡ before ++ take count shown
    → IfSome known (λ bytes. TakesPart bytes before last after rest)
part_taken None rest before after shown count last took front end counted lasts is = tt
part_taken (Some bytes) None before after shown count last took front end counted lasts is = absurd took
part_taken (Some bytes) (Some left) before after shown count last took front end counted lasts is =
    let room = max_kept - length before in
    let part : take count shown ≡ kept_line room shown = ap (λ n. take n shown) counted ∙ kept_front room shown in
    let all = kept_shown room bytes (take count shown) left shown (stops_within room shown) front took part refl in
    let ends : (length shown == 0) ≡ true → kept_line room bytes ≡ take count shown = λ none.
    let nothing : shown ≡ [] = no_more shown (eqb-true _ _ none) in
    ap (kept_line room) (end (eqb-true _ _ none)) ∙ kept_none room ∙ sym (part ∙ ap (kept_line room) nothing ∙ kept_none room) in
    subst (λ a. TakesPart bytes before last a (Some left)) (sym is) (taken_as bytes before (take count shown) left room (stops_within room shown) (length shown == 0) last refl took all ends lasts)
  where
    no_more : (xs : List ℕ) → length xs ≡ 0 → xs ≡ []
    no_more [] h = refl
    no_more (x ∷ xs) h = absurd (omega (arith, h))

room_fills : (n most more : ℕ) → n ≤ most → more ≤ most - n → n + more ≤ most
room_fills n most more fits short = omega arith

-- and the buffer stays within its limit
pub part_fits : (before after shown : List ℕ) (count : ℕ) → length before ≤ max_kept → count ≡ length (kept_line (max_kept - length before) shown) → after ≡ before ++ take count shown → length after ≤ max_kept
part_fits before after shown count fits counted is =
    let part : take count shown ≡ kept_line (max_kept - length before) shown = ap (λ n. take n shown) counted ∙ kept_front (max_kept - length before) shown in
    subst (λ n. n ≤ max_kept) (sym (ap length is ∙ length-append before (take count shown) ∙ ap (λ l. length before + length l) part)) (room_fills (length before) max_kept _ fits (kept_short (max_kept - length before) shown))

-- as many bytes are taken as are shown, or fewer
pub count_within : (before shown : List ℕ) (count : ℕ) → count ≡ length (kept_line (max_kept - length before) shown) → count ≤ length shown
count_within before shown count counted = subst (λ n. n ≤ length shown) (sym counted) (kept_within (max_kept - length before) shown)

-- nothing was taken
pub none_taken : (known rest : Option (List ℕ)) (before : List ℕ) → Keeps known rest → IfSome known (λ bytes. TakesPart bytes before false before rest)
none_taken None rest before kept = tt
none_taken (Some bytes) None before kept = absurd kept
none_taken (Some bytes) (Some left) before same = (left, refl, ap (λ l. before ++ l) (sym same), ap (λ l. before ++ kept_line (max_kept - length before) l) (sym same))

-- the parts that are taken one after the other
pub taken_on : (bytes mid after : List ℕ) (last : Bool) (known rest : Option (List ℕ)) → TakesPart bytes [] false mid known → IfSome known (λ left. TakesPart left mid last after rest) → TakesPart bytes [] last after rest
taken_on bytes mid after true known rest (left, is, bytes_are, kept_is) later =
    let last = subst (λ k. IfSome k (λ left. TakesPart left mid true after rest)) is later in
    (last.0, last.1, bytes_are ∙ last.2, kept_is ∙ last.3)
taken_on bytes mid after false known rest (left, is, bytes_are, kept_is) later =
    let last = subst (λ k. IfSome k (λ left. TakesPart left mid false after rest)) is later in
    (last.0, last.1, bytes_are ∙ last.2, kept_is ∙ last.3)

-- the first line of a front is a front of the first line
first_take : (n : ℕ) (bytes : List ℕ) → first_line (take n bytes) ≡ take n (first_line bytes)
first_take zero bytes = refl
first_take (suc n) [] = refl
first_take (suc n) (x ∷ xs) = at (x == 10) (first_take n xs)
  where
    at : (newline : Bool) → first_line (take n xs) ≡ take n (first_line xs) → (if newline then [] else x ∷ first_line (take n xs)) ≡ take (suc n) (if newline then [] else x ∷ first_line xs)
    at true later = refl
    at false later = ap (λ l. x ∷ l) later

-- if there is room for the first line and its newline, these are kept
kept_whole : (n : ℕ) (bytes : List ℕ) → length (first_line bytes) < n → kept_line n bytes ≡ take_through 10 bytes
kept_whole zero bytes h = absurd (omega arith)
kept_whole (suc n) [] h = refl
kept_whole (suc n) (x ∷ xs) h = at (x == 10) h (kept_whole n xs)
  where
    at : (newline : Bool) → length (if newline then [] else x ∷ first_line xs) < suc n → (length (first_line xs) < n → kept_line n xs ≡ take_through 10 xs) → (if newline then x ∷ [] else x ∷ kept_line n xs) ≡ (if newline then x ∷ [] else x ∷ take_through 10 xs)
    at true h later = refl
    at false h later = ap (λ l. x ∷ l) (later (omega arith))

-- the first line with its newline, and the bytes after it
through_then : (bytes : List ℕ) → bytes ≡ take_through 10 bytes ++ drop_through 10 bytes
through_then [] = refl
through_then (x ∷ xs) = at (x == 10) (through_then xs)
  where
    at : (newline : Bool) → xs ≡ take_through 10 xs ++ drop_through 10 xs → x ∷ xs ≡ (if newline then x ∷ [] else x ∷ take_through 10 xs) ++ (if newline then xs else drop_through 10 xs)
    at true later = refl
    at false later = ap (λ l. x ∷ l) later

take_long : (k n : ℕ) (xs : List ℕ) → k < n → k < length xs → k < length (take n xs)
take_long k zero xs h long = absurd (omega arith)
take_long k (suc n) [] h long = absurd (omega arith)
take_long zero (suc n) (x ∷ xs) h long = omega arith
take_long (suc k) (suc n) (x ∷ xs) h long = let later = take_long k n xs (omega arith) (omega arith) in omega (arith, later)

le_then_lt : (a b c : ℕ) → a ≤ b → b < c → a < c
le_then_lt a b c first second = omega arith

lt_then_le : (a b : ℕ) → a < b → a ≤ b
lt_then_le a b h = omega arith

some_room : (a b : ℕ) → a < b → 0 < b
some_room a b h = omega arith

one_more : (n : ℕ) → n < n + 1
one_more n = omega arith

all_room : (n : ℕ) → n - 0 ≡ n
all_room n = omega arith

-- a buffer that holds the kept part begins with the first line, or both are over the limit
begins : (room b : ℕ) (bs buffer line left : List ℕ) (over : Bool) → max_script_line < room → kept_line room (b ∷ bs) ≡ buffer → line ≡ strip_last 10 buffer → b ∷ bs ≡ buffer ++ left → nat_lt max_script_line (length (first_line (b ∷ bs))) ≡ over → BeginsWith (b ∷ bs) line left
begins room b bs buffer line left over fits holds stripped split is =
    at over is
  where
    first : List ℕ
    first = first_line (b ∷ bs)

    line_is : line ≡ take room first
    line_is = stripped ∙ ap (strip_last 10) (sym holds) ∙ strip_through (take room (b ∷ bs)) ∙ first_take room (b ∷ bs)

    at : (over : Bool) → nat_lt max_script_line (length first) ≡ over → BeginsWith (b ∷ bs) line left
    at true is =
        let long = ltb-true _ _ is in
        inr (subst (λ l. max_script_line < length l) (sym line_is) (take_long _ _ first fits long), first, lines_of (drop_through 10 (b ∷ bs)), lines_first b bs, long)
    at false is =
        let short : length first < room = le_then_lt _ _ _ (ltb-false _ _ is) fits in
        let whole : buffer ≡ take_through 10 (b ∷ bs) = sym holds ∙ kept_whole room (b ∷ bs) short in
        let same : line ≡ first = line_is ∙ take_all room first (lt_then_le _ _ short) in
        let behind : left ≡ drop_through 10 (b ∷ bs) = append_cancel_left (take_through 10 (b ∷ bs)) left (drop_through 10 (b ∷ bs)) (ap (λ l. l ++ left) (sym whole) ∙ sym split ∙ through_then (b ∷ bs)) in
        inl (lines_first b bs ∙ ap (λ l. l ∷ lines_of (drop_through 10 (b ∷ bs))) (sym same) ∙ ap (λ l. line ∷ lines_of l) (sym behind))

kept_some : (room b : ℕ) (bs : List ℕ) → 0 < room → 0 < length (kept_line room (b ∷ bs))
kept_some zero b bs h = absurd (omega arith)
kept_some (suc room) b bs h = at (b == 10)
  where
    at : (newline : Bool) → 0 < length (if newline then b ∷ [] else b ∷ kept_line room bs)
    at true = omega arith
    at false = omega arith

room_for_more : max_script_line < max_kept - 0
room_for_more = subst (λ n. max_script_line < n) (sym (all_room max_kept)) (one_more max_script_line)

none_taken_of_some : (n : ℕ) → 0 ≡ n → 0 < n → ⊥
none_taken_of_some n none some = omega arith

-- the bytes that are taken of some bytes take their first line
pub line_taken : (known rest : Option (List ℕ)) (taken : ℕ) (buffer line : List ℕ) → IfSome known (λ bytes. TakesPart bytes [] true buffer rest) → taken ≡ length buffer → line ≡ strip_last 10 buffer → IfSome known (λ bytes. TakesLine bytes taken line rest)
line_taken None rest taken buffer line took count stripped = tt
line_taken (Some []) rest taken buffer line (left, is, split, holds) count stripped =
    let nothing : buffer ≡ [] = sym holds ∙ kept_none (max_kept - 0) in
    let none : taken ≡ 0 = count ∙ ap length nothing in
    let ended : [] ≡ left = split ∙ ap (λ bs. bs ++ left) nothing in
    rw none (refl, is ∙ ap Some (sym ended))
line_taken (Some (b ∷ bs)) rest zero buffer line (left, is, split, holds) count stripped =
    absurd (none_taken_of_some (length buffer) (count) (subst (λ l. 0 < length l) holds (kept_some (max_kept - 0) b bs (some_room _ _ room_for_more))))
line_taken (Some (b ∷ bs)) rest (suc taken) buffer line (left, is, split, holds) count stripped = (
  left,
  is,
  ap length split ∙ length-append buffer left ∙ ap (λ n. n + length left) (sym count),
  begins (max_kept - 0) b bs buffer line left _ room_for_more holds stripped split refl,
)

-- at the start nothing is taken
pub empty_fits : (line : List ℕ) → line ≡ [] → length line ≤ max_kept
empty_fits line is = subst (λ l. length l ≤ max_kept) (sym is) (zero_fits max_kept)
  where
    zero_fits : (n : ℕ) → 0 ≤ n
    zero_fits n = omega arith

-- before its first part nothing of a line was taken
pub first_part : (known : Option (List ℕ)) (line : List ℕ) → line ≡ [] → IfSome known (λ bytes. TakesPart bytes [] false line known)
first_part None line is = tt
first_part (Some bytes) line is = subst (λ l. TakesPart bytes [] false l (Some bytes)) (sym is) (bytes, refl, refl, refl)

-- a part is taken after others
pub next_part : (script known rest : Option (List ℕ)) (mid after : List ℕ) (last as_said : Bool) → last ≡ as_said → IfSome script (λ bytes. TakesPart bytes [] false mid known) → IfSome known (λ bytes. TakesPart bytes mid last after rest) → IfSome script (λ bytes. TakesPart bytes [] as_said after rest)
next_part None known rest mid after last as_said said before part = tt
next_part (Some bytes) known rest mid after last as_said said before part = subst (λ b. TakesPart bytes [] b after rest) said (taken_on bytes mid after last known rest before part)
