-- The first line of a rest and of the bytes after it.
use Rattle.std.proofs.Common.{◌≡◌, ◌<◌, ◌≤◌, ◌+◌, ◌-◌, ℕ, zero, suc, true, false, ◌||◌, ◌==◌, cond, List, [], ◌∷◌, ◌++◌, length, take, drop, Some, None, refl, sym, ap, subst, ◌∙◌, arith, add-one, length-append, length-take-le}
use Rattle.std.specs.List.{list_any}
use Rattle.std.proofs.lemmas.Bool.{eqb-true, false_from_ne_true, lt-ltb, ltb-true}
use Rattle.std.proofs.lemmas.List.{append-nil, append_assoc, take_all, take-append-drop}
use Rattle.std.proofs.lemmas.List.Folds.{list_any-append}
use Rattle.memchr.specs.Find.{Nowhere, Passes, is_byte}
use Rattle.wq_base.specs.Byte.{newline}
use Rattle.wq_stream.specs.Limit.{max_line}
use Rattle.wq_stream.specs.Line.{IsFirstLine}
use Rattle.wq_stream.specs.Stream.{IsRest, event_of, events_of, is_binary, is_last, is_long, is_newline, kept_of, last_part, parts_of, up_to_last}
use Rattle.wq_stream.specs.declared.event.Event.TheVariants.{Line, Long, Binary}
use Rattle.wq_stream.specs.declared.line.FirstLine.TheVariants.{Ends, Open, Long as TooLong}
use Rattle.wq_stream.proofs.Adding.{events_in, is_refused, line_first, refused_shown}
use Rattle.wq_stream.proofs.Parts.{last_of_more, parts_behind, parts_some}

-- the bytes before the first newline have no newline
none_in : (n : ℕ) (bytes : List ℕ) → Nowhere (Passes (is_byte 10) bytes) 0 n → list_any is_newline (take n bytes) ≡ false
none_in zero bytes none = refl
none_in (suc n) [] none = refl
none_in (suc n) (x ∷ xs) none =
    let other : (x == 10) ≡ false = false_from_ne_true _ (none 0 (omega arith) (omega arith)) in
    ap (λ b. b || list_any is_newline (take n xs)) other
    ∙ none_in n xs (λ k low high. none (suc k) (omega arith) (omega arith))

-- bytes with a newline are the bytes before it, the newline, and the bytes after it
at_newline : (at : ℕ) (bytes : List ℕ) → at < length bytes → Passes (is_byte 10) bytes at → bytes ≡ take at bytes ++ newline ∷ drop (suc at) bytes
at_newline at [] within here = absurd (omega arith)
at_newline zero (x ∷ xs) within here = ap (λ b. b ∷ xs) (eqb-true x 10 here)
at_newline (suc at) (x ∷ xs) within here = ap (λ l. x ∷ l) (at_newline at xs (omega arith) here)

-- a rest and bytes without a newline
none_joined : (rest bytes : List ℕ) → list_any is_newline rest ≡ false → list_any is_newline bytes ≡ false → list_any is_newline (rest ++ bytes) ≡ false
none_joined rest bytes one two = list_any-append is_newline rest bytes ∙ ap (λ b. b || list_any is_newline bytes) one ∙ two

-- the first byte is that of the first bytes
text_front : (front more : List ℕ) → is_binary (front ++ more) ≡ false → is_binary front ≡ false
text_front [] more text = refl
text_front (b ∷ bs) more text = text

-- bytes within the limit are not over it
not_long : (bytes : List ℕ) → length bytes ≤ max_line → is_long bytes ≡ false
not_long bytes short = false_from_ne_true _ (λ is. let long = ltb-true _ _ is in omega (arith, long, short))

-- the event of a line that is text and within the limit
line_event : (line : List ℕ) → is_binary line ≡ false → is_long line ≡ false → event_of line ≡ Line line
line_event line text short = ap (λ b. cond b Binary (cond (is_long line) Long (Line line))) text ∙ ap (λ b. cond b Long (Line line)) short

-- a line, a newline and more bytes
line_then : (line more : List ℕ) → list_any is_newline line ≡ false → parts_of (line ++ newline ∷ more) ≡ line ∷ parts_of more
line_then line more none = parts_behind line (newline ∷ more) none ∙ ap (λ l. l ∷ parts_of more) (append-nil line)

-- a line that ends
pub ends : (rest bytes : List ℕ) (at : ℕ) → IsRest rest → is_binary (rest ++ bytes) ≡ false → at < length bytes → Nowhere (Passes (is_byte 10) bytes) 0 at → Passes (is_byte 10) bytes at → at ≤ max_line - length rest → IsFirstLine rest bytes (Ends at)
ends rest bytes at is text within none here fits = (
  within,
  short,
  ap events_in split ∙ line_first line (parts_of more) (parts_some more) ∙ ap (λ e. e ∷ cond (is_last e) [] (events_of more)) event ∙ ap (λ l. Line line ∷ events_of l) same,
  ap (λ e. cond e None (Some (last_part (parts_of (rest ++ bytes))))) told ∙ ap (λ l. cond (list_any is_last (events_of more)) None (Some l)) (ap last_part split ∙ last_of_more line (parts_of more) (parts_some more)) ∙ ap kept_of same,
)
  where
    line : List ℕ
    line = rest ++ take at bytes

    more : List ℕ
    more = drop (suc at) bytes

    same : more ≡ drop (at + 1) bytes
    same = ap (λ n. drop n bytes) (sym (add-one at))

    short : length rest + at ≤ max_line
    short = let rest_fits = is.short in omega (arith, rest_fits, fits)

    long_as : length line ≡ length rest + at
    long_as = length-append rest (take at bytes) ∙ ap (λ n. length rest + n) (length-take-le at bytes (omega arith))

    whole : rest ++ bytes ≡ line ++ newline ∷ more
    whole = ap (λ l. rest ++ l) (at_newline at bytes within here) ∙ sym (append_assoc rest (take at bytes) (newline ∷ more))

    split : parts_of (rest ++ bytes) ≡ line ∷ parts_of more
    split = ap parts_of whole ∙ line_then line more (none_joined rest (take at bytes) is.one_line (none_in at bytes none))

    event : event_of line ≡ Line line
    event = line_event line (text_front line (newline ∷ more) (ap is_binary (sym whole) ∙ text)) (not_long line (subst (λ n. n ≤ max_line) (sym long_as) short))

    told : list_any is_last (events_of (rest ++ bytes)) ≡ list_any is_last (events_of more)
    told = ap (list_any is_last) (ap events_in split ∙ line_first line (parts_of more) (parts_some more) ∙ ap (λ e. e ∷ cond (is_last e) [] (events_of more)) event)

-- a line that has not ended
pub stays_open : (rest bytes : List ℕ) → IsRest rest → is_binary (rest ++ bytes) ≡ false → Nowhere (Passes (is_byte 10) bytes) 0 (length bytes) → length bytes ≤ max_line - length rest → IsFirstLine rest bytes Open
stays_open rest bytes is text none fits = (
  told,
  ap (λ e. cond (list_any is_last e) None (Some (last_part (parts_of whole)))) told ∙ ap (λ p. Some (last_part p)) one,
  record { one_line = no_newline; text = text; short = short },
)
  where
    whole : List ℕ
    whole = rest ++ bytes

    no_newline : list_any is_newline whole ≡ false
    no_newline = none_joined rest bytes is.one_line (ap (list_any is_newline) (sym (take_all (length bytes) bytes (omega arith))) ∙ none_in (length bytes) bytes none)

    short : length whole ≤ max_line
    short = let rest_fits = is.short in let joined = length-append rest bytes in omega (arith, rest_fits, fits, joined)

    one : parts_of whole ≡ whole ∷ []
    one = ap parts_of (sym (append-nil whole)) ∙ parts_behind whole [] no_newline ∙ ap (λ l. l ∷ []) (append-nil whole)

    refused : is_refused whole ≡ false
    refused = ap (λ b. b || is_long whole) text ∙ not_long whole short

    told : events_of whole ≡ []
    told = ap events_in one ∙ ap (λ b. up_to_last (cond b (event_of whole ∷ []) [])) refused

-- a line over the limit
pub too_long : (rest bytes : List ℕ) → IsRest rest → is_binary (rest ++ bytes) ≡ false → max_line - length rest < length bytes → Nowhere (Passes (is_byte 10) bytes) 0 (suc (max_line - length rest)) → IsFirstLine rest bytes TooLong
too_long rest bytes is text long none = (told, ap (λ e. cond (list_any is_last e) None (Some (last_part (parts_of (rest ++ bytes))))) told)
  where
    count : ℕ
    count = suc (max_line - length rest)

    front : List ℕ
    front = rest ++ take count bytes

    more : List ℕ
    more = drop count bytes

    whole : rest ++ bytes ≡ front ++ more
    whole = ap (λ l. rest ++ l) (sym (take-append-drop count bytes)) ∙ sym (append_assoc rest (take count bytes) more)

    is_over : is_long front ≡ true
    is_over =
        let taken : length (take count bytes) ≡ count = length-take-le count bytes (omega arith) in
        let joined = length-append rest (take count bytes) in
        let rest_fits = is.short in
        lt-ltb _ _ (omega (arith, taken, joined, rest_fits))

    front_text : is_binary front ≡ false
    front_text = text_front front more (ap is_binary (sym whole) ∙ text)

    told : events_of (rest ++ bytes) ≡ Long ∷ []
    told =
        ap events_of whole
        ∙ refused_shown front more (none_joined rest (take count bytes) is.one_line (none_in count bytes none)) (ap (λ b. b || is_long front) front_text ∙ is_over)
        ∙ ap (λ b. cond b Binary (cond (is_long front) Long (Line front)) ∷ []) front_text ∙ ap (λ b. cond b Long (Line front) ∷ []) is_over
