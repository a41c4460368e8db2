-- The parts of a stream, and those of a stream with a piece after it.
use Rattle.std.proofs.Common.{◌≡◌, ℕ, Bool, true, false, ◌||◌, cond, List, [], ◌∷◌, ◌++◌, refl, sym, ap, ◌∙◌}
use Rattle.std.specs.List.{list_any, onto_first}
use Rattle.std.proofs.lemmas.Bool.{true≢false}
use Rattle.std.proofs.lemmas.List.Splits.{slice_split-cons_no}
use Rattle.wq_stream.specs.Stream.{is_newline, last_part, parts_of}

-- some parts are a first one and later ones
abbrev pub IsSome : List (List ℕ) → Type 0
IsSome parts = (first : List ℕ) × (later : List (List ℕ)) × (parts ≡ first ∷ later)

-- a stream has a first part
pub parts_some : (stream : List ℕ) → IsSome (parts_of stream)
parts_some [] = ([], [], refl)
parts_some (b ∷ bs) = at (is_newline b) (parts_some bs)
  where
    at : (newline : Bool) → IsSome (parts_of bs) → IsSome (cond newline ([] ∷ parts_of bs) (onto_first b (parts_of bs)))
    at true some = ([], parts_of bs, refl)
    at false (first, later, is) = (b ∷ first, later, ap (onto_first b) is)

-- the parts with a piece after the last one
abbrev pub on_last : List (List ℕ) → List ℕ → List (List ℕ)
on_last [] piece = parts_of piece
on_last (rest ∷ []) piece = parts_of (rest ++ piece)
on_last (line ∷ next ∷ parts) piece = line ∷ on_last (next ∷ parts) piece

-- there is a first part then
pub on_last_some : (parts : List (List ℕ)) (piece : List ℕ) → IsSome (on_last parts piece)
on_last_some [] piece = parts_some piece
on_last_some (rest ∷ []) piece = parts_some (rest ++ piece)
on_last_some (line ∷ next ∷ parts) piece = (line, on_last (next ∷ parts) piece, refl)

-- a byte that is no newline, before the first of some parts
byte_before : (b : ℕ) (first : List ℕ) (later : List (List ℕ)) (piece : List ℕ) → is_newline b ≡ false → onto_first b (on_last (first ∷ later) piece) ≡ on_last ((b ∷ first) ∷ later) piece
byte_before b first [] piece is = sym (slice_split-cons_no is_newline b (first ++ piece) is)
byte_before b first (next ∷ parts) piece is = refl

-- a piece after a stream continues its last part
pub parts_then : (stream piece : List ℕ) → parts_of (stream ++ piece) ≡ on_last (parts_of stream) piece
parts_then [] piece = refl
parts_then (b ∷ bs) piece = at (is_newline b) refl (parts_some bs) (parts_then bs piece)
  where
    at : (newline : Bool) → is_newline b ≡ newline → IsSome (parts_of bs) → parts_of (bs ++ piece) ≡ on_last (parts_of bs) piece
        → cond newline ([] ∷ parts_of (bs ++ piece)) (onto_first b (parts_of (bs ++ piece)))
        ≡ on_last (cond newline ([] ∷ parts_of bs) (onto_first b (parts_of bs))) piece
    at true is (first, later, some) later_is =
        ap (λ parts. [] ∷ parts) (later_is ∙ ap (λ parts. on_last parts piece) some)
        ∙ ap (λ parts. on_last ([] ∷ parts) piece) (sym some)
    at false is (first, later, some) later_is =
        ap (onto_first b) (later_is ∙ ap (λ parts. on_last parts piece) some)
        ∙ byte_before b first later piece is
        ∙ ap (λ parts. on_last (onto_first b parts) piece) (sym some)

-- the first of some parts is put after some bytes
abbrev pub behind : List ℕ → List (List ℕ) → List (List ℕ)
behind bytes [] = bytes ∷ []
behind bytes (first ∷ later) = (bytes ++ first) ∷ later

-- bytes without a newline belong to the first part of the bytes after them
pub parts_behind : (bytes piece : List ℕ) → list_any is_newline bytes ≡ false → parts_of (bytes ++ piece) ≡ behind bytes (parts_of piece)
parts_behind [] piece none = at (parts_some piece)
  where
    at : IsSome (parts_of piece) → parts_of piece ≡ behind [] (parts_of piece)
    at (first, later, is) = is ∙ ap (behind []) (sym is)
parts_behind (b ∷ bs) piece none = at (is_newline b) refl none (parts_some piece) (parts_behind bs piece)
  where
    at : (newline : Bool) → is_newline b ≡ newline → (newline || list_any is_newline bs) ≡ false → IsSome (parts_of piece) → (list_any is_newline bs ≡ false → parts_of (bs ++ piece) ≡ behind bs (parts_of piece))
        → cond newline ([] ∷ parts_of (bs ++ piece)) (onto_first b (parts_of (bs ++ piece))) ≡ behind (b ∷ bs) (parts_of piece)
    at true is none some later_is = absurd (true≢false none)
    at false is none (first, later, some) later_is =
        ap (onto_first b) (later_is none ∙ ap (behind bs) some) ∙ ap (behind (b ∷ bs)) (sym some)

-- the last part has no newline
pub last_is_line : (stream : List ℕ) → list_any is_newline (last_part (parts_of stream)) ≡ false
last_is_line [] = refl
last_is_line (b ∷ bs) = at (is_newline b) refl (parts_some bs) (last_is_line bs)
  where
    byte_first : (first : List ℕ) (later : List (List ℕ)) → is_newline b ≡ false → list_any is_newline (last_part (first ∷ later)) ≡ false → list_any is_newline (last_part ((b ∷ first) ∷ later)) ≡ false
    byte_first first [] is none = rw is none
    byte_first first (next ∷ parts) is none = none

    at : (newline : Bool) → is_newline b ≡ newline → IsSome (parts_of bs) → list_any is_newline (last_part (parts_of bs)) ≡ false → list_any is_newline (last_part (cond newline ([] ∷ parts_of bs) (onto_first b (parts_of bs)))) ≡ false
    at true is (first, later, some) none =
        ap (λ parts. list_any is_newline (last_part ([] ∷ parts))) some ∙ ap (λ parts. list_any is_newline (last_part parts)) (sym some) ∙ none
    at false is (first, later, some) none =
        ap (λ parts. list_any is_newline (last_part (onto_first b parts))) some
        ∙ byte_first first later is (ap (λ parts. list_any is_newline (last_part parts)) (sym some) ∙ none)

-- the last part does not depend on those before it
pub last_of_more : (line : List ℕ) (parts : List (List ℕ)) → IsSome parts → last_part (line ∷ parts) ≡ last_part parts
last_of_more line parts (first, later, some) = ap (λ l. last_part (line ∷ l)) some ∙ ap last_part (sym some)

-- the bytes after the last newline, with a piece after them
pub last_then : (parts : List (List ℕ)) (piece : List ℕ) → last_part (on_last parts piece) ≡ last_part (parts_of (last_part parts ++ piece))
last_then [] piece = refl
last_then (rest ∷ []) piece = refl
last_then (line ∷ next ∷ parts) piece =
    last_of_more line (on_last (next ∷ parts) piece) (on_last_some (next ∷ parts) piece) ∙ last_then (next ∷ parts) piece
