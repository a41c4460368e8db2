-- The events that a piece adds to those of a stream.
use Rattle.std.proofs.Common.{◌≡◌, ℕ, Bool, true, false, ◌||◌, ◌==◌, cond, List, [], ◌∷◌, ◌++◌, Option, Some, None, refl, sym, ap, ◌∙◌, arith, length-append}
use Rattle.std.specs.List.{concat, list_any}
use Rattle.std.proofs.lemmas.Bool.{true≢false, lt-ltb, ltb-true}
use Rattle.std.proofs.lemmas.List.{append-nil, append_assoc, append_cancel_left}
use Rattle.std.proofs.lemmas.Option.{none-some, same_Some}
use Rattle.std.proofs.lemmas.List.Folds.{list_any-append}
use Rattle.wq_stream.specs.Law.{AddInTurn}
use Rattle.wq_stream.specs.Stream.{Adds, event_of, events_of, is_binary, is_last, is_long, is_newline, kept_of, last_part, part_events, parts_of, up_to_last}
use Rattle.wq_stream.specs.declared.event.Event.{Event}
use Rattle.wq_stream.specs.declared.event.Event.TheVariants.{Line, Long, Binary}
use Rattle.wq_stream.proofs.Parts.{IsSome, behind, last_is_line, last_then, on_last, on_last_some, parts_behind, parts_some, parts_then}

-- the bytes of a line that show its event
abbrev pub is_refused : List ℕ → Bool
is_refused bytes = is_binary bytes || is_long bytes

-- no event follows the event of a line exactly if the bytes of the line show it
refused_last : (line : List ℕ) → is_last (event_of line) ≡ is_refused line
refused_last line = at (is_binary line) (is_long line)
  where
    at : (binary long : Bool) → is_last (cond binary Binary (cond long Long (Line line))) ≡ (binary || long)
    at true long = refl
    at false true = refl
    at false false = refl

long_stays : (first : ℕ) (bytes more : List ℕ) → is_long (first ∷ bytes) ≡ true → is_long (first ∷ bytes ++ more) ≡ true
long_stays first bytes more is =
    let long = ltb-true _ _ is in
    let joined = length-append bytes more in
    lt-ltb _ _ (omega (arith, long, joined))

-- the event of a line stays the same, whatever bytes follow
pub refused_stays : (bytes more : List ℕ) → is_refused bytes ≡ true → (is_refused (bytes ++ more) ≡ true) × (event_of (bytes ++ more) ≡ event_of bytes)
refused_stays [] more is = absurd (true≢false (sym is))
refused_stays (first ∷ bytes) more is = at (first == 0) is
  where
    at : (binary : Bool) → (binary || is_long (first ∷ bytes)) ≡ true → ((binary || is_long (first ∷ bytes ++ more)) ≡ true) × (cond binary Binary (cond (is_long (first ∷ bytes ++ more)) Long (Line (first ∷ bytes ++ more))) ≡ cond binary Binary (cond (is_long (first ∷ bytes)) Long (Line (first ∷ bytes))))
    at true is = (refl, refl)
    at false is =
        let long = long_stays first bytes more is in
        (long, ap (λ b. cond b Long (Line (first ∷ bytes ++ more))) long ∙ sym (ap (λ b. cond b Long (Line (first ∷ bytes))) is))

-- the events of some parts, up to the last
abbrev pub events_in : List (List ℕ) → List Event
events_in parts = up_to_last (part_events parts)

-- a first part that shows its event is the only one with an event
pub refused_first : (line : List ℕ) (later : List (List ℕ)) → is_refused line ≡ true → events_in (line ∷ later) ≡ event_of line ∷ []
refused_first line [] is =
    ap (λ b. up_to_last (cond b (event_of line ∷ []) [])) is ∙ ap (λ b. event_of line ∷ cond b [] []) (refused_last line ∙ is)
refused_first line (next ∷ parts) is = ap (λ b. event_of line ∷ cond b [] (events_in (next ∷ parts))) (refused_last line ∙ is)

-- bytes of a line that show its event, whatever follows
pub refused_shown : (bytes more : List ℕ) → list_any is_newline bytes ≡ false → is_refused bytes ≡ true → events_of (bytes ++ more) ≡ event_of bytes ∷ []
refused_shown bytes more none is = at (parts_some more)
  where
    at : IsSome (parts_of more) → events_of (bytes ++ more) ≡ event_of bytes ∷ []
    at (first, later, some) =
        let stays = refused_stays bytes first is in
        ap events_in (parts_behind bytes more none ∙ ap (behind bytes) some)
        ∙ refused_first (bytes ++ first) later stays.0 ∙ ap (λ e. e ∷ []) stays.1

-- a line before some parts
pub line_first : (line : List ℕ) (parts : List (List ℕ)) → IsSome parts → events_in (line ∷ parts) ≡ event_of line ∷ cond (is_last (event_of line)) [] (events_in parts)
line_first line parts (first, later, some) =
    ap (λ p. events_in (line ∷ p)) some ∙ ap (λ p. event_of line ∷ cond (is_last (event_of line)) [] (events_in p)) (sym some)

-- the events after some events: none, if no event follows those
abbrev pub unless_last : List Event → List Event → List Event
unless_last told events = cond (list_any is_last told) [] events

-- the events that a piece after some parts adds
adds_parts : (parts : List (List ℕ)) (piece : List ℕ) → list_any is_newline (last_part parts) ≡ false → events_in (on_last parts piece) ≡ events_in parts ++ unless_last (events_in parts) (events_of (last_part parts ++ piece))
adds_parts [] piece none = refl
adds_parts (rest ∷ []) piece none = at (is_refused rest) refl
  where
    at : (refused : Bool) → is_refused rest ≡ refused → events_of (rest ++ piece) ≡ up_to_last (cond refused (event_of rest ∷ []) []) ++ unless_last (up_to_last (cond refused (event_of rest ∷ []) [])) (events_of (rest ++ piece))
    at false is = refl
    at true is =
        refused_shown rest piece none is
        ∙ sym (ap (λ b. (event_of rest ∷ cond b [] []) ++ cond (b || list_any is_last (cond b [] [])) [] (events_of (rest ++ piece))) (refused_last rest ∙ is))
adds_parts (line ∷ next ∷ parts) piece none =
    line_first line (on_last (next ∷ parts) piece) (on_last_some (next ∷ parts) piece) ∙ at (is_last (event_of line)) (adds_parts (next ∷ parts) piece none)
  where
    later : List Event
    later = events_in (next ∷ parts)

    at : (last : Bool) → events_in (on_last (next ∷ parts) piece) ≡ later ++ unless_last later (events_of (last_part (next ∷ parts) ++ piece))
        → event_of line ∷ cond last [] (events_in (on_last (next ∷ parts) piece))
        ≡ (event_of line ∷ cond last [] later) ++ cond (last || list_any is_last (cond last [] later)) [] (events_of (last_part (next ∷ parts) ++ piece))
    at true adds = refl
    at false adds = ap (λ events. event_of line ∷ events) adds

-- the events that a piece adds to those of a stream
pub piece_adds : (stream piece : List ℕ) → events_of (stream ++ piece) ≡ events_of stream ++ unless_last (events_of stream) (events_of (last_part (parts_of stream) ++ piece))
piece_adds stream piece = ap events_in (parts_then stream piece) ∙ adds_parts (parts_of stream) piece (last_is_line stream)

-- the rest that is kept then
pub piece_keeps : (stream piece : List ℕ) → kept_of (stream ++ piece) ≡ cond (list_any is_last (events_of stream)) None (kept_of (last_part (parts_of stream) ++ piece))
piece_keeps stream piece = at (list_any is_last (events_of stream)) refl
  where
    rest : List ℕ
    rest = last_part (parts_of stream)

    last_is : last_part (parts_of (stream ++ piece)) ≡ last_part (parts_of (rest ++ piece))
    last_is = ap last_part (parts_then stream piece) ∙ last_then (parts_of stream) piece

    told : (ended : Bool) → list_any is_last (events_of stream) ≡ ended → list_any is_last (events_of (stream ++ piece)) ≡ (ended || list_any is_last (cond ended [] (events_of (rest ++ piece))))
    told ended is =
        ap (list_any is_last) (piece_adds stream piece) ∙ list_any-append is_last (events_of stream) _
        ∙ ap (λ b. b || list_any is_last (cond b [] (events_of (rest ++ piece)))) is

    at : (ended : Bool) → list_any is_last (events_of stream) ≡ ended → kept_of (stream ++ piece) ≡ cond ended None (kept_of (rest ++ piece))
    at true is = ap (λ b. cond b None (Some (last_part (parts_of (stream ++ piece))))) (told true is)
    at false is =
        ap (λ b. cond b None (Some (last_part (parts_of (stream ++ piece))))) (told false is)
        ∙ ap (λ rest_is. cond (list_any is_last (events_of (rest ++ piece))) None (Some rest_is)) last_is

-- a stream without a rest has no more events
pub adds_none : (stream piece : List ℕ) → None ≡ kept_of stream → Adds stream piece [] None
adds_none stream piece is = at (list_any is_last (events_of stream)) refl is
  where
    at : (ended : Bool) → list_any is_last (events_of stream) ≡ ended → None ≡ cond ended None (Some (last_part (parts_of stream))) → Adds stream piece [] None
    at true ended is = record {
      events_are = piece_adds stream piece ∙ ap (λ b. events_of stream ++ cond b [] (events_of (last_part (parts_of stream) ++ piece))) ended;
      kept_is = sym (piece_keeps stream piece ∙ ap (λ b. cond b None (kept_of (last_part (parts_of stream) ++ piece))) ended);
    }
    at false ended is = absurd (none-some _ is)

-- the rest of a stream determines the events that a piece adds
pub adds_some : (stream rest piece : List ℕ) → Some rest ≡ kept_of stream → Adds stream piece (events_of (rest ++ piece)) (kept_of (rest ++ piece))
adds_some stream rest piece is = at (list_any is_last (events_of stream)) refl is
  where
    at : (ended : Bool) → list_any is_last (events_of stream) ≡ ended → Some rest ≡ cond ended None (Some (last_part (parts_of stream))) → Adds stream piece (events_of (rest ++ piece)) (kept_of (rest ++ piece))
    at true ended is = absurd (none-some _ (sym is))
    at false ended is =
        let same : last_part (parts_of stream) ≡ rest = sym (same_Some _ _ is) in
        record {
          events_are = piece_adds stream piece ∙ ap (λ b. events_of stream ++ cond b [] (events_of (last_part (parts_of stream) ++ piece))) ended ∙ ap (λ r. events_of stream ++ events_of (r ++ piece)) same;
          kept_is = sym (piece_keeps stream piece ∙ ap (λ b. cond b None (kept_of (last_part (parts_of stream) ++ piece))) ended ∙ ap (λ r. kept_of (r ++ piece)) same);
        }

-- the events of a stream stay as they are
pub told_stays : (stream piece : List ℕ) → (events : List Event) × Adds stream piece events (kept_of (stream ++ piece))
told_stays stream piece = (_, record { events_are = piece_adds stream piece; kept_is = refl })

-- two pieces in turn are one piece
pub cuts : (stream xs ys : List ℕ) (first second whole : List Event) (kept last last_of_whole : Option (List ℕ)) → Adds stream xs first kept → Adds (stream ++ xs) ys second last → Adds stream (xs ++ ys) whole last_of_whole → (first ++ second ≡ whole) × (last ≡ last_of_whole)
cuts stream xs ys first second whole kept last last_of_whole one two both =
    let joined : (stream ++ xs) ++ ys ≡ stream ++ (xs ++ ys) = append_assoc stream xs ys in (
      append_cancel_left (events_of stream) (first ++ second) whole
          (sym (append_assoc (events_of stream) first second) ∙ ap (λ e. e ++ second) (sym one.events_are) ∙ sym two.events_are ∙ ap events_of joined ∙ both.events_are),
      two.kept_is ∙ ap kept_of joined ∙ sym both.kept_is,
    )

-- the events that pieces add in turn continue those of the stream
in_turn : (stream : List ℕ) (pieces : List (List ℕ)) (events : List Event) → AddInTurn stream pieces events → events_of stream ++ events ≡ events_of (stream ++ concat pieces)
in_turn stream [] events is = ap (λ e. events_of stream ++ e) is ∙ append-nil (events_of stream) ∙ sym (ap events_of (append-nil stream))
in_turn stream (piece ∷ pieces) events (first, later, kept, adds, turn, is) =
    ap (λ e. events_of stream ++ e) is ∙ sym (append_assoc (events_of stream) first later) ∙ ap (λ e. e ++ later) (sym adds.events_are)
    ∙ in_turn (stream ++ piece) pieces later turn ∙ ap events_of (append_assoc stream piece (concat pieces))

-- from the start, pieces add the events of the whole stream
pub all_in_turn : (pieces : List (List ℕ)) (events : List Event) → AddInTurn [] pieces events → events ≡ events_of (concat pieces)
all_in_turn pieces events turn = in_turn [] pieces events turn
