-- The bytes that are taken of a line before its end have no newline.
use Rattle.std.proofs.Common.{◌≡◌, ◌≢◌, ℕ, zero, suc, ◌-◌, Bool, false, ◌==◌, if◌then◌else◌, List, [], ◌∷◌, ◌++◌, length, take, All, Option, Some, None, IfSome, refl, sym, ap, subst, ◌∙◌}
use mathlib.Core.Bool.{false≢true}
use Rattle.std.proofs.lemmas.Bool.{or_parts, eqb-false}
use Rattle.std.proofs.lemmas.List.{append_assoc}
use Rattle.std.proofs.lemmas.List.Elements.{All-nil, All-cons, All-append}
use Rattle.std.specs.Io.KnownBytes.{Consumes, Keeps}
use Rattle.wq_base.specs.Byte.{newline}
use Rattle.wq_replay.specs.Replay.{StopsWithin}
use Rattle.wq_replay.specs.Taken.{is_last_line, kept_line, max_kept, stops_within}
use Rattle.wq_replay.proofs.Parts.{kept_front}

-- no newline is among some bytes
abbrev pub NoNewline : List ℕ → Type 0
NoNewline = All (λ byte. byte ≢ newline)

-- the kept part of some bytes has no newline if their first line does not stop within them
kept_inside : (room : ℕ) (bytes : List ℕ) → stops_within room bytes ≡ false → NoNewline (kept_line room bytes)
kept_inside zero bytes none = absurd (false≢true (sym none))
kept_inside (suc room) [] none = All-nil (λ byte. byte ≢ newline)
kept_inside (suc room) (x ∷ xs) none =
    let parts = or_parts (x == newline) (stops_within room xs) none in
    subst NoNewline (sym (ap (λ b. if b then x ∷ [] else x ∷ kept_line room xs) parts.0))
    (All-cons (λ byte. byte ≢ newline) x (kept_line room xs) (eqb-false x newline parts.0) (kept_inside room xs parts.1))

-- so a part that is not the last of a line stops within the line
pub part_within : (known rest : Option (List ℕ)) (before shown : List ℕ) (count : ℕ) (last : Bool)
    → Consumes known rest (take count shown) → count ≡ length (kept_line (max_kept - length before) shown)
    → last ≡ is_last_line (max_kept - length before) shown → last ≡ false → IfSome known (λ bytes. StopsWithin bytes rest)
part_within None rest before shown count last took counted lasts more = tt
part_within (Some bytes) None before shown count last took counted lasts more = absurd took
part_within (Some bytes) (Some left) before shown count last took counted lasts more =
    let room = max_kept - length before in
    let open' = or_parts (stops_within room shown) (length shown == 0) (sym lasts ∙ more) in
    let part : take count shown ≡ kept_line room shown = ap (λ n. take n shown) counted ∙ kept_front room shown in
    (take count shown, left, refl, took, subst NoNewline (sym part) (kept_inside room shown open'.0))

-- a reader that was left within a line, and then within the rest of it
pub within_then : (known mid rest : Option (List ℕ)) → IfSome known (λ bytes. StopsWithin bytes mid)
    → IfSome mid (λ bytes. StopsWithin bytes rest) → IfSome known (λ bytes. StopsWithin bytes rest)
within_then None mid rest first second = tt
within_then (Some bytes) mid rest (taken, left, is, bytes_are, clean) second =
    let later = subst (λ k. IfSome k (λ bytes. StopsWithin bytes rest)) is second in (
      taken ++ later.0,
      later.1,
      later.2,
      bytes_are ∙ ap (λ l. taken ++ l) later.3 ∙ sym (append_assoc taken later.0 later.1),
      All-append (λ byte. byte ≢ newline) taken later.0 clean later.4,
    )

-- nothing more was taken
pub within_kept : (mid rest : Option (List ℕ)) → Keeps mid rest → IfSome mid (λ bytes. StopsWithin bytes rest)
within_kept None rest kept = tt
within_kept (Some bytes) None kept = absurd kept
within_kept (Some bytes) (Some left) same = ([], left, refl, sym same, All-nil (λ byte. byte ≢ newline))
