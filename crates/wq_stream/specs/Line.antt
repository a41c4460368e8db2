-- The first line of a rest and of the bytes after it. No public document defines it.
use Rattle.std.specs.Prelude.{◌≡◌, ◌<◌, ◌≤◌, ℕ, ◌+◌, List, [], ◌∷◌, ◌++◌, length, take, drop, Some, None}
use Rattle.wq_stream.specs.Limit.{max_line}
use Rattle.wq_stream.specs.Stream.{IsRest, events_of, kept_of}
use Rattle.wq_stream.specs.declared.event.Event.TheVariants.{Line, Long, Binary}
use Rattle.wq_stream.specs.declared.line.FirstLine.{FirstLine}
use Rattle.wq_stream.specs.declared.line.FirstLine.TheVariants.{Ends, Open, Long as TooLong, Binary as IsBinary}

-- this is the first line of a rest and of some bytes
abbrev pub IsFirstLine : List ℕ → List ℕ → FirstLine → Type 0
IsFirstLine rest bytes (Ends at) =
    (at < length bytes) × (length rest + at ≤ max_line)
    × (events_of (rest ++ bytes) ≡ Line (rest ++ take at bytes) ∷ events_of (drop (at + 1) bytes))
    × (kept_of (rest ++ bytes) ≡ kept_of (drop (at + 1) bytes))
IsFirstLine rest bytes Open =
    (events_of (rest ++ bytes) ≡ []) × (kept_of (rest ++ bytes) ≡ Some (rest ++ bytes))
    × IsRest (rest ++ bytes)
IsFirstLine rest bytes TooLong =
    (events_of (rest ++ bytes) ≡ Long ∷ []) × (kept_of (rest ++ bytes) ≡ None)
IsFirstLine rest bytes IsBinary =
    (events_of (rest ++ bytes) ≡ Binary ∷ []) × (kept_of (rest ++ bytes) ≡ None)
