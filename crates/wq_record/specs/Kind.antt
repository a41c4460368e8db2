-- The letters of the kinds of files, as in Watchman's documentation of the field `type`.
use Rattle.std.specs.Prelude.{ℕ, ◌==◌, List, [], ◌∷◌, Option, find}
use Rattle.std.specs.Str.{byte}
use Rattle.wq_record.specs.declared.kind.Kind.{Kind}
use Rattle.wq_record.specs.declared.kind.Kind.TheVariants.{File, Dir, Link, Block, Char, Fifo, Socket, Door, Unknown}

-- the ASCII letter of a kind
abbrev pub letter_of : Kind → ℕ
letter_of File = byte "f"
letter_of Dir = byte "d"
letter_of Link = byte "l"
letter_of Block = byte "b"
letter_of Char = byte "c"
letter_of Fifo = byte "p"
letter_of Socket = byte "s"
letter_of Door = byte "D"
letter_of Unknown = byte "?"

-- every kind
abbrev pub all_kinds : List Kind
all_kinds = File ∷ Dir ∷ Link ∷ Block ∷ Char ∷ Fifo ∷ Socket ∷ Door ∷ Unknown ∷ []

-- the kind with this letter
unfoldable pub kind_with : ℕ → Option Kind
kind_with letter = find (λ kind. letter == letter_of kind) all_kinds
