-- The meaning of the lines of replies.
-- It is this server's own.
use Rattle.std.specs.Prelude.{ℕ, List, [], ◌++◌, codes}
use Rattle.std.specs.Prelude.{Option, Some, None as Nothing, Vec}
use Rattle.std.specs.declared.alloc.Global.{Global}
use Rattle.wq_session.specs.Line.{IsLine, line_text}
use Rattle.wq_session.specs.declared.outcome.Reply.{Reply}
use Rattle.wq_session.specs.declared.outcome.Reply.TheVariants.{None, Made, Fixed, Long}
use Rattle.wq_session.specs.declared.outcome.ReplyLine.{ReplyLine}
use Rattle.wq_session.specs.declared.outcome.ReplyLine.TheVariants.{None as NoLine, Whole, Long as LongLine}

-- the text of a reply, if there is one
abbrev pub reply_text : Reply → Option (List ℕ)
reply_text None = Nothing
reply_text (Made text) = Some text
reply_text (Fixed line) = Some (line_text line.now)
reply_text (Long text) = Some text

-- the texts of lists, if there are any
abbrev pub list_texts : Option (Vec (List ℕ) Global) → List (List ℕ)
list_texts Nothing = []
list_texts (Some lines) = lines.items

-- a reply that is kept ends with a newline
abbrev pub EndsLine : Reply → Type 0
EndsLine None = Unit {0}
EndsLine (Made text) = Unit {0}
EndsLine (Fixed line) = IsLine line.now
EndsLine (Long text) = Unit {0}

-- the line of a reply, if there is one: its text and a newline
abbrev pub line_in : ReplyLine → Option (List ℕ)
line_in NoLine = Nothing
line_in (Whole line) = Some line.now
line_in (LongLine reply) = Some (reply.now ++ codes "\n")
