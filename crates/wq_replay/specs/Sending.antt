-- The result of a sending.
-- It is this server's own.
use Rattle.std.specs.Prelude.{◌≡◌, not, ℕ, Bool, List, [], ◌++◌, Option, Result, Ok, Err, codes}
use Rattle.std.specs.Io.KnownBytes.{Appends}
use Rattle.wq_session.specs.declared.outcome.ReplyLine.{ReplyLine}
use Rattle.wq_session.specs.declared.outcome.ReplyLine.TheVariants.{None, Whole, Long}
use Rattle.wq_base.specs.Writing.{WritesFront}
use Rattle.wq_replay.specs.Replay.{sent_lines, shuts}
use Rattle.wq_replay.specs.World.{SentData}
use Rattle.wq_replay.specs.declared.fault.StepFault.{StepFault}
use Rattle.wq_replay.specs.declared.fault.StepFault.TheVariants.{Malformed, Write, NoMemory}

-- the lines were written whole, with the flag whether the server goes on; or the writer failed
-- within them
abbrev pub Sends : List SentData → Option (List ℕ) → Option (List ℕ) → Result Bool StepFault
    → Type 0
Sends sent before after (Ok goes_on) =
    (goes_on ≡ not (shuts sent)) × Appends before after (sent_lines sent)
Sends sent before after (Err Write) = WritesFront before after (sent_lines sent)
Sends sent before after (Err Malformed) = ⊥
Sends sent before after (Err NoMemory) = ⊥

-- the lines were written whole, or the writer failed within them
abbrev pub SendsAll : List SentData → Option (List ℕ) → Option (List ℕ)
    → Result (Unit {0}) StepFault → Type 0
SendsAll sent before after (Ok _) = Appends before after (sent_lines sent)
SendsAll sent before after (Err Write) = WritesFront before after (sent_lines sent)
SendsAll sent before after (Err Malformed) = ⊥
SendsAll sent before after (Err NoMemory) = ⊥

-- the bytes of the line of a reply: none if there is no reply
abbrev pub line_bytes : ReplyLine → List ℕ
line_bytes None = []
line_bytes (Whole line) = line.now
line_bytes (Long reply) = reply.now ++ codes "\n"
