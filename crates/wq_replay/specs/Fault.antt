-- The end of a replay by a fault of a step, or by a fault of the taking of a line.
-- It is this server's own.
use Rattle.std.specs.Prelude.{ℕ}
use Rattle.wq_replay.specs.declared.fault.ReplayFault.{ReplayFault}
use Rattle.wq_replay.specs.declared.fault.ReplayFault.TheVariants.{Line, Read, Write, Memory}
use Rattle.wq_replay.specs.declared.fault.StepFault.{StepFault}
use Rattle.wq_replay.specs.declared.fault.StepFault.TheVariants.{Malformed, Write as NotWritten, NoMemory}
use Rattle.wq_replay.specs.declared.fault.TakeFault.{TakeFault}
use Rattle.wq_replay.specs.declared.fault.TakeFault.TheVariants.{Read as NotRead, NoMemory as NotKept}

-- a step at the line of this number
abbrev pub step_fault : ℕ → StepFault → ReplayFault
step_fault number Malformed = Line number
step_fault number NotWritten = Write
step_fault number NoMemory = Memory

-- the taking of a line
abbrev pub taking_fault : TakeFault → ReplayFault
taking_fault NotRead = Read
taking_fault NotKept = Memory
