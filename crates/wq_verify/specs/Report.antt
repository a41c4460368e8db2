-- The report on the bytes of a program file: its line, and the exit status of the command `check`.
-- It is this server's own.
use Rattle.std.specs.Prelude.{◌≡◌, ◌≢◌, ◌⊎◌, ℕ, List, ◌++◌, length, codes, Option, Err}
use Rattle.std.specs.Fmt.{decimal}
use Rattle.std.specs.Io.KnownBytes.{Appends}
use Rattle.wq_base.specs.Writing.{WritesFront}
use Rattle.wq_code.specs.File.{file_at}
use Rattle.wq_code.specs.FileFault.{file_fault_number as file_number}
use Rattle.wq_code.specs.Spelling.{IsSpelling}
use Rattle.wq_code.specs.declared.fault.FileFault.TheVariants.{NoMemory as NoFileMemory}
use Rattle.wq_code.specs.declared.raw.Raw.{Raw}
use Rattle.wq_verify.specs.Budget.{budget_of}
use Rattle.wq_verify.specs.ProgramFault.{program_fault_number as program_number}
use Rattle.wq_verify.specs.Typing.{IsFirstFault, IsValid}
use Rattle.wq_verify.specs.declared.fault.ProgramFault.TheVariants.{NoMemory as NoProgramMemory}
use Rattle.wq_verify.specs.declared.report.Report.{Report}
use Rattle.wq_verify.specs.declared.report.Report.TheVariants.{Accepted, WrongFile, WrongProgram}

-- the longest name of a file, for which `check` gives the budget
abbrev pub longest_name : ℕ
longest_name = 4096

-- a report on the bytes of a file: a program that may run, or the first fault of the file or the
-- program. Or memory ran out, for a program at place 0
abbrev pub IsReport : List ℕ → Report → Type 0
IsReport bytes (Accepted instructions budget) = (raw : Raw) × IsSpelling raw bytes × IsValid raw
    × (instructions ≡ length raw.code) × (budget ≡ budget_of raw longest_name)
IsReport bytes (WrongFile fault) = fault ≢ NoFileMemory → file_at bytes ≡ Err fault
IsReport bytes (WrongProgram fault at) = (raw : Raw) × IsSpelling raw bytes
    × (IsFirstFault raw fault at ⊎ ((fault ≡ NoProgramMemory) × (at ≡ 0)))

-- the line of a report
abbrev pub report_line : Report → List ℕ
report_line (Accepted instructions budget) =
    codes "ok " ++ (decimal instructions ++ (codes " " ++ (decimal budget ++ codes "\n")))
report_line (WrongFile fault) = codes "refused F" ++ (decimal (file_number fault) ++ codes "\n")
report_line (WrongProgram fault at) =
    codes "refused Y" ++ (decimal (program_number fault)
    ++ (codes " at " ++ (decimal at ++ codes "\n")))

-- the exit status: 0 for a program that may run, and 3 for any other file
abbrev pub status_of : Report → ℕ
status_of (Accepted _ _) = 0
status_of (WrongFile _) = 3
status_of (WrongProgram _ _) = 3

-- the writer took the line of a report: all of it, and the status is the report's own; or a front
-- of it, but not all, and the status is 1
abbrev pub Writes : Report → Option (List ℕ) → Option (List ℕ) → ℕ → Type 0
Writes report before after status =
    (Appends before after (report_line report) × (status ≡ status_of report))
    ⊎ (WritesFront before after (report_line report) × (status ≡ 1))

-- the line of the report for the bytes was written, or a front of it, with that status
abbrev pub Checks : List ℕ → Option (List ℕ) → Option (List ℕ) → ℕ → Type 0
Checks bytes before after status =
    (report : Report) × IsReport bytes report × Writes report before after status
