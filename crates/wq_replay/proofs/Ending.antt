-- The steps of the playing of a script, and its end.
use Rattle.std.proofs.Common.{◌≡◌, ◌≢◌, ℕ, zero, suc, ◌+◌, ◌<◌, ◌≤◌, List, [], ◌∷◌, length, Option, Some, None, Result, Ok, Err, IsErr, IsErrAnd, IfSome, Bool, true, false, refl, sym, ap, subst, ◌∙◌, arith, inl, inr}
use Rattle.std.proofs.lemmas.Bool.{lt-leb}
use Rattle.wq_replay.specs.Fault.{step_fault, taking_fault}
use Rattle.wq_replay.specs.Limit.{max_script, max_script_line}
use Rattle.wq_replay.specs.Line.{lines_of}
use Rattle.wq_replay.specs.Replay.{DoesLine, Ends, EndsReading, FirstLines, Shuts, StopsWithin, StopsWriting}
use Rattle.wq_replay.specs.Stage.{StageData, Turn, drafts, lists, hears, rests, fires, finishes, malformed, start, turn_of}
use Rattle.wq_replay.specs.Step.{IsAt, TakesTurn}
use Rattle.wq_replay.specs.Taken.{BeginsWith, TakesLine}
use Rattle.wq_replay.specs.declared.fault.ReplayFault.TheVariants.{Read, Memory as OutOfMemory}
use Rattle.wq_replay.specs.declared.fault.StepFault.{StepFault}
use Rattle.wq_replay.specs.declared.fault.StepFault.TheVariants.{Malformed, Write, NoMemory}
use Rattle.wq_replay.specs.declared.fault.TakeFault.{TakeFault}
use Rattle.wq_replay.specs.declared.fault.TakeFault.TheVariants.{Read as NotRead, NoMemory as NotKept}
use Rattle.wq_replay.specs.declared.stage.Stage.{Stage}
use Rattle.wq_replay.specs.declared.fault.ReplayFault.{ReplayFault}
use Rattle.wq_base.proofs.Fronts.{keeps_same}
use Rattle.wq_replay.proofs.Inside.{within_kept}
use Rattle.wq_replay.proofs.Played.{first_kept, first_none, first_then}

-- the state of the playing of a script: so many bytes were taken, and the lines before this number were played
abbrev pub Holds : Option (List ℕ) → Option (List ℕ) → Option (List ℕ) → Option (List ℕ) → ℕ → ℕ → Stage → Type 0
Holds script left before now size n code = IfSome script (λ bytes. (at : StageData) × (rest : List ℕ) × (count : ℕ)
    × (left ≡ Some rest) × (n ≡ suc count) × IsAt code at × (length bytes ≡ size + length rest)
    × FirstLines bytes before now count at (lines_of rest))

-- at the start nothing is played
pub holds_first : (script before : Option (List ℕ)) (code : Stage) → IsAt code start → Holds script script before before 0 1 code
holds_first None before code is = tt
holds_first (Some bytes) before code is = (start, bytes, 0, refl, refl, is, omega arith, first_none bytes before)

-- the bytes that were taken of known bytes
taken_of : (left rest : Option (List ℕ)) (bytes line : List ℕ) (taken : ℕ) → left ≡ Some bytes
    → IfSome left (λ bytes. TakesLine bytes taken line rest) → TakesLine bytes taken line rest
taken_of left rest bytes line taken is takes = subst (λ k. IfSome k (λ bytes. TakesLine bytes taken line rest)) is takes

nothing_left : (bytes line : List ℕ) (rest : Option (List ℕ)) (taken : ℕ) → taken ≡ 0 → TakesLine bytes taken line rest
    → (bytes ≡ []) × (rest ≡ Some [])
nothing_left bytes line rest taken none takes = subst (λ n. TakesLine bytes n line rest) none takes

-- no line is left: the script ends well
pub ends_well : (script left before now rest : Option (List ℕ)) (size n taken : ℕ) (code : Stage) (line : List ℕ)
    → Holds script left before now size n code → size ≤ max_script → taken ≡ 0
    → IfSome left (λ bytes. TakesLine bytes taken line rest) → IfSome script (λ bytes. Ends bytes before now rest (Ok tt))
ends_well None left before now rest size n taken code line holds within none takes = tt
ends_well (Some bytes) left before now rest size n taken code line (at, rest_bytes, count, is, numbered, stands, sized, first) within none takes =
    let ended = nothing_left rest_bytes line rest taken none (taken_of left rest rest_bytes line taken is takes) in
    let short : length rest_bytes ≡ 0 = ap length ended.0 in
    inl (omega (arith, sized, short), count, at, subst (λ bs. FirstLines bytes before now count at (lines_of bs)) ended.0 first, ended.1)

-- the line that was taken makes the script too long
pub ends_too_long : (script left before now rest : Option (List ℕ)) (size n taken : ℕ) (code : Stage) (line : List ℕ)
    → Holds script left before now size n code → size ≤ max_script → max_script < size + taken
    → IfSome left (λ bytes. TakesLine bytes taken line rest) → IfSome script (λ bytes. Ends bytes before now rest (Err Read))
ends_too_long None left before now rest size n taken code line holds within over takes = tt
ends_too_long (Some bytes) left before now rest size n zero code line holds within over takes = absurd (omega arith)
ends_too_long (Some bytes) left before now rest size n (suc taken) code line (at, rest_bytes, count, is, numbered, stands, sized, first) within over takes =
    let took : TakesLine rest_bytes (suc taken) line rest = taken_of left rest rest_bytes line (suc taken) is takes in
    let sizes = took.2 in
    inr (count, at, rest_bytes, took.0, took.1, first, omega (arith, sized), omega (arith, sized, sizes))

-- the next line was not taken to its end
ends_reading : (script left before now rest : Option (List ℕ)) (size n : ℕ) (code : Stage)
    → Holds script left before now size n code → IfSome left (λ bytes. StopsWithin bytes rest)
    → IfSome script (λ bytes. EndsReading bytes before now rest)
ends_reading None left before now rest size n code holds stops = tt
ends_reading (Some bytes) left before now rest size n code (at, rest_bytes, count, is, numbered, stands, sized, first) stops =
    (count, at, rest_bytes, first, subst (λ k. IfSome k (λ bytes. StopsWithin bytes rest)) is stops)

-- the same, by the fault of the taking
pub ends_taking : (script left before now rest : Option (List ℕ)) (size n : ℕ) (code : Stage) (fault : TakeFault)
    → Holds script left before now size n code → IfSome left (λ bytes. StopsWithin bytes rest)
    → IfSome script (λ bytes. Ends bytes before now rest (Err (taking_fault fault)))
ends_taking None left before now rest size n code fault holds stops = tt
ends_taking (Some bytes) left before now rest size n code NotRead holds stops =
    inl (ends_reading (Some bytes) left before now rest size n code holds stops)
ends_taking (Some bytes) left before now rest size n code NotKept holds stops =
    inl (ends_reading (Some bytes) left before now rest size n code holds stops)

-- a line over the limit is malformed
long_is_malformed : (at : StageData) (line : List ℕ) → max_script_line < length line → turn_of at line ≡ malformed
long_is_malformed at line long = let over = lt-leb (length line) max_script_line long in rw over refl

-- the turn of a line that was taken is that of the first line that is left
abbrev pub FirstIs : StageData → List ℕ → List ℕ → List ℕ → Type 0
FirstIs at bytes line left = (whole : List ℕ) × (later : List (List ℕ)) × (lines_of bytes ≡ whole ∷ later)
    × (turn_of at line ≡ turn_of at whole) × (turn_of at line ≢ malformed → later ≡ lines_of left)

first_is : (at : StageData) (bytes line left : List ℕ) → BeginsWith bytes line left → FirstIs at bytes line left
first_is at bytes line left (inl is) = (line, lines_of left, is, refl, λ well. refl)
first_is at bytes line left (inr (long, whole, later, is, longer)) = (
  whole,
  later,
  is,
  long_is_malformed at line long ∙ sym (long_is_malformed at whole longer),
  λ well. absurd (well (long_is_malformed at line long)),
)

-- a malformed line takes no step
goes_well : (at : StageData) (turn : Turn) (now later : Option (List ℕ)) (next : Stage) → TakesTurn at turn now later (Ok true) next → turn ≢ malformed
goes_well at malformed now later next (written, after, appends, does, stands) = absurd does
goes_well at (drafts draft) now later next takes = λ h. cc
goes_well at (lists crawls tree) now later next takes = λ h. cc
goes_well at (hears client event) now later next takes = λ h. cc
goes_well at (rests client) now later next takes = λ h. cc
goes_well at (fires succeeds) now later next takes = λ h. cc
goes_well at (finishes name) now later next takes = λ h. cc

-- a malformed line does not end the server
shuts_well : (at : StageData) (turn : Turn) (now later : Option (List ℕ)) → Shuts at turn now later → turn ≢ malformed
shuts_well at malformed now later ends = absurd ends
shuts_well at (drafts draft) now later ends = absurd ends
shuts_well at (lists crawls tree) now later ends = absurd ends
shuts_well at (hears client event) now later ends = λ h. cc
shuts_well at (rests client) now later ends = absurd ends
shuts_well at (fires succeeds) now later ends = absurd ends
shuts_well at (finishes name) now later ends = absurd ends

-- a step of a taken line, at the stage of the script
abbrev pub Stepped : Stage → Option (List ℕ) → Option (List ℕ) → List ℕ → Result Bool StepFault → Stage → Type 0
Stepped code now later line result next = (at : StageData) → IsAt code at → TakesTurn at (turn_of at line) now later result next

-- the step of a text that is equal to the line, with a result that is equal to another
pub stepped_as : (code next : Stage) (now later : Option (List ℕ)) (text line : List ℕ) (result said : Result Bool StepFault)
    → text ≡ line → result ≡ said → Stepped code now later text result next → Stepped code now later line said next
stepped_as code next now later text line result said same is steps =
    subst (λ l. Stepped code now later l said next) same (subst (λ r. Stepped code now later text r next) is steps)

-- one more line was played
pub goes_on : (script left before now later rest : Option (List ℕ)) (size n taken : ℕ) (code next : Stage) (line : List ℕ)
    → Holds script left before now size n code → 0 < taken → IfSome left (λ bytes. TakesLine bytes taken line rest)
    → Stepped code now later line (Ok true) next → Holds script rest before later (size + taken) (n + 1) next
goes_on None left before now later rest size n taken code next line holds some takes steps = tt
goes_on (Some bytes) left before now later rest size n zero code next line holds some takes steps = absurd (omega arith)
goes_on (Some bytes) left before now later rest size n (suc taken) code next line (at, rest_bytes, count, is, numbered, stands, sized, first) some takes steps =
    let took : TakesLine rest_bytes (suc taken) line rest = taken_of left rest rest_bytes line (suc taken) is takes in
    let step = steps at stands in
    let whole = first_is at rest_bytes line took.0 took.3 in
    let behind = whole.4 (goes_well at (turn_of at line) now later next step) in
    let sizes = took.2 in (
      step.1,
      took.0,
      suc count,
      took.1,
      omega (arith, numbered),
      step.4,
      omega (arith, sized, sizes),
      subst (FirstLines bytes before later (suc count) step.1) behind
          (first_then bytes before now later count at step.1 whole.0 step.0 whole.1
          (subst (FirstLines bytes before now count at) whole.2 first)
          (subst (λ turn. DoesLine at turn step.0 step.1) whole.3 step.3) step.2 (step.4).world.roots.lawful),
    )

-- a line ends the server
pub ends_server : (script left before now later rest : Option (List ℕ)) (size n taken : ℕ) (code next : Stage) (line : List ℕ)
    → Holds script left before now size n code → 0 < taken → IfSome left (λ bytes. TakesLine bytes taken line rest)
    → Stepped code now later line (Ok false) next → IfSome script (λ bytes. Ends bytes before later rest (Ok tt))
ends_server None left before now later rest size n taken code next line holds some takes steps = tt
ends_server (Some bytes) left before now later rest size n zero code next line holds some takes steps = absurd (omega arith)
ends_server (Some bytes) left before now later rest size n (suc taken) code next line (at, rest_bytes, count, is, numbered, stands, sized, first) some takes steps =
    let took : TakesLine rest_bytes (suc taken) line rest = taken_of left rest rest_bytes line (suc taken) is takes in
    let step = steps at stands in
    let whole = first_is at rest_bytes line took.0 took.3 in
    let behind = whole.4 (shuts_well at (turn_of at line) now later step) in
    inr (
      count,
      at,
      whole.0,
      took.0,
      now,
      took.1,
      subst (λ lines. FirstLines bytes before now count at (whole.0 ∷ lines)) behind (subst (FirstLines bytes before now count at) whole.2 first),
      subst (λ turn. Shuts at turn now later) whole.3 step,
    )

-- a line was not played
pub ends_stepping : (script left before now later rest : Option (List ℕ)) (size n taken : ℕ) (code next : Stage) (line : List ℕ)
    (after : Option (List ℕ)) (fault : StepFault)
    → Holds script left before now size n code → 0 < taken → IfSome left (λ bytes. TakesLine bytes taken line rest)
    → Stepped code now later line (Err fault) next → IfSome script (λ bytes. Ends bytes before later after (Err (step_fault n fault)))
ends_stepping None left before now later rest size n taken code next line after fault holds some takes steps = tt
ends_stepping (Some bytes) left before now later rest size n zero code next line after fault holds some takes steps = absurd (omega arith)
ends_stepping (Some bytes) left before now later rest size n (suc taken) code next line after Malformed (at, rest_bytes, count, is, numbered, stands, sized, first) some takes steps =
    let took : TakesLine rest_bytes (suc taken) line rest = taken_of left rest rest_bytes line (suc taken) is takes in
    let step = steps at stands in
    let whole = first_is at rest_bytes line took.0 took.3 in (
      count,
      at,
      whole.0,
      whole.1,
      numbered,
      first_kept bytes before now later count at (whole.0 ∷ whole.1) (subst (FirstLines bytes before now count at) whole.2 first) step.1,
      sym whole.3 ∙ step.0,
    )
ends_stepping (Some bytes) left before now later rest size n (suc taken) code next line after Write (at, rest_bytes, count, is, numbered, stands, sized, first) some takes steps =
    let took : TakesLine rest_bytes (suc taken) line rest = taken_of left rest rest_bytes line (suc taken) is takes in
    let whole = first_is at rest_bytes line took.0 took.3 in (
      count,
      at,
      whole.0,
      whole.1,
      now,
      subst (FirstLines bytes before now count at) whole.2 first,
      subst (λ turn. StopsWriting at turn now later) whole.3 (steps at stands),
    )
ends_stepping (Some bytes) left before now later rest size n (suc taken) code next line after NoMemory (at, rest_bytes, count, is, numbered, stands, sized, first) some takes steps =
    let took : TakesLine rest_bytes (suc taken) line rest = taken_of left rest rest_bytes line (suc taken) is takes in
    let step = steps at stands in
    let whole = first_is at rest_bytes line took.0 took.3 in
    inr (
      count,
      at,
      whole.0,
      whole.1,
      first_kept bytes before now later count at (whole.0 ∷ whole.1) (subst (FirstLines bytes before now count at) whole.2 first) step.1,
      λ bad. step.0 (whole.3 ∙ bad),
    )

-- a result that hands on the fault of a taking
pub ends_handed : (script before now rest : Option (List ℕ)) (fault : TakeFault) (result : Result (Unit {0}) ReplayFault)
    → IsErr result × IsErrAnd result (λ handed. handed ≡ taking_fault fault)
    → IfSome script (λ bytes. Ends bytes before now rest (Err (taking_fault fault)))
    → IfSome script (λ bytes. Ends bytes before now rest result)
ends_handed script before now rest fault (Ok done) hands ends = absurd hands.1
ends_handed script before now rest fault (Err handed) hands ends =
    subst (λ f. IfSome script (λ bytes. Ends bytes before now rest (Err f))) (sym hands.1) ends

-- a fault that is handed on as another
pub ends_as : (script before now rest : Option (List ℕ)) (fault said : ReplayFault) → said ≡ fault
    → IfSome script (λ bytes. Ends bytes before now rest (Err fault))
    → IfSome script (λ bytes. Ends bytes before now rest (Err said))
ends_as script before now rest fault said same ends =
    subst (λ f. IfSome script (λ bytes. Ends bytes before now rest (Err f))) (sym same) ends

-- no line was taken: the reader is where it was
pub ends_untaken : (script left before now : Option (List ℕ)) (size n : ℕ) (code : Stage)
    → Holds script left before now size n code → IfSome script (λ bytes. Ends bytes before now left (Err Read))
ends_untaken None left before now size n code holds = tt
ends_untaken (Some bytes) left before now size n code holds =
    inl (ends_reading (Some bytes) left before now left size n code holds (within_kept left left (keeps_same left)))

-- the world was not made
pub ends_unmade : (script before : Option (List ℕ)) → IfSome script (λ bytes. Ends bytes before before script (Err OutOfMemory))
ends_unmade None before = tt
ends_unmade (Some bytes) before = inl (0, start, bytes, first_none bytes before, within_kept (Some bytes) (Some bytes) refl)
