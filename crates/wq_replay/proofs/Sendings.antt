-- The results of sendings.
use mathlib.Core.Bool.{false≢true}
use Rattle.std.specs.Prelude.{is_none}
use Rattle.std.proofs.Common.{◌≡◌, ℕ, suc, ◌+◌, ◌<◌, length, map, drop, get_or, drop-cons, arith, codes, option_map, ℤ, Bool, true, false, not, ◌&&◌, ◌||◌, List, [], ◌∷◌, ◌++◌, Option, Some, None, Result, Ok, Err, IsErr, IsErrAnd, refl, sym, ap, subst, ◌∙◌}
use Rattle.std.proofs.lemmas.List.{append-nil, append_assoc}
use Rattle.std.specs.Io.KnownBytes.{Appends}
use Rattle.std.proofs.lemmas.Option.{same_Some}
use Rattle.wq_session.specs.Said.{line_in}
use Rattle.wq_session.specs.declared.outcome.ReplyLine.{ReplyLine}
use Rattle.wq_session.specs.declared.outcome.ReplyLine.TheVariants.{None as NoLine, Whole, Long as LongLine}
use Rattle.wq_base.specs.Writing.{WritesFront}
use Rattle.wq_replay.specs.Replay.{sent_line, sent_lines, shuts}
use Rattle.wq_replay.specs.Sending.{Sends, SendsAll, line_bytes}
use Rattle.wq_replay.specs.Stands.{all_sent, sent_of}
use Rattle.wq_replay.specs.Playing.{sent_for, sent_list}
use Rattle.wq_replay.specs.Rounds.{sent_note}
use Rattle.wq_replay.specs.World.{SentData}
use Rattle.wq_replay.specs.declared.sent.Sent.{Sent}
use Rattle.wq_replay.specs.declared.fault.StepFault.{StepFault}
use Rattle.wq_replay.specs.declared.fault.StepFault.TheVariants.{Malformed, NoMemory, Write}
use Rattle.wq_base.proofs.Fronts.{appends_none, appends_then, front_before, front_behind}

-- the replies before these last ones were written, and the server goes on so far or does not
pub record SentSoFar (before now : Option (List ℕ)) (all : List SentData) (goes_on : Bool) (left : List SentData) : Type 0 where
  pub written : List ℕ
  pub appends : Appends before now written
  pub lines : sent_lines all ≡ written ++ sent_lines left
  pub ends : shuts all ≡ (not goes_on || shuts left)

-- at the start none was written
pub none_sent : (known : Option (List ℕ)) (all : List SentData) → SentSoFar known known all true all
none_sent known all = record { written = []; appends = appends_none known; lines = refl; ends = refl }

-- whether the server goes on after more, from whether it does after the first, and after all
and_not : (goes_on ends later : Bool) → (not goes_on || (ends || later)) ≡ (not (goes_on && not ends) || later)
and_not true true later = refl
and_not true false later = refl
and_not false ends later = refl

-- the lines that are sent first, and then others
pub lines_then : (first later : List SentData) → sent_lines (first ++ later) ≡ sent_lines first ++ sent_lines later
lines_then [] later = refl
lines_then (one ∷ first) later =
    ap (λ lines. sent_line one.client one.text ++ lines) (lines_then first later)
    ∙ sym (append_assoc (sent_line one.client one.text) (sent_lines first) (sent_lines later))

-- whether the server ends by the lines that are sent first, or by the others
shuts_then : (first later : List SentData) → shuts (first ++ later) ≡ (shuts first || shuts later)
shuts_then [] later = refl
shuts_then (one ∷ first) later = by one.shuts (shuts_then first later)
  where
    by : (b : Bool) → shuts (first ++ later) ≡ (shuts first || shuts later)
        → (b || shuts (first ++ later)) ≡ ((b || shuts first) || shuts later)
    by true h = refl
    by false h = h

-- some more were written
pub some_sent : (before now later : Option (List ℕ)) (all left part rest : List SentData) (goes_on said : Bool)
    → SentSoFar before now all goes_on left → left ≡ part ++ rest → Appends now later (sent_lines part)
    → said ≡ (goes_on && not (shuts part)) → SentSoFar before later all said rest
some_sent before now later all left part rest goes_on said so_far is lines says = record {
  written = so_far.written ++ sent_lines part;
  appends = appends_then before now later so_far.written (sent_lines part) so_far.appends lines;
  lines = so_far.lines ∙ ap (λ xs. so_far.written ++ sent_lines xs) is ∙ ap (λ xs. so_far.written ++ xs) (lines_then part rest)
      ∙ sym (append_assoc so_far.written (sent_lines part) (sent_lines rest));
  ends = so_far.ends ∙ ap (λ xs. not goes_on || shuts xs) is ∙ ap (λ b. not goes_on || b) (shuts_then part rest)
      ∙ and_not goes_on (shuts part) (shuts rest) ∙ ap (λ b. not b || shuts rest) (sym says);
}

-- one more line was written, which does not end the server
pub list_sent : (before now later : Option (List ℕ)) (all left rest : List SentData) (one : SentData) (goes_on : Bool)
    → SentSoFar before now all goes_on left → left ≡ one ∷ rest → one.shuts ≡ false
    → Appends now later (sent_line one.client one.text) → SentSoFar before later all goes_on rest
list_sent before now later all left rest one goes_on so_far is stays line =
    some_sent before now later all left (one ∷ []) rest goes_on goes_on so_far is
    (subst (Appends now later) (sym (append-nil (sent_line one.client one.text))) line)
    (sym (ap (λ b. goes_on && not (b || false)) stays ∙ by goes_on))
  where
    by : (b : Bool) → (b && true) ≡ b
    by true = refl
    by false = refl

-- all were written
pub whole_sent : (before now : Option (List ℕ)) (all left : List SentData) (goes_on : Bool) → SentSoFar before now all goes_on left
    → left ≡ [] → Sends all before now (Ok goes_on)
whole_sent before now all left goes_on so_far none = (
  by goes_on ∙ ap not (sym (so_far.ends ∙ ap (λ xs. not goes_on || shuts xs) none)),
  subst (Appends before now) (sym (so_far.lines ∙ ap (λ xs. so_far.written ++ sent_lines xs) none ∙ append-nil so_far.written)) so_far.appends,
)
  where
    by : (goes_on : Bool) → goes_on ≡ not (not goes_on || false)
    by true = refl
    by false = refl

-- the writer failed within some of those that are left
pub front_sent : (before now later : Option (List ℕ)) (all left part rest : List SentData) (goes_on : Bool)
    (result : Result Bool StepFault) → SentSoFar before now all goes_on left → left ≡ part ++ rest
    → WritesFront now later (sent_lines part)
    → IsErr result × IsErrAnd result (λ handed. handed ≡ Write) → Sends all before later result
front_sent before now later all left part rest goes_on (Ok went) so_far is front same = absurd same.1
front_sent before now later all left part rest goes_on (Err handed) so_far is front same =
    subst (λ f. Sends all before later (Err f)) (sym same.1)
    (subst (WritesFront before later) (sym (so_far.lines ∙ ap (λ xs. so_far.written ++ sent_lines xs) is ∙ ap (λ xs. so_far.written ++ xs) (lines_then part rest)))
    (front_behind before now later so_far.written (sent_lines part ++ sent_lines rest) so_far.appends
    (front_before now later (sent_lines part) (sent_lines rest) front)))

-- the lines that are left begin with those of the happening at its place
pub next_sent : (sent : List Sent) (i : ℕ) (one : Sent) → i < length sent → one ≡ get_or sent i one
    → all_sent (drop i sent) ≡ sent_of one ++ all_sent (drop (i + 1) sent)
next_sent sent i one within is =
    let later : i + 1 ≡ suc i = omega arith in
    ap all_sent (drop-cons sent i one within) ∙ ap (λ first. sent_of first ++ all_sent (drop (suc i) sent)) (sym is)
    ∙ ap (λ n. sent_of one ++ all_sent (drop n sent)) (sym later)

-- the texts that are left begin with the one at its place
pub next_text : (line : List ℕ → SentData) (texts : List (List ℕ)) (i : ℕ) (one : List ℕ) → i < length texts → one ≡ get_or texts i one
    → map line (drop i texts) ≡ line one ∷ map line (drop (i + 1) texts)
next_text line texts i one within is =
    let later : i + 1 ≡ suc i = omega arith in
    ap (map line) (drop-cons texts i one within)
    ∙ ap (λ first. line first ∷ map line (drop (suc i) texts)) (sym is)
    ∙ ap (λ n. line one ∷ map line (drop n texts)) (sym later)

-- the lines that were sent for one happening, if the result is handed on
pub sent_handed : (sent : List SentData) (before after : Option (List ℕ)) (fault : StepFault) (result : Result Bool StepFault)
    → Sends sent before after (Err fault) → IsErr result × IsErrAnd result (λ handed. handed ≡ fault) → WritesFront before after (sent_lines sent) × (fault ≡ Write)
sent_handed sent before after Write result sends same = (sends, refl)
sent_handed sent before after Malformed result sends same = absurd sends
sent_handed sent before after NoMemory result sends same = absurd sends

-- the writer failed within the lines of the next happening
pub next_front : (before now later : Option (List ℕ)) (all left part rest : List SentData) (goes_on : Bool) (fault : StepFault)
    (result : Result Bool StepFault) → SentSoFar before now all goes_on left → left ≡ part ++ rest
    → Sends part now later (Err fault) → IsErr result × IsErrAnd result (λ handed. handed ≡ fault) → Sends all before later result
next_front before now later all left part rest goes_on fault result so_far is sends same =
    let handed = sent_handed part now later fault result sends same in
    front_sent before now later all left part rest goes_on result so_far is handed.0
    (subst (λ (f : StepFault). IsErr result × IsErrAnd result (λ handed. handed ≡ f)) handed.1 same)

-- all lists were written
pub whole_lists : (before now : Option (List ℕ)) (all left : List SentData) (goes_on : Bool) → SentSoFar before now all goes_on left
    → left ≡ [] → Appends before now (sent_lines all)
whole_lists before now all left goes_on so_far none = (whole_sent before now all left goes_on so_far none).1

-- the writer failed within a list
pub front_lists : (before now later : Option (List ℕ)) (all left rest : List SentData) (one : SentData) (goes_on : Bool)
    (result : Result (Unit {0}) StepFault) → SentSoFar before now all goes_on left → left ≡ one ∷ rest
    → WritesFront now later (sent_line one.client one.text)
    → IsErr result × IsErrAnd result (λ handed. handed ≡ Write) → SendsAll all before later result
front_lists before now later all left rest one goes_on (Ok went) so_far is front same = absurd same.1
front_lists before now later all left rest one goes_on (Err handed) so_far is front same =
    subst (λ f. SendsAll all before later (Err f)) (sym same.1)
    (front_sent before now later all left (one ∷ []) rest goes_on (Err Write) so_far is
    (subst (WritesFront now later) (sym (append-nil (sent_line one.client one.text))) front) (refl, refl))

-- the line that is said is the bytes of it
bytes_said : (line : ReplyLine) (bytes : List ℕ) → line_in line ≡ Some bytes → line_bytes line ≡ bytes
bytes_said NoLine bytes is = absurd (cc is)
bytes_said (Whole line) bytes is = same_Some line.now bytes is
bytes_said (LongLine reply) bytes is = same_Some (reply.now ++ codes "\n") bytes is

-- the line of a reply that is there
pub line_some : (reply : Option (List ℕ)) (line : ReplyLine) → line_in line ≡ option_map (λ (text : List ℕ). text ++ codes "\n") reply
    → is_none (line_in line) ≡ false → (text : List ℕ) × (reply ≡ Some text) × (line_bytes line ≡ text ++ codes "\n")
line_some None line is some = absurd (false≢true (sym some ∙ ap is_none is))
line_some (Some text) line is some = (text, refl, bytes_said line (text ++ codes "\n") is)

-- there is no line, so there is no reply
pub reply_none : (known : Option (List ℕ)) (client : ℤ) (shuts : Bool) (reply line : Option (List ℕ))
    → line ≡ option_map (λ (text : List ℕ). text ++ codes "\n") reply → is_none line ≡ true
    → Sends (sent_for client shuts reply) known known (Ok true)
reply_none known client shuts None line is none = (refl, appends_none known)
reply_none known client shuts (Some text) line is none = absurd (false≢true (sym (ap is_none is) ∙ none))

-- a reply was written
pub reply_whole : (before now : Option (List ℕ)) (client : ℤ) (shuts went : Bool) (reply : Option (List ℕ)) (text : List ℕ) → reply ≡ Some text
    → went ≡ not shuts → Appends before now (sent_line (Some client) text) → Sends (sent_for client shuts reply) before now (Ok went)
reply_whole before now client shuts went reply text some says line =
    subst (λ r. Sends (sent_for client shuts r) before now (Ok went)) (sym some)
    (says ∙ by shuts, subst (Appends before now) (sym (append-nil (sent_line (Some client) text))) line)
  where
    by : (b : Bool) → not b ≡ not (b || false)
    by true = refl
    by false = refl

-- the writer failed within a reply
pub reply_fails : (before now : Option (List ℕ)) (client : ℤ) (shuts : Bool) (reply : Option (List ℕ)) (text : List ℕ)
    (result : Result Bool StepFault) → reply ≡ Some text → WritesFront before now (sent_line (Some client) text)
    → IsErr result × IsErrAnd result (λ handed. handed ≡ Write) → Sends (sent_for client shuts reply) before now result
reply_fails before now client shuts reply text (Ok went) some front same = absurd same.1
reply_fails before now client shuts reply text (Err handed) some front same =
    subst (λ f. Sends (sent_for client shuts reply) before now (Err f)) (sym same.1)
    (subst (λ r. Sends (sent_for client shuts r) before now (Err Write)) (sym some)
    (subst (WritesFront before now) (sym (append-nil (sent_line (Some client) text))) front))

-- the server never ends by lists
lists_stay : (client : ℤ) (lists : List (List ℕ)) → shuts (map (sent_list client) lists) ≡ false
lists_stay client [] = refl
lists_stay client (text ∷ lists) = lists_stay client lists

-- and never by the lines of a round
notes_stay : (lines : List (List ℕ)) → shuts (map sent_note lines) ≡ false
notes_stay [] = refl
notes_stay (text ∷ lines) = notes_stay lines

-- the lines of a round were written
pub notes_whole : (before now : Option (List ℕ)) (lines : List (List ℕ)) → Appends before now (sent_lines (map sent_note lines))
    → Sends (map sent_note lines) before now (Ok true)
notes_whole before now lines more = (sym (ap not (notes_stay lines)), more)

-- a reply and its lists were written
pub one_whole : (before now later : Option (List ℕ)) (first : List SentData) (client : ℤ) (lists : List (List ℕ)) (went : Bool)
    → Sends first before now (Ok went) → Appends now later (sent_lines (map (sent_list client) lists))
    → Sends (first ++ map (sent_list client) lists) before later (Ok went)
one_whole before now later first client lists went (says, appends) more = (
  says ∙ by (shuts first) ∙ ap (λ b. not (shuts first || b)) (sym (lists_stay client lists)) ∙ ap not (sym (shuts_then first (map (sent_list client) lists))),
  subst (Appends before later) (sym (lines_then first (map (sent_list client) lists)))
      (appends_then before now later (sent_lines first) (sent_lines (map (sent_list client) lists)) appends more),
)
  where
    by : (b : Bool) → not b ≡ not (b || false)
    by true = refl
    by false = refl

-- the writer failed within the reply
pub one_fails : (before now : Option (List ℕ)) (first lists : List SentData) (fault : StepFault) (result : Result Bool StepFault)
    → Sends first before now (Err fault) → IsErr result × IsErrAnd result (λ handed. handed ≡ fault)
    → Sends (first ++ lists) before now result
one_fails before now first lists fault result sends same =
    next_front before before now (first ++ lists) (first ++ lists) first lists true fault result
    (none_sent before (first ++ lists)) refl sends same

-- or within the lists after it
pub lists_fail : (before now later : Option (List ℕ)) (first lists : List SentData) (went : Bool) (fault : StepFault) (result : Result Bool StepFault)
    → Sends first before now (Ok went) → SendsAll lists now later (Err fault)
    → IsErr result × IsErrAnd result (λ handed. handed ≡ fault) → Sends (first ++ lists) before later result
lists_fail before now later first lists went fault (Ok goes) sends fails same = absurd same.1
lists_fail before now later first lists went Malformed (Err handed) sends fails same = absurd fails
lists_fail before now later first lists went NoMemory (Err handed) sends fails same = absurd fails
lists_fail before now later first lists went Write (Err handed) sends fails same =
    subst (λ f. Sends (first ++ lists) before later (Err f)) (sym same.1)
    (subst (WritesFront before later) (sym (lines_then first lists))
    (front_behind before now later (sent_lines first) (sent_lines lists) sends.1 fails))
