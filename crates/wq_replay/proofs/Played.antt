-- The lines of a script are played from the front.
use Rattle.std.proofs.Common.{ℕ, suc, List, [], ◌∷◌, ◌++◌, Option, refl, sym, ap, subst, ◌∙◌, arith, rules}
use Rattle.std.proofs.lemmas.List.{append-nil, append_assoc, length-append}
use Rattle.std.specs.Io.KnownBytes.{Appends}
use Rattle.wq_live.specs.Event.{IsLawfulList}
use Rattle.wq_replay.specs.Line.{lines_of}
use Rattle.wq_replay.specs.Replay.{DoesLine, FirstLines, Plays}
use Rattle.wq_replay.specs.Stage.{StageData, start, turn_of}
use Rattle.wq_base.proofs.Fronts.{appends_none, appends_then}

-- one more line after those that were played
pub plays_then : (stage at next : StageData) (lines : List (List ℕ)) (line written sent : List ℕ) → Plays stage lines written at
    → DoesLine at (turn_of at line) sent next → Plays stage (lines ++ line ∷ []) (written ++ sent) next
plays_then stage at next [] line written sent (none, is) does =
    (next, sent, [], subst (λ s. DoesLine s (turn_of s line) sent next) is does, ap (λ w. w ++ sent) none ∙ sym (append-nil sent), (refl, refl))
plays_then stage at next (first ∷ lines) line written sent (second, front, later, did, is, plays) does =
    (second, front, later ++ sent, did, ap (λ w. w ++ sent) is ∙ append_assoc front later sent, plays_then second at next lines line later sent plays does)

-- the events of a new world are lawful
start_lawful : IsLawfulList (start.world).events
start_lawful = record { numbers = refl; known = search rules; differ = λ number. tt }

-- at the start nothing is played
pub first_none : (script : List ℕ) (before : Option (List ℕ)) → FirstLines script before before 0 start (lines_of script)
first_none script before = record {
  first = [];
  written = [];
  lines = refl;
  count_is = refl;
  plays = (refl, refl);
  appends = appends_none before;
  lawful = start_lawful;
}

-- one more line was played
pub first_then : (script : List ℕ) (before now later : Option (List ℕ)) (count : ℕ) (at next : StageData) (line sent : List ℕ)
    (left : List (List ℕ)) → FirstLines script before now count at (line ∷ left) → DoesLine at (turn_of at line) sent next
    → Appends now later sent → IsLawfulList (next.world).events → FirstLines script before later (suc count) next left
first_then script before now later count at next line sent left first does appends lawful =
    let counted = first.count_is in record {
      first = first.first ++ line ∷ [];
      written = first.written ++ sent;
      lines = first.lines ∙ sym (append_assoc first.first (line ∷ []) left);
      count_is = length-append first.first (line ∷ []) ∙ omega (arith, counted);
      plays = plays_then start at next first.first line first.written sent first.plays does;
      appends = appends_then before now later first.written sent first.appends appends;
      lawful = lawful;
    }

-- nothing more was written
pub first_kept : (script : List ℕ) (before now later : Option (List ℕ)) (count : ℕ) (at : StageData)
    (left : List (List ℕ)) → FirstLines script before now count at left → Appends now later []
    → FirstLines script before later count at left
first_kept script before now later count at left first appends = record {
  first = first.first;
  written = first.written;
  lines = first.lines;
  count_is = first.count_is;
  plays = first.plays;
  appends = subst (Appends before later) (append-nil first.written) (appends_then before now later first.written [] first.appends appends);
  lawful = first.lawful;
}
