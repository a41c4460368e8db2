-- The starts that fail, and the lines that tell the operator of them. It is this server's own.
use Rattle.std.specs.Prelude.{◌≡◌, ℕ, Bool, not, ◌&&◌, ◌||◌, nat_lt, if◌then◌else◌, List, [], ◌∷◌, ◌++◌}
use Rattle.std.specs.Prelude.{length, filter, drop, codes, Option, Some, None}
use Rattle.std.specs.List.{list_any}
use Rattle.std.specs.Str.{bytes_eq}
use Rattle.serde_json.specs.Data.{string}
use Rattle.serde_json.specs.Written.{compact_text}
use Rattle.wq_launch.specs.Limit.{max_failing}
use Rattle.wq_launch.specs.declared.failures.FailedStart.{FailedStart}

-- the failing starts of which the operator was told, and those of which he was not told yet
pub record FailingData : Type 0 where
  pub told : List FailedStart
  pub untold : List FailedStart

-- whether a start is one of this trigger of this root
abbrev pub is_start_of : List ℕ → List ℕ → FailedStart → Bool
is_start_of root trigger f = bytes_eq root f.root && bytes_eq trigger f.trigger

-- whether a start failed before in the same way
abbrev pub is_known : FailedStart → List FailedStart → Bool
is_known failed starts =
    list_any (λ f. is_start_of failed.root failed.trigger f && bytes_eq failed.words f.words) starts

-- the failing starts but those of a trigger
abbrev pub without_failure : List ℕ → List ℕ → List FailedStart → List FailedStart
without_failure root trigger starts = filter (λ f. not (is_start_of root trigger f)) starts

-- the starts with one more, and without the first one if there is no room
abbrev pub with_failure : FailedStart → List FailedStart → List FailedStart
with_failure failed starts =
    (if nat_lt (length starts) max_failing then starts else drop 1 starts) ++ failed ∷ []

-- a text as a JSON string
unfoldable pub quoted : List ℕ → List ℕ
quoted text = compact_text (string text)

-- the line that tells of a failing start. The root and the trigger are JSON strings in it, so it is
-- one line whatever they are called
abbrev pub failure_line : FailedStart → List ℕ
failure_line f =
    quoted f.root ++ (codes ": trigger " ++ (quoted f.trigger
    ++ (codes " could not be started: " ++ f.words)))

-- the failing starts after one of this trigger did not fail
abbrev pub after_success : List ℕ → List ℕ → FailingData → FailingData
after_success root trigger f = record {
  told = without_failure root trigger f.told;
  untold = without_failure root trigger f.untold;
}

-- the failing starts after one failed: if it did not fail in this way before, the operator is to be
-- told
abbrev pub after_failure : FailedStart → FailingData → FailingData
after_failure failed f =
    if is_known failed f.told || is_known failed f.untold then f
    else record {
      told = without_failure failed.root failed.trigger f.told;
      untold = with_failure failed (without_failure failed.root failed.trigger f.untold);
    }

-- the operator is told of the first failing start of which he was not told, if there is one
abbrev pub TellsFirst : FailingData → Option (List ℕ) → FailingData → Type 0
TellsFirst old None new = (old.untold ≡ []) × (new ≡ old)
TellsFirst old (Some line) new = (f : FailedStart) × (old.untold ≡ f ∷ new.untold)
    × (line ≡ failure_line f) × (new.told ≡ with_failure f old.told)
