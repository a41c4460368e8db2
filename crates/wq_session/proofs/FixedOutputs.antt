-- Outputs whose replies are fixed.
use Rattle.std.proofs.Common.{◌≡◌, ℕ, Bool, true, false, not, ◌||◌, List, [], Option, Some, None, refl, ap, ◌∙◌}
use mathlib.Core.Bool.{false≢true}
use Rattle.serde_json.specs.Written.{compact_text}
use Rattle.wq_ask.specs.Refusal.{ends_session, is_fixed, is_no_memory}
use Rattle.wq_ask.specs.Reply.{error_data, reply_line}
use Rattle.wq_ask.specs.Server.{shutdown_data, version_data}
use Rattle.wq_ask.specs.declared.fixed.TheConstants.{NO_MEMORY, SHUTS_DOWN, VERSION_ALONE}
use Rattle.wq_ask.specs.declared.refusal.Refusal.{Refusal}
use Rattle.wq_ask.specs.declared.refusal.Refusal.TheVariants.{NoMemory}
use Rattle.wq_ask.proofs.Constants.{ran_out, shuts_down, version_alone}
use Rattle.wq_session.specs.Line.{line_text}
use Rattle.wq_session.specs.Out.{OutData, refuses, replies, runs_out, saying_text, shuts_with}
use Rattle.wq_session.specs.declared.cursor.Cursor.{Cursor}
use Rattle.wq_session.proofs.Newlines.{kept_text}

-- a refusal whose line is not kept does not end the session
pub goes_on : (refusal : Refusal) → false ≡ is_fixed refusal → ends_session refusal ≡ false
goes_on refusal is = by (ends_session refusal) is
  where
    by : (ends : Bool) → false ≡ (ends || is_no_memory refusal) → ends ≡ false
    by true is = absurd (false≢true is)
    by false is = refl

-- the output of the line that is kept for a refusal
pub fixed_said : (refusal : Refusal) (line : List ℕ) (ends : Bool) → line ≡ reply_line (error_data refusal)
    → ends ≡ ends_session refusal
    → (record { reply = Some (line_text line); lists = []; goes_on = not ends; shuts = false; unset = None }) ≡ refuses refusal
fixed_said refusal line ends is same =
    ap (λ t. said t (not ends)) (kept_text (compact_text (error_data refusal)) line is)
    ∙ ap (λ e. said (compact_text (error_data refusal)) (not e)) same
  where
    said : List ℕ → Bool → OutData
    said text goes_on = record { reply = Some text; lists = []; goes_on = goes_on; shuts = false; unset = None }

-- that memory ran out
pub ran_out_said : (cursor : Option Cursor)
    → (record { reply = Some (line_text NO_MEMORY.now); lists = []; goes_on = true; shuts = false; unset = cursor }) ≡ runs_out cursor
ran_out_said cursor =
    ap (λ t. said t) (kept_text (compact_text (error_data NoMemory)) NO_MEMORY.now ran_out)
  where
    said : List ℕ → OutData
    said text = record { reply = Some text; lists = []; goes_on = true; shuts = false; unset = cursor }

-- the version alone
pub version_said : (record { reply = Some (line_text VERSION_ALONE.now); lists = []; goes_on = true; shuts = false; unset = None }) ≡ replies version_data
version_said = ap saying_text (kept_text (compact_text version_data) VERSION_ALONE.now version_alone)

-- that the server ends
pub shutdown_said : (record { reply = Some (line_text SHUTS_DOWN.now); lists = []; goes_on = false; shuts = true; unset = None }) ≡ shuts_with shutdown_data
shutdown_said = ap (λ t. said t) (kept_text (compact_text shutdown_data) SHUTS_DOWN.now shuts_down)
  where
    said : List ℕ → OutData
    said text = record { reply = Some text; lists = []; goes_on = false; shuts = true; unset = None }
