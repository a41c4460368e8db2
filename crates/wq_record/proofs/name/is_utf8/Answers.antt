-- A text is read exactly if the test of its bytes passes.
use Rattle.std.proofs.Common.{◌≡◌, ℕ, List, true, false, Result, Ok, Err, is_ok, MatchResult, IsUtf8, sym, refl, ◌∙◌}
use Rattle.std.specs.Str.{is_utf8}
use Rattle.std.proofs.lemmas.Str.{IsUtf8-from_is_utf8, is_utf8-from_IsUtf8}
use Rattle.wq_record.proofs.name.is_utf8.Goals as goal

tested : {T E : Type 0} (bytes : List ℕ) (P : T → Type 0) (Q : E → Type 0) (r : Result T E) → MatchResult r (λ s. P s × IsUtf8 bytes) (λ e. ¬ (IsUtf8 bytes) × Q e) → is_ok r ≡ is_utf8 bytes
tested bytes P Q (Ok s) is = sym (is_utf8-from_IsUtf8 bytes is.1)
tested bytes P Q (Err e) is = elim (is_utf8 bytes) as (λ b. is_utf8 bytes ≡ b → false ≡ b) [
  | true ↦ λ h. absurd (is.0 (IsUtf8-from_is_utf8 bytes h))
  | false ↦ λ h. refl
] refl

pub returns : goal.returns
returns c = c.is_ok.ensures.value ∙ tested c.args.bytes.now _ _ c.from_utf8.result c.from_utf8.ensures.cases
