-- Each program of a shelf was added by a call.
use Rattle.std.proofs.Common.{◌≡◌, ◌⊎◌, inl, inr, ℕ, Bool, true, false, List, [], ◌∷◌, Option, None, Some, is_some, true≢false, if◌then◌else◌, sym, ap, ◌∙◌}
use Rattle.std.specs.Str.{bytes_eq}
use Rattle.wq_code.specs.declared.raw.Raw.{Raw}
use Rattle.wq_registry.specs.ByName.{under}
use Rattle.wq_registry.specs.Change.{later, last_said}
use Rattle.wq_registry.specs.Shelf.{blank}
use Rattle.wq_registry.specs.History.{Call, adds_program, removes_program, adds_root, removes_root, uses_cursor, unsets_cursor, adds_trigger, removes_trigger, after_all, program_changes, AddsOne, ProgramsWereAdded}
use Rattle.wq_registry.proofs.Changes.{last_change_counts}
use Rattle.wq_registry.proofs.Histories.{programs_are_made}

module _ {T : Type 0} (name : List ℕ) (raw : Raw) where
  -- what is under a name after calls was there before, or a call added it
  was_added : (calls : List (Call T)) (before : Option Raw) → last_said name (program_changes calls) before ≡ Some raw
      → (before ≡ Some raw) ⊎ AddsOne raw calls
  was_added [] before is = inl is
  was_added (adds_program n program ∷ cs) before is = by (bytes_eq name n) (was_added cs (later (if bytes_eq name n then Some (Some program) else None) before) is)
    where
      by : (b : Bool) → (later (if b then Some (Some program) else None) before ≡ Some raw) ⊎ AddsOne raw cs
          → (before ≡ Some raw) ⊎ AddsOne raw (adds_program n program ∷ cs)
      by true (inl now) = let same : program ≡ raw = cc in inr (inl same)
      by false (inl there) = inl there
      by b (inr one) = inr (inr one)
  was_added (removes_program n ∷ cs) before is = by (bytes_eq name n) (was_added cs (later (if bytes_eq name n then Some None else None) before) is)
    where
      by : (b : Bool) → (later (if b then Some None else None) before ≡ Some raw) ⊎ AddsOne raw cs
          → (before ≡ Some raw) ⊎ AddsOne raw (removes_program n ∷ cs)
      by true (inl now) = absurd (true≢false (sym (ap is_some now)))
      by false (inl there) = inl there
      by b (inr one) = inr (inr one)
  was_added (adds_root text number ∷ cs) before is = on (was_added cs before is)
    where
      on : (before ≡ Some raw) ⊎ AddsOne raw cs → (before ≡ Some raw) ⊎ AddsOne raw (adds_root text number ∷ cs)
      on (inl there) = inl there
      on (inr one) = inr (inr one)
  was_added (removes_root number ∷ cs) before is = on (was_added cs before is)
    where
      on : (before ≡ Some raw) ⊎ AddsOne raw cs → (before ≡ Some raw) ⊎ AddsOne raw (removes_root number ∷ cs)
      on (inl there) = inl there
      on (inr one) = inr (inr one)
  was_added (uses_cursor root cursor tick ∷ cs) before is = on (was_added cs before is)
    where
      on : (before ≡ Some raw) ⊎ AddsOne raw cs → (before ≡ Some raw) ⊎ AddsOne raw (uses_cursor root cursor tick ∷ cs)
      on (inl there) = inl there
      on (inr one) = inr (inr one)
  was_added (unsets_cursor root cursor ∷ cs) before is = on (was_added cs before is)
    where
      on : (before ≡ Some raw) ⊎ AddsOne raw cs → (before ≡ Some raw) ⊎ AddsOne raw (unsets_cursor root cursor ∷ cs)
      on (inl there) = inl there
      on (inr one) = inr (inr one)
  was_added (adds_trigger root called trigger ∷ cs) before is = on (was_added cs before is)
    where
      on : (before ≡ Some raw) ⊎ AddsOne raw cs → (before ≡ Some raw) ⊎ AddsOne raw (adds_trigger root called trigger ∷ cs)
      on (inl there) = inl there
      on (inr one) = inr (inr one)
  was_added (removes_trigger root called ∷ cs) before is = on (was_added cs before is)
    where
      on : (before ≡ Some raw) ⊎ AddsOne raw cs → (before ≡ Some raw) ⊎ AddsOne raw (removes_trigger root called ∷ cs)
      on (inl there) = inl there
      on (inr one) = inr (inr one)

-- the law
pub programs_were_added : {T : Type 0} → ProgramsWereAdded T
programs_were_added calls sockname name raw is = only (was_added name raw calls None (sym at ∙ is))
  where
    at : under name (after_all calls (blank sockname)).programs ≡ last_said name (program_changes calls) None
    at = ap (under name) (programs_are_made calls sockname) ∙ last_change_counts (program_changes calls) name

    only : (None ≡ Some raw) ⊎ AddsOne raw calls → AddsOne raw calls
    only (inl none) = absurd (true≢false (sym (ap is_some none)))
    only (inr one) = one
