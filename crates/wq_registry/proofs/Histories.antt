-- The results of lists of accepted calls.
use Rattle.std.proofs.Common.{◌≡◌, List, [], ◌∷◌, refl}
use Rattle.wq_registry.specs.Change.{made}
use Rattle.wq_registry.specs.Shelf.{ShelfData, blank}
use Rattle.wq_registry.specs.History.{Call, adds_program, removes_program, adds_root, removes_root, uses_cursor, unsets_cursor, adds_trigger, removes_trigger, after, after_all, program_changes, ProgramsAreMade}

module _ {T : Type 0} where
  -- programs come of the calls for programs
  programs-made : (calls : List (Call T)) (s : ShelfData T) → (after_all calls s).programs ≡ made (program_changes calls) s.programs
  programs-made [] s = refl
  programs-made (adds_program name program ∷ cs) s = programs-made cs (after (adds_program name program) s)
  programs-made (removes_program name ∷ cs) s = programs-made cs (after (removes_program name) s)
  programs-made (adds_root text number ∷ cs) s = programs-made cs (after (adds_root text number) s)
  programs-made (removes_root number ∷ cs) s = programs-made cs (after (removes_root number) s)
  programs-made (uses_cursor root name tick ∷ cs) s = programs-made cs (after (uses_cursor root name tick) s)
  programs-made (unsets_cursor root name ∷ cs) s = programs-made cs (after (unsets_cursor root name) s)
  programs-made (adds_trigger root name trigger ∷ cs) s = programs-made cs (after (adds_trigger root name trigger) s)
  programs-made (removes_trigger root name ∷ cs) s = programs-made cs (after (removes_trigger root name) s)

-- the law of programs
pub programs_are_made : {T : Type 0} → ProgramsAreMade T
programs_are_made calls sockname = programs-made calls (blank sockname)
