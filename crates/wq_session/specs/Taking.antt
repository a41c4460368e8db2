-- The results of the parts of taking a query: its program, and the bound that its cursor sets.
-- It is this server's own.
use Rattle.std.specs.Prelude.{◌≡◌, ℕ, true, false, List, Some, None, option_map, Result, Ok, Err}
use Rattle.std.specs.declared.alloc.Global.{Global}
use Rattle.std.specs.declared.sync.Arc.{Arc}
use Rattle.wq_clock.specs.declared.bound.Bound.{Bound}
use Rattle.wq_code.specs.declared.raw.Raw.{Raw}
use Rattle.wq_compile.specs.Large.{is_too_large}
use Rattle.wq_reply.specs.Meaning.{AnswersWithin}
use Rattle.wq_query.specs.Query.{QueryData, SinceData}
use Rattle.wq_registry.specs.ByName.{under}
use Rattle.wq_ask.specs.declared.refusal.Refusal.{Refusal}
use Rattle.wq_ask.specs.declared.refusal.Refusal.TheVariants.{NoSuchProgram, ProgramTooLarge}
use Rattle.wq_ask.specs.declared.refusal.Refusal.TheVariants.{ShelfFull, NoMemory}
use Rattle.wq_session.specs.At.{ShelfNow}
use Rattle.wq_session.specs.Query.{program_for, bound_at, has_place, used_at}

-- the program of a query: the one that the query names, or one that answers what its expression
-- means within its measure; or the reason why there is none; or memory ran out
abbrev pub FindsProgram : QueryData → ShelfNow → Result (Arc Raw Global) Refusal → Type 0
FindsProgram q shelf (Ok program) =
    (program_for q shelf ≡ Ok (option_map (λ _. program.value) q.program))
    × (q.program ≡ None → AnswersWithin program.value q.expression)
FindsProgram q shelf (Err NoMemory) = Unit {0}
FindsProgram q shelf (Err refusal) = program_for q shelf ≡ Err refusal

-- the program of a name
abbrev pub FindsNamed : List ℕ → ShelfNow → Result (Arc Raw Global) Refusal → Type 0
FindsNamed name shelf (Ok program) = under name shelf.programs ≡ Some program.value
FindsNamed name shelf (Err NoMemory) = Unit {0}
FindsNamed name shelf (Err NoSuchProgram) = under name shelf.programs ≡ None
FindsNamed name shelf (Err _) = ⊥

-- the program of an expression
abbrev pub FindsCompiled : QueryData → Result (Arc Raw Global) Refusal → Type 0
FindsCompiled q (Ok program) =
    AnswersWithin program.value q.expression × (is_too_large q.expression ≡ false)
FindsCompiled q (Err NoMemory) = Unit {0}
FindsCompiled q (Err ProgramTooLarge) = is_too_large q.expression ≡ true
FindsCompiled q (Err _) = ⊥

-- the bound that a query sets, with the shelf on which its cursor was moved; or there is no place
-- for the cursor, or memory ran out, and the shelf stays
abbrev pub MovesCursor : SinceData → ℕ → ℕ → ShelfNow → Result Bound Refusal → ShelfNow → Type 0
MovesCursor since root tick shelf (Ok bound) after =
    (has_place root since shelf ≡ true) × (bound ≡ bound_at root since shelf)
    × (after ≡ used_at root since tick shelf)
MovesCursor since root tick shelf (Err NoMemory) after = after ≡ shelf
MovesCursor since root tick shelf (Err ShelfFull) after =
    (has_place root since shelf ≡ false) × (after ≡ shelf)
MovesCursor since root tick shelf (Err _) after = ⊥
