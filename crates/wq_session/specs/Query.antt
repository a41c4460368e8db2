-- The beginning of `query`, the files of a root, or those that changed. This is what the query
-- takes from the shelf, and leaves there: its program and its cursor. From Watchman's documentation
-- of `query` and of named cursors; programs are this server's own.
use Rattle.std.specs.Prelude.{ℕ, Bool, true, not, List}
use Rattle.std.specs.Prelude.{Option, Some, None, Result, Ok}
use Rattle.serde_json.specs.Data.{Data}
use Rattle.wq_base.specs.Fault.{or_fault, or_its_fault, or_own_fault, unless_fault}
use Rattle.wq_clock.specs.declared.bound.Bound.{Bound}
use Rattle.wq_clock.specs.declared.bound.Bound.TheVariants.{Fresh, Tick}
use Rattle.wq_code.specs.declared.raw.Raw.{Raw}
use Rattle.wq_compile.specs.Large.{is_too_large}
use Rattle.wq_query.specs.Query.{QueryData, SinceData, at_bound, at_cursor}
use Rattle.wq_reply.specs.Plan.{PlanData}
use Rattle.wq_query.specs.Reading.{asks as query_of}
use Rattle.wq_registry.specs.Limit.{max_cursors}
use Rattle.wq_registry.specs.ByName.{has_no_place, under}
use Rattle.wq_registry.specs.Shelf.{cursor_used, cursors_of}
use Rattle.wq_session.specs.declared.cursor.Cursor.{Cursor}
use Rattle.wq_ask.specs.declared.refusal.Refusal.{Refusal}
use Rattle.wq_ask.specs.declared.refusal.Refusal.TheVariants.{NotWatched, Query}
use Rattle.wq_ask.specs.declared.refusal.Refusal.TheVariants.{NoSuchProgram, ProgramTooLarge, ShelfFull}
use Rattle.wq_crawl.specs.At.{AtData}
use Rattle.wq_session.specs.At.{ShelfNow}
use Rattle.wq_session.specs.Work.{BegunData, evaluates}

-- the program of a name, if a query has one; without a name its expression needs a program
abbrev pub program_named : Option (List ℕ) → QueryData → ShelfNow → Result (Option Raw) Refusal
program_named None q shelf =
    unless_fault ProgramTooLarge (not (is_too_large q.expression)) (Ok None)
program_named (Some name) q shelf =
    or_fault NoSuchProgram (under name shelf.programs) (λ raw. Ok (Some raw))

-- the program that selects the files of a query; there is none if the expression selects them
abbrev pub program_for : QueryData → ShelfNow → Result (Option Raw) Refusal
program_for q shelf = program_named q.program q shelf

-- the bound of a cursor with this tick, if it has one: at its first use the client knows nothing
abbrev pub since_tick : Option ℕ → Bound
since_tick None = Fresh
since_tick (Some tick) = Tick tick

-- the bound of a query of a root
abbrev pub bound_at : ℕ → SinceData → ShelfNow → Bound
bound_at root (at_bound bound) shelf = bound
bound_at root (at_cursor name) shelf = since_tick (under name (cursors_of root shelf))

-- whether the root has a place for the cursor of a query
abbrev pub has_place : ℕ → SinceData → ShelfNow → Bool
has_place root (at_bound bound) shelf = true
has_place root (at_cursor name) shelf = not (has_no_place max_cursors name (cursors_of root shelf))

-- the shelf after a query was answered at a tick: its cursor, if it has one, was used there
abbrev pub used_at : ℕ → SinceData → ℕ → ShelfNow → ShelfNow
used_at root (at_bound bound) tick shelf = shelf
used_at root (at_cursor name) tick shelf = cursor_used root name tick shelf

-- the cursor that a query uses
abbrev pub moved_cursor : ℕ → SinceData → Option Cursor
moved_cursor root (at_bound bound) = None
moved_cursor root (at_cursor name) = Some (record { root = root; name = name })

-- the plan of a query of a root, by the program that it names, if it names one
abbrev pub plan_at : ℕ → QueryData → Option Raw → ShelfNow → PlanData
plan_at root q program shelf =
    record { query = q; bound = bound_at root q.since shelf; program = program }

-- the files of a query that was read, of a root at a tick
abbrev pub begun_read_query : ℕ → ℕ → QueryData → ShelfNow → Result BegunData Refusal
begun_read_query root tick q shelf =
    or_own_fault (program_for q shelf) (λ program.
    unless_fault ShelfFull (has_place root q.since shelf) (
    Ok (record {
      work = evaluates (plan_at root q program shelf) (moved_cursor root q.since);
      shelf = used_at root q.since tick shelf;
    })))

-- the beginning of `query` at its root
abbrev pub begun_query : Data → AtData → ShelfNow → Result BegunData Refusal
begun_query d at shelf =
    or_fault NotWatched at.view (λ view.
    or_its_fault Query (query_of at.instance d) (λ q.
    begun_read_query (at.instance).root view.tick q shelf))
