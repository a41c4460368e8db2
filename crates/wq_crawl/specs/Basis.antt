-- What a session's looks stand on: the run of the server, and what is said of lists of events.
-- It is this server's own.
use Rattle.std.specs.Prelude.{List}
use Rattle.wq_clock.specs.declared.run.Run.{Run}
use Rattle.wq_live.specs.declared.event.RootEvent.{RootEvent}

-- the run, the lists that were published, and the lists with which a look was refused
pub record Basis : Type 1 where
  pub run : Run
  pub published : List RootEvent → Type 0
  pub refused : List RootEvent → Type 0

-- the basis, from its parts
abbrev pub basis_of : Run → (List RootEvent → Type 0) → (List RootEvent → Type 0) → Basis
basis_of run published refused =
    record { run = run; published = published; refused = refused }
