-- A session goes on by one event.
use Rattle.std.proofs.Common.{◌≡◌, ◌<◌, Bool, true, false, List, [], ◌∷◌, ◌++◌, ℕ, length, Option, inl, refl, sym, ap, subst, ◌∙◌}
use Rattle.std.specs.Io.KnownBytes.{Appends}
use Rattle.std.proofs.lemmas.List.{append-nil, append_assoc}
use Rattle.wq_stream.specs.declared.event.Event.{Event}
use Rattle.wq_session.specs.Out.{OutData}
use Rattle.wq_session.specs.Limit.{max_events}
use Rattle.wq_stream.specs.declared.event.Event.TheVariants.{Line, Long, Binary, Idle, End, Fault}
use Rattle.wq_ask.specs.Reading.{Asks}
use Rattle.wq_ask.specs.declared.ask.Ask.{Ask}
use Rattle.wq_session.specs.Desk.{StandData}
use Rattle.wq_crawl.specs.Ready.{KnownData}
use Rattle.wq_session.specs.Serving.{Does, GoesOn, IsAnswered, IsServed, PlaceData, Serves, written_for}
use Rattle.wq_base.specs.Writing.{WritesFront}
use Rattle.wq_base.proofs.Fronts.{appends_then}
use Rattle.wq_crawl.specs.Basis.{Basis}

-- an event that is no idle moment asks something, and the session answers it
pub does_other : (basis : Basis) (event : Event) (before : KnownData) (stand : StandData) (out : OutData) (after : KnownData) (left : StandData)
    → ((root : ℕ) → event ≡ Idle root → ⊥) → (ask : Ask) → Asks event ask → IsAnswered basis ask before stand out after left
    → Does basis event before stand out after left
does_other basis (Idle root) before stand out after left other ask asks it = absurd (other root refl)
does_other basis (Line line) before stand out after left other ask asks it = (ask, asks, it)
does_other basis Long before stand out after left other ask asks it = (ask, asks, it)
does_other basis Binary before stand out after left other ask asks it = (ask, asks, it)
does_other basis End before stand out after left other ask asks it = (ask, asks, it)
does_other basis Fault before stand out after left other ask asks it = (ask, asks, it)

pub goes_on_by : (basis : Basis) (before : PlaceData) (events : List Event) (lines : List ℕ) (now : PlaceData) (event : Event) (out : OutData) (after : PlaceData)
    → GoesOn basis before events lines now → Serves basis now event out after → out.goes_on ≡ true
    → GoesOn basis before (events ++ event ∷ []) (lines ++ written_for out) after
goes_on_by basis before [] lines now event out after (none, same) serves on = (
  out,
  after,
  [],
  subst (λ p. Serves basis p event out after) same serves,
  on,
  ap (λ l. l ++ written_for out) none ∙ sym (append-nil (written_for out)),
  (refl, refl),
)
goes_on_by basis before (first ∷ events) lines now event out after (given, next, rest, served, went_on, is, later) serves on = (
  given,
  next,
  rest ++ written_for out,
  served,
  went_on,
  ap (λ l. l ++ written_for out) is ∙ append_assoc (written_for given) rest (written_for out),
  goes_on_by basis next events rest now event out after later serves on,
)

-- a session ends well with an event after which it does not go on
pub ends_well : (basis : Basis) (before : PlaceData) (old mid new : Option (List ℕ)) (events : List Event) (lines : List ℕ) (now : PlaceData) (event : Event)
    (out : OutData) (after : PlaceData) (shut : Bool) → length events < max_events → GoesOn basis before events lines now → Serves basis now event out after
    → out.goes_on ≡ false → shut ≡ out.shuts → Appends old mid lines → Appends mid new (written_for out)
    → IsServed basis before old new after (record { shut = shut; fault = false })
ends_well basis before old mid new events lines now event out after shut few goes serves off shuts first second =
    inl (record {
      events = events;
      lines = lines;
      between = now;
      last = event;
      out = out;
      goes_on = goes;
      count = few;
      serves = serves;
      ends = λ _. off;
      shuts = shuts;
      wrote = appends_then old mid new lines (written_for out) first second;
    })

-- a session ends with an event whose lines were not written whole
pub ends_within : (basis : Basis) (before : PlaceData) (old mid new : Option (List ℕ)) (events : List Event) (lines : List ℕ) (now : PlaceData) (event : Event)
    (out : OutData) (after : PlaceData) (shut : Bool) → length events < max_events → GoesOn basis before events lines now → Serves basis now event out after
    → shut ≡ out.shuts → Appends old mid lines → WritesFront mid new (written_for out)
    → IsServed basis before old new after (record { shut = shut; fault = true })
ends_within basis before old mid new events lines now event out after shut few goes serves shuts first front =
    inl (record {
      events = events;
      lines = lines;
      between = now;
      last = event;
      out = out;
      goes_on = goes;
      count = few;
      serves = serves;
      ends = λ failed. absurd (cc failed);
      shuts = shuts;
      wrote = (mid, first, front);
    })
