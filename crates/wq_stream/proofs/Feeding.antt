-- The events that a piece adds, by the rest that the splitter keeps.
use Rattle.std.proofs.Common.{◌≡◌, ℕ, Bool, true, false, List, [], ◌++◌, Option, None, Some, sym, ap, ◌∙◌}
use Rattle.wq_stream.specs.Stream.{Adds, events_of, kept_of}
use Rattle.wq_stream.specs.Told.{Tells, kept_as}
use Rattle.wq_stream.specs.declared.event.Event.{Event}
use Rattle.wq_stream.specs.declared.piece.Told.{Told}
use Rattle.wq_stream.proofs.Adding.{adds_none, adds_some}

-- no events, if the stream has ended
pub none_fed : (ended : Bool) (rest : List ℕ) (value : Option (List ℕ)) (piece : List ℕ) (events : List Event) → kept_as ended rest ≡ value → ended ≡ true → events ≡ [] → (stream : List ℕ) → value ≡ kept_of stream → Adds stream piece events value
none_fed ended rest value piece events shows is_ended none stream is =
    let nothing : None ≡ value = ap (λ b. kept_as b rest) (sym is_ended) ∙ shows in
    let adds : Adds stream piece [] None = adds_none stream piece (nothing ∙ is) in
    record { events_are = adds.events_are ∙ ap (λ e. events_of stream ++ e) (sym none); kept_is = sym nothing ∙ adds.kept_is }

-- otherwise, the events of the rest with the piece after it
pub some_fed : (ended : Bool) (rest : List ℕ) (value : Option (List ℕ)) (piece : List ℕ) (told : Told) (after : List ℕ) → kept_as ended rest ≡ value → ended ≡ false → Tells (rest ++ piece) told after → (stream : List ℕ) → value ≡ kept_of stream → Adds stream piece told.events.items (kept_as told.has_ended after)
some_fed ended rest value piece told after shows goes_on tells stream is =
    let kept : Some rest ≡ value = ap (λ b. kept_as b rest) (sym goes_on) ∙ shows in
    let adds : Adds stream piece (events_of (rest ++ piece)) (kept_of (rest ++ piece)) = adds_some stream rest piece (kept ∙ is) in
    record {
      events_are = adds.events_are ∙ ap (λ e. events_of stream ++ e) (sym tells.events_are);
      kept_is = tells.kept_is ∙ adds.kept_is;
    }
