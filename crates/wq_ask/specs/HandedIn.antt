-- The programs that asks hand in.
-- It is this server's own.
use Rattle.wq_stream.specs.declared.event.Event.{Event}
use Rattle.wq_verify.specs.Typing.{IsValid}
use Rattle.wq_ask.specs.Reading.{Asks}
use Rattle.wq_ask.specs.declared.ask.Ask.{Ask}
use Rattle.wq_ask.specs.declared.ask.Ask.TheVariants.{OfShelf}
use Rattle.wq_ask.specs.declared.ask.ShelfAsk.TheVariants.{AddProgram}

-- an ask hands in no program that may not run
abbrev pub HandsInValid : Ask → Type 0
HandsInValid (OfShelf (AddProgram name program)) = IsValid program
HandsInValid _ = Unit {0}

-- no ask of an event hands in a program that may not run
abbrev pub AsksHandInValid : Type 0
AsksHandInValid = (event : Event) (ask : Ask) → Asks event ask → HandsInValid ask
