-- The reply to `clock`, the last pass over a root.
-- From Watchman's documentation of this command.
use Rattle.std.specs.Prelude.{Result, Ok}
use Rattle.serde_json.specs.Data.{Data}
use Rattle.wq_base.specs.Fault.{or_fault}
use Rattle.wq_ask.specs.declared.refusal.Refusal.{Refusal}
use Rattle.wq_ask.specs.declared.refusal.Refusal.TheVariants.{NotWatched}
use Rattle.wq_ask.specs.Clock.{clock_data}
use Rattle.wq_clock.specs.ClockText.{clock_text}
use Rattle.wq_crawl.specs.At.{AtData}

-- the reply to `clock` at its root
abbrev pub clock_at : AtData → Result Data Refusal
clock_at at =
    or_fault NotWatched at.view (λ view. Ok (clock_data (clock_text at.instance view.tick)))
