-- The grammar of clock specs: the texts by which each of them may be written. The source is
-- Watchman's documentation of clockspecs. The limits are this server's own.
use Rattle.std.specs.Prelude.{ℕ, ◌≡◌, ◌≤◌, List, ◌++◌, length, codes}
use Rattle.wq_base.specs.Limit.{max_number}
use Rattle.wq_clock.specs.Limit.{max_cursor_name}
use Rattle.wq_clock.specs.Instance.{IsInRange}
use Rattle.wq_clock.specs.ClockText.{clock_text, old_clock_text}
use Rattle.wq_clock.specs.ClockSpec.{SpecData, clock_id, old_clock_id, named_cursor}

-- a clock id has one text; any two numbers make an old one; a cursor's name is after `n:`
abbrev pub IsClockSpelling : SpecData → List ℕ → Type 0
IsClockSpelling (clock_id instance tick) text =
    IsInRange instance × (tick ≤ max_number) × (text ≡ clock_text instance tick)
IsClockSpelling old_clock_id text =
    (pid : ℕ) × (tick : ℕ) × (pid ≤ max_number) × (tick ≤ max_number)
    × (text ≡ old_clock_text pid tick)
IsClockSpelling (named_cursor name) text =
    (1 ≤ length name) × (length name ≤ max_cursor_name) × (text ≡ codes "n:" ++ name)
