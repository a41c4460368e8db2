-- How many threads walk a tree: as many as its disk can use. The number is the walker's own, and from no public
-- document.
use Rattle.std.specs.Prelude.{ℕ, ◌*◌, ◌-◌, ◌<◌, ◌≤◌, ◌⊎◌, min}

-- the time, in nanoseconds, that a thread waited for its disk or for a processor, if it took so long by the clock and
-- worked so long: all but its work, and no more than a machine word holds
abbrev pub time_waited : ℕ → ℕ → ℕ
time_waited took worked = min (took - worked) 18_446_744_073_709_551_615

-- threads that looked at so many files, and in all worked and waited for so many nanoseconds, found the disk slow: they
-- waited over 25 microseconds for each file; each of so many threads would have waited over 10 milliseconds; and so
-- many threads, with as much work beside their waiting, would not keep one processor busy
abbrev pub IsSlow : ℕ → ℕ → ℕ → ℕ → Type 0
IsSlow threads files worked waited =
    (files * 25_000 < waited) × (threads * 10_000_000 < waited) × (threads * worked < waited)

-- they found the disk quick: they waited no longer than 8 microseconds for each file, or half as many threads would
-- keep a processor busy
abbrev pub IsQuick : ℕ → ℕ → ℕ → ℕ → Type 0
IsQuick threads files worked waited = (waited ≤ files * 8_000) ⊎ (waited * 2 < threads * worked)
