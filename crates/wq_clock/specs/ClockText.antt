-- The texts of clock ids, of today's form and of the old one, `c:<pid>:<tick>`. The source is
-- Watchman's documentation of clockspecs (clock ids).
use Rattle.std.specs.Prelude.{ℕ, List, ◌++◌, codes}
use Rattle.std.specs.Fmt.{decimal}
use Rattle.wq_clock.specs.Instance.{InstanceData}

-- the four numbers in decimal, without leading zeros, after `c` and with a colon before each
abbrev pub clock_text : InstanceData → ℕ → List ℕ
clock_text instance tick =
    codes "c:" ++ (decimal instance.start ++ (codes ":" ++ (decimal instance.pid
    ++ (codes ":" ++ (decimal instance.root ++ (codes ":" ++ decimal tick))))))

-- the two numbers of a clock id in the old form
abbrev pub old_clock_text : ℕ → ℕ → List ℕ
old_clock_text pid tick = codes "c:" ++ (decimal pid ++ (codes ":" ++ decimal tick))
