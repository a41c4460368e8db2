-- The pace of the rounds of crawls that nobody asked for. It is the server's own, and from no
-- public document.
use Rattle.std.specs.Prelude.{ℕ, ◌*◌, ◌+◌, ◌/◌, ◌≤◌, ◌<◌, min, List, sum_by}
use Rattle.std.specs.Duration.{max_nanos}

-- the walks of a root take at most this part of a processor in millionths: a walk takes so long,
-- and then comes a pause
abbrev pub KeepsPart : ℕ → ℕ → ℕ → Type 0
KeepsPart part walk pause = walk * 1_000_000 ≤ part * (walk + pause)

-- how many millionths of a processor a root needs, if a walk of it takes so long and it is walked
-- at each interval
abbrev pub need_at : ℕ → ℕ → ℕ
need_at interval walk = min (walk * 1_000_000 / (walk + interval) + 1) 1_000_000

-- needs of which none gets more than a level, in all
abbrev pub cut_to : ℕ → List ℕ → ℕ
cut_to level needs = sum_by (λ need. min need level) needs

-- the pause of a root that sits out so many turns, if else a walk takes so long and this pause comes
-- after it: each turn that it sits out lasts as long as a walk and a pause
abbrev pub pause_out : ℕ → ℕ → ℕ → ℕ
pause_out turns walk pause = pause + turns * (walk + pause)

-- from the begin of a walk to that of the next there is one turn more than a root sits out, each as
-- long as a walk and the interval at least; or the longest time
abbrev pub SitsOut : ℕ → ℕ → ℕ → ℕ → Type 0
SitsOut turns interval walk pause =
    min ((turns + 1) * (walk + interval)) max_nanos ≤ walk + pause

-- a root that sits out so many turns takes no more than one of that and one more parts of a part of
-- a processor in millionths, unless its pause is the longest time: half of it with one turn, and a
-- third with two
abbrev pub TakesLess : ℕ → ℕ → ℕ → ℕ → Type 0
TakesLess part turns walk pause =
    pause < max_nanos → (turns + 1) * (walk * 1_000_000) ≤ part * (walk + pause)
