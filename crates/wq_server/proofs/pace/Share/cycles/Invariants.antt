-- the needs so far; then the cycles so far, whose walks take no more than what their needs get of the level
use Rattle.std.proofs.Common.{◌≡◌, ◌≤◌, ◌<◌, ◌*◌, ℕ, All, map, take, sum_by, min}
use Rattle.std.specs.Duration.{as_nanos, max_nanos}
use Rattle.wq_server.specs.Pace.{SitsOut, TakesLess, need_at}
use Rattle.wq_server.specs.Share.{walked_in}
use Rattle.wq_server.proofs.pace.Share.cycles.Given as goal

abbrev pub invariant-loop-turn : goal.invariant-loop-turn
invariant-loop-turn l =
    l.needs.items ≡ map (λ turn. need_at (as_nanos l.interval) (as_nanos turn.walk)) (take l.turn-index l.turns)

abbrev pub invariant-loop-turn-2 : goal.invariant-loop-turn-2
invariant-loop-turn-2 l = record {
  turns : map (λ it. it.turn) l.cycles.items ≡ take l.turn-index l.turns;
  interval : All (λ it. as_nanos l.interval ≤ as_nanos it.pause) l.cycles.items;
  out : All (λ it. SitsOut it.turn.out (as_nanos l.interval) (as_nanos it.turn.walk) (as_nanos it.pause)) l.cycles.items;
  less : All (λ turn. as_nanos turn.walk * 1_000_000 < max_nanos) l.turns → 1 ≤ l.level → l.level ≤ 1_000_000
      → All (λ it. TakesLess l.level it.turn.out (as_nanos it.turn.walk) (as_nanos it.pause)) l.cycles.items;
  share : All (λ turn. as_nanos turn.walk * 1_000_000 < max_nanos) l.turns → 1 ≤ l.level → l.level ≤ 1_000_000
      → (time : ℕ) → sum_by (walked_in time) l.cycles.items * 1_000_000
      ≤ sum_by (λ turn. min (need_at (as_nanos l.interval) (as_nanos turn.walk)) l.level) (take l.turn-index l.turns) * time;
}
