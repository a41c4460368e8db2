-- the roots so far get no more than what was handed out, whatever the level of those that need more is
use Rattle.std.proofs.Common.{◌+◌, ◌*◌, ◌≤◌, ℕ, take}
use Rattle.wq_server.specs.Pace.{cut_to}
use Rattle.wq_server.proofs.pace.level_of.Given as goal

abbrev pub invariant-loop-need : goal.invariant-loop-need
invariant-loop-need l = record {
  given : (level : ℕ) → cut_to level (take l.need-index l.needs) + l.left ≤ l.whole + l.others * level;
  few : l.others ≤ l.need-index;
  enough : l.whole + l.others * l.even ≤ l.left + l.need-index * l.even;
  less : l.left ≤ l.whole;
}
