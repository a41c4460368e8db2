use Rattle.std.proofs.Common.{◌≡◌, ◌≤◌, ◌-◌, length}
use Rattle.wq_glob.specs.Leftmost.{fits_from}
use Rattle.wq_glob.proofs.leftmost.fits_below.Given as goal

abbrev pub invariant-loop-next : goal.invariant-loop-next
invariant-loop-next l = record {
  place : l.begin ≤ length l.text;
  same : fits_from l.rules l.steps l.text l.k l.from ≡ fits_from l.rules l.steps l.text l.k l.begin;
}

abbrev pub decreases-loop-next : goal.decreases-loop-next
decreases-loop-next l = length l.text - l.begin
