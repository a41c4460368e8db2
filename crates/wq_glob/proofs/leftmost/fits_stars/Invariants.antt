use Rattle.std.proofs.Common.{◌≡◌, ◌<◌, ◌≤◌, ◌+◌, ◌-◌, true, drop, length}
use Rattle.wq_glob.specs.Leftmost.{begins_stars, fits_from}
use Rattle.wq_glob.proofs.leftmost.fits_stars.Given as goal

abbrev pub invariant-loop-place : goal.invariant-loop-place
invariant-loop-place l = record {
  stars : begins_stars (drop l.star l.steps) ≡ true;
  step : l.star < length l.steps;
  place : l.begin ≤ length l.text;
  same : fits_from l.rules l.steps l.text l.first l.from ≡ fits_from l.rules l.steps l.text l.star l.begin;
}

abbrev pub decreases-loop-place : goal.decreases-loop-place
decreases-loop-place l = (length l.steps - l.star) + (length l.text - l.begin)
