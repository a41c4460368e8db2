-- each listing so far was overtaken
use Rattle.std.proofs.Common.{ℕ}
use Rattle.wq_crawl.specs.Shared.{Tries}
use Rattle.wq_crawl.proofs.lane.Lane.crawl.Given as goal

abbrev pub invariant-loop : goal.invariant-loop
invariant-loop g l = record {
  can : (goal.iterator-loop g).can_next l.iterator';
  finite : (goal.iterator-loop g).is_finite l.iterator';
  tried : (tries : ℕ) × Tries tries l.fn.root l.fn.self.lister l.self.lister;
}
