-- The sorted positions are those of a plain look at each record.
use Rattle.std.proofs.Common.{length}
use Rattle.wq_clock.specs.declared.bound.Bound.TheVariants.{Tick}
use Rattle.wq_view.specs.Position.{passes_at, positions_of}
use Rattle.wq_gen.specs.Candidate.{changed_since}
use Rattle.wq_gen.proofs.Rising.{sorted_is}
use Rattle.wq_gen.proofs.SinceTick.{kept_rises}
use Rattle.wq_gen.proofs.since.after_tick.Goals as goal

pub returns-clause-found : goal.returns-clause-found
returns-clause-found c =
    let rs = c.args.counted.now.view.records in
    let test = changed_since (Tick c.args.tick) in
    sorted_is c.in_ok-found.found.items c.sort_unstable.new.self.items (positions_of test rs) c.in_ok-found.ensures.found c.sort_unstable.ensures.permutation c.sort_unstable.ensures.sorted (kept_rises (passes_at test rs) 0 (length rs))
