-- One more position of the order is of a file that changed, or the next one is of none.
use Rattle.std.proofs.Common.{◌≡◌, ℕ, true, false, [], ◌∷◌, length, take, slice_get, Some, sym, ap, subst, ◌∙◌, arith, length-append}
use Rattle.std.specs.List.{AllByRecursion}
use Rattle.wq_clock.specs.declared.bound.Bound.TheVariants.{Tick}
use Rattle.wq_view.specs.Order.{Known}
use Rattle.wq_view.specs.Position.{passes_at}
use Rattle.wq_view.specs.View.{ViewData, newest_of}
use Rattle.wq_gen.specs.Candidate.{changed_since}
use Rattle.wq_gen.proofs.SinceTick.{all_push, found_all, found_few, prefix_next}
use Rattle.wq_gen.proofs.since.newest_after.Goals as goal

pub loop-i-preserved : goal.loop-i-preserved
loop-i-preserved c =
    let view = c.args.counted.now.view in
    let found = c.loop-i.found.items in
    let i = c.in-Some.i in
    let k : c.len.result ≡ length found = omega (arith, c.len.ensures, c.loop-i.found.ok.0) in
    let e = c.in_ok-push.ensures.items in
    let here : slice_get (newest_of view) (length found) ≡ Some i =
    ap (slice_get (newest_of view)) (sym k) ∙ subst (λ (v : ViewData). slice_get (newest_of v) c.len.result ≡ Some i) c.loop-i.invariant.same c.in-Some.ensures.there in
    let passes = subst (λ (v : ViewData). passes_at (changed_since (Tick c.args.tick)) v.records i ≡ true) c.loop-i.invariant.same c.in-Some.ensures.passes in
    record {
      same = c.changed_at.ensures.same ∙ c.loop-i.invariant.same;
      taken = e ∙ prefix_next found (newest_of view) i c.loop-i.invariant.taken here ∙ ap (λ l. take (length l) (newest_of view)) (sym e);
      all = subst (AllByRecursion (λ j. passes_at (changed_since (Tick c.args.tick)) view.records j ≡ true)) (sym e) (all_push (λ j. passes_at (changed_since (Tick c.args.tick)) view.records j ≡ true) found i c.loop-i.invariant.all passes);
      few = omega (arith, c.loop-i.invariant.few, c.changed_at.ensures.count, ap length e, length-append found (i ∷ []));
    }

pub returns-in_err-push-clause-few : goal.returns-in_err-push-clause-few
returns-in_err-push-clause-few c =
    let view = c.args.counted.now.view in
    let known = subst (λ (v : ViewData). Known v.tick v.records) c.loop-i.invariant.same c.changed_at.ensures.known in
    omega (arith, c.loop-i.invariant.few, c.changed_at.ensures.count, found_few c.newest_is_split.ensures c.args.tick view.tick view.records c.loop-i.found.items known c.loop-i.invariant.taken c.loop-i.invariant.all)

pub returns-clause-found : goal.returns-clause-found
returns-clause-found c =
    let view = c.args.counted.now.view in
    let found = c.loop-i.found.items in
    let k : c.len.result ≡ length found = omega (arith, c.len.ensures, c.loop-i.found.ok.0) in
    let known = subst (λ (v : ViewData). Known v.tick v.records) c.loop-i.invariant.same c.changed_at.ensures.known in
    let fails = subst (λ (v : ViewData). (i : ℕ) → slice_get (newest_of v) c.len.result ≡ Some i → passes_at (changed_since (Tick c.args.tick)) v.records i ≡ false) c.loop-i.invariant.same c.in_default.ensures.fails in
    found_all c.newest_is_split.ensures c.args.tick view.tick view.records found known c.loop-i.invariant.taken c.loop-i.invariant.all (λ i e. fails i (ap (slice_get (newest_of view)) k ∙ e))

pub returns-clause-few : goal.returns-clause-few
returns-clause-few c =
    let view = c.args.counted.now.view in
    let known = subst (λ (v : ViewData). Known v.tick v.records) c.loop-i.invariant.same c.changed_at.ensures.known in
    omega (arith, c.loop-i.invariant.few, c.changed_at.ensures.count, found_few c.newest_is_split.ensures c.args.tick view.tick view.records c.loop-i.found.items known c.loop-i.invariant.taken c.loop-i.invariant.all)
