-- one root more keeps to what it gets of the share, and so all roots keep to the share
use Rattle.std.proofs.Common.{◌≡◌, ◌*◌, ◌<◌, ◌≤◌, ap, arith, length, map, subst, sym}
use Rattle.std.specs.Duration.{as_nanos, max_nanos}
use Rattle.wq_server.specs.declared.pace.Cycle.{Cycle}
use Rattle.wq_server.specs.declared.pace.Turn.{Turn}
use Rattle.std.proofs.lemmas.List.Elements.{All-get_or}
use Rattle.wq_server.proofs.Cycles.{all_more, needs_long, pauses_more, share_kept, share_more, turns_more, whole_needs}
use Rattle.wq_server.specs.Pace.{SitsOut, TakesLess, cut_to, need_at}
use Rattle.wq_server.proofs.pace.Share.cycles.Goals as goal

pub loop-turn-2-preserved : goal.loop-turn-2-preserved
loop-turn-2-preserved c = record {
  turns = turns_more _ _ _ _ _ _ c.loop-turn-2-test.true c.in_ok-push-2.ensures.items c.cycle_of.ensures.turn c.loop-turn-2.invariant.turns;
  interval = pauses_more _ _ _ _ c.in_ok-push-2.ensures.items c.cycle_of.ensures.interval c.loop-turn-2.invariant.interval;
  out = all_more (λ (it : Cycle). SitsOut it.turn.out (as_nanos c.args.interval) (as_nanos it.turn.walk) (as_nanos it.pause)) _ _ _
      c.in_ok-push-2.ensures.items
      (subst (λ (turn : Turn). SitsOut turn.out (as_nanos c.args.interval) (as_nanos turn.walk) (as_nanos c.cycle_of.result.pause)) (sym c.cycle_of.ensures.turn) c.cycle_of.ensures.out)
      c.loop-turn-2.invariant.out;
  less = λ small some few.
      all_more (λ (it : Cycle). TakesLess c.level_of-level.result it.turn.out (as_nanos it.turn.walk) (as_nanos it.pause)) _ _ _
      c.in_ok-push-2.ensures.items
      (subst (λ (turn : Turn). TakesLess c.level_of-level.result turn.out (as_nanos turn.walk) (as_nanos c.cycle_of.result.pause)) (sym c.cycle_of.ensures.turn)
      (c.cycle_of.ensures.less some few (All-get_or (λ (turn : Turn). as_nanos turn.walk * 1000000 < max_nanos) _ _ _ c.loop-turn-2-test.true small)))
      (c.loop-turn-2.invariant.less small some few);
  share = λ small some few time.
      share_more _ _ _ _ _ (as_nanos c.args.interval) c.level_of-level.result _ time c.loop-turn-2-test.true
      c.in_ok-push-2.ensures.items c.cycle_of.ensures.turn c.cycle_of.ensures.interval
      (c.cycle_of.ensures.part some few (All-get_or (λ (turn : Turn). as_nanos turn.walk * 1000000 < max_nanos) _ _ _ c.loop-turn-2-test.true small))
      (c.loop-turn-2.invariant.share small some few time);
}

pub returns-clause-share : goal.returns-clause-share
returns-clause-share c few small time =
    let turns = c.args.turns.now in
    let needs = c.loop-turn.needs.items in
    let percent = c.args.self.now.percent in
    let level = c.level_of-level.result in
    let some : 1 ≤ percent = c.args.self.now.few.0 in
    let most : percent ≤ 100 = c.args.self.now.few.1 in
    let all : length turns ≤ c.loop-turn-2.turn-index = omega (arith, c.loop-turn-2-test.false) in
    let every : length turns ≤ c.loop-turn.turn-index = omega (arith, c.loop-turn-test.false) in
    let long : length needs ≡ length turns = needs_long turns _ _ _ every c.loop-turn.invariant in
    let same : length c.deref.result.now ≡ length needs = ap length c.deref.ensures.value in
    let whole : c.millionths.result ≡ percent * 10000 = c.millionths.ensures in
    let cut : cut_to level needs ≤ c.millionths.result =
    subst (λ xs. cut_to level xs ≤ c.millionths.result) c.deref.ensures.value c.level_of-level.ensures.kept in
    let one : 1 ≤ level =
    c.level_of-level.ensures.some (omega (arith, whole, some)) (omega (arith, whole, some, long, same, few)) in
    let below : level ≤ 1000000 = omega (arith, whole, most, c.level_of-level.ensures.few) in
    share_kept c.loop-turn-2.cycles.items turns needs (as_nanos c.args.interval) level c.millionths.result percent _ _ time
    all every c.loop-turn.invariant cut whole (c.loop-turn-2.invariant.share small one below time)

pub returns-clause-less : goal.returns-clause-less
returns-clause-less c few small =
    let turns = c.args.turns.now in
    let needs = c.loop-turn.needs.items in
    let percent = c.args.self.now.percent in
    let level = c.level_of-level.result in
    let some : 1 ≤ percent = c.args.self.now.few.0 in
    let most : percent ≤ 100 = c.args.self.now.few.1 in
    let every : length turns ≤ c.loop-turn.turn-index = omega (arith, c.loop-turn-test.false) in
    let are : needs ≡ map (λ turn. need_at (as_nanos c.args.interval) (as_nanos turn.walk)) turns =
    whole_needs turns needs (as_nanos c.args.interval) _ every c.loop-turn.invariant in
    let long : length needs ≡ length turns = needs_long turns _ _ _ every c.loop-turn.invariant in
    let same : length c.deref.result.now ≡ length needs = ap length c.deref.ensures.value in
    let whole : c.millionths.result ≡ percent * 10000 = c.millionths.ensures in
    let one : 1 ≤ level =
    c.level_of-level.ensures.some (omega (arith, whole, some)) (omega (arith, whole, some, long, same, few)) in
    let below : level ≤ 1000000 = omega (arith, whole, most, c.level_of-level.ensures.few) in
    let cut : cut_to level needs ≤ percent * 10000 =
    subst (λ n. cut_to level needs ≤ n) whole (subst (λ xs. cut_to level xs ≤ c.millionths.result) c.deref.ensures.value c.level_of-level.ensures.kept) in
    (level, subst (λ xs. cut_to level xs ≤ percent * 10000) are cut, c.loop-turn-2.invariant.less small one below)
