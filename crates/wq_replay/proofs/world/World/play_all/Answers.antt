-- At the end nothing is left.
use Rattle.std.proofs.Common.{◌≡◌, [], map, sym, subst, ◌∙◌}
use Rattle.std.proofs.lemmas.List.{nil_from_length}
use Rattle.wq_replay.specs.Stands.{all_sent, happening_data}
use Rattle.wq_replay.proofs.Worlds.{PlaysOn, plays_all, plays_next, said_none, said_some}
use Rattle.wq_replay.proofs.world.World.play_all.Goals as goal

pub returns : goal.returns
returns c = λ before stands.
    let played = c.loop-happening.invariant before stands in
    let left = c.loop-happening.happening-iterator.rest in
    let none : left.items ≡ [] = nil_from_length left.items (sym left.ok.0 ∙ c.in-None.ensures.steps.0) in
    (played.0, plays_all _ _ _ _ (subst (λ xs. PlaysOn before (map happening_data c.args.happenings.items) (all_sent c.loop-happening.sent.items) played.0 (map happening_data xs)) none played.2), played.1)

pub loop-happening-preserved-in-Continue-branch-3 : goal.loop-happening-preserved-in-Continue-branch-3
loop-happening-preserved-in-Continue-branch-3 c = λ before stands.
    let played = c.loop-happening.invariant before stands in
    let did = c.in_ok-said.ensures played.0 played.1 in
    let said = said_some c.loop-happening.sent.items c.push.new.self.items c.in-Some-2.said c.in_ok-said.field-0 c.in_ok-push.ensures.items c.in-Some-2.is in (
      did.0,
      did.2,
      plays_next before played.0 did.0 (map happening_data c.args.happenings.items) c.loop-happening.happening-iterator.rest.items c.next.new.self.rest.items c.in-Some.happening
          c.loop-happening.sent.items c.push.new.self.items c.in_ok-said.field-0 c.in-Some.ensures.steps.0 said played.2 did.1,
    )

pub loop-happening-preserved : goal.loop-happening-preserved
loop-happening-preserved c = λ before stands.
    let played = c.loop-happening.invariant before stands in
    let did = c.in_ok-said.ensures played.0 played.1 in
    let said = said_none c.loop-happening.sent.items c.in_ok-said.field-0 c.in_default.is in (
      did.0,
      did.2,
      plays_next before played.0 did.0 (map happening_data c.args.happenings.items) c.loop-happening.happening-iterator.rest.items c.next.new.self.rest.items c.in-Some.happening
          c.loop-happening.sent.items c.loop-happening.sent.items c.in_ok-said.field-0 c.in-Some.ensures.steps.0 said played.2 did.1,
    )
