-- The happening is that of the arm.
use Rattle.std.proofs.Common.{ℤ, FitsSigned, w64, rules, [], map, refl, sym, subst}
use mir.Facts.{to_z-of_z}
use Rattle.wq_replay.specs.Stands.{Stands, happening_data}
use Rattle.wq_replay.specs.Gets.{Gets, Rests}
use Rattle.wq_replay.specs.Playing.{Happens, sent_to}
use Rattle.wq_replay.specs.Rounds.{sent_note}
use Rattle.wq_replay.specs.World.{WorldData}
use Rattle.wq_replay.proofs.world.World.happen.Goals as goal

pub returns-in_ok-crawl-in-Crawl : goal.returns-in_ok-crawl-in-Crawl
returns-in_ok-crawl-in-Crawl c = λ before stands.
    let got = c.in_ok-crawl-in-Crawl.ensures before stands in
    (got.0, subst (λ happening. Happens before (happening_data happening) [] got.0) (sym c.in-Crawl.is) (refl, got.1), got.2)

pub returns-in_ok-out-in-Asked : goal.returns-in_ok-out-in-Asked
returns-in_ok-out-in-Asked c = λ before stands.
    let fits : FitsSigned w64 c.in-Asked.client = search rules in
    let out = c.in_ok-out-in-Asked.out in
    let got = subst (λ (client : ℤ). (after : WorldData) × Gets client before c.in-Asked.ask out after × Stands after c.answer.new.self) (to_z-of_z fits)
    (c.in_ok-out-in-Asked.ensures before stands) in (
      got.0,
      subst (λ (client : ℤ). Happens before (happening_data c.args.happening) (sent_to client out) got.0) (sym (to_z-of_z fits))
          (subst (λ happening. Happens before (happening_data happening) (sent_to c.in-Asked.client out) got.0) (sym c.in-Asked.is) (out, got.1, refl)),
      got.2,
    )

pub returns-in_ok-out-in-Idle : goal.returns-in_ok-out-in-Idle
returns-in_ok-out-in-Idle c = λ before stands.
    let fits : FitsSigned w64 c.in-Idle.client = search rules in
    let out = c.in_ok-out-in-Idle.out in
    let got = subst (λ (client : ℤ). (after : WorldData) × Rests client c.in-Idle.root before out after × Stands after c.rest.new.self) (to_z-of_z fits)
    (c.in_ok-out-in-Idle.ensures before stands) in (
      got.0,
      subst (λ (client : ℤ). Happens before (happening_data c.args.happening) (sent_to client out) got.0) (sym (to_z-of_z fits))
          (subst (λ happening. Happens before (happening_data happening) (sent_to c.in-Idle.client out) got.0) (sym c.in-Idle.is) (out, got.1, refl)),
      got.2,
    )

pub returns-in_ok-lines-in-Round : goal.returns-in_ok-lines-in-Round
returns-in_ok-lines-in-Round c = λ before stands.
    let got = c.in_ok-lines-in-Round.ensures before stands in (
      got.0,
      subst (λ happening. Happens before (happening_data happening) (map sent_note c.in_ok-lines-in-Round.lines) got.0) (sym c.in-Round.is) got.1,
      got.2,
    )
