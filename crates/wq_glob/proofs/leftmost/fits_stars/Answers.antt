use Rattle.std.proofs.Common.{◌≡◌, ◌<◌, ◌+◌, ◌∙◌, false, length, refl, sym, arith}
use Rattle.wq_glob.specs.Leftmost.{fits_from}
use Rattle.wq_glob.proofs.LeftmostLemmas.{stars_fit, stars_more, stars_pass, stars_stop, stars_end, stars_within}
use Rattle.wq_glob.proofs.leftmost.fits_stars.Goals as goal
use Rattle.wq_glob.proofs.leftmost.fits_stars.Goals.{then-begin-text-via-then-begin-text, then-begin-text-via-else-begin-text+then-not-is_wild_at}

pub returns-in-Fits : goal.returns-in-Fits
returns-in-Fits c =
    let was = c.loop-place.invariant in
    sym
    (was.same
    ∙ c.in-Some.ensures.same
    ∙ stars_fit c.args.rules.now c.args.steps.now c.args.text.now c.loop-place.star was.stars c.in-Some.place (c.taken-len.ensures.taken.same ∙ c.in-Fits.ensures))

pub returns-then-takes_rest : goal.returns-then-takes_rest
returns-then-takes_rest c =
    let was = c.loop-place.invariant in
    sym
    (was.same
    ∙ c.in-Some.ensures.same
    ∙ stars_fit c.args.rules.now c.args.steps.now c.args.text.now c.loop-place.star was.stars c.in-Some.place (c.taken-len.ensures.taken.same ∙ c.if-takes_rest.ensures refl))

pub loop-place-preserved-in-Star : goal.loop-place-preserved-in-Star
loop-place-preserved-in-Star c =
    let was = c.loop-place.invariant in
    record {
      stars = c.in-Star.ensures;
      step = stars_within c.args.rules.now c.args.steps.now c.args.text.now (c.loop-place.star + 1 + c.taken-len.result) c.in-Star.ensures;
      place = c.taken-len.ensures.taken.enough_text;
      same = was.same
          ∙ c.in-Some.ensures.same
          ∙ stars_more c.args.rules.now c.args.steps.now c.args.text.now c.loop-place.star c.taken-len.result was.stars c.in-Star.ensures c.in-Some.place c.taken-len.ensures.taken
          (c.if-not-is_settled.ensures refl);
    }

pub returns-then-begin-text : goal.returns-then-begin-text
returns-then-begin-text c =
    let was = c.loop-place.invariant in
    let begin = c.in-Some in
    let none = c.taken-len.ensures.taken.same ∙ c.in-Differs.ensures in
    let end : fits_from c.args.rules.now c.args.steps.now c.args.text.now c.loop-place.star begin.place ≡ false =
    elim c.then-begin-text.branch [
      | then-begin-text-via-then-begin-text w ↦ stars_end c.args.rules.now c.args.steps.now c.args.text.now c.loop-place.star was.stars begin.place (omega (arith, w.if-begin-text.true)) none
      | then-begin-text-via-else-begin-text+then-not-is_wild_at w ↦
          let inside : begin.place < length c.args.text.now = omega (arith, w.if-begin-text.false, begin.ensures.within) in
          stars_stop c.args.rules.now c.args.steps.now c.args.text.now c.loop-place.star was.stars begin.place inside none (sym w.if-not-is_wild_at.ensures)
    ] in
    sym (was.same ∙ begin.ensures.same ∙ end)

pub loop-place-preserved : goal.loop-place-preserved
loop-place-preserved c =
    let was = c.loop-place.invariant in
    let begin = c.in-Some in
    let inside : begin.place < length c.args.text.now = omega (arith, c.if-begin-text.false, begin.ensures.within) in
    let none = c.taken-len.ensures.taken.same ∙ c.in-Differs.ensures in
    record {
      stars = was.stars;
      step = was.step;
      place = omega (arith, inside);
      same = was.same
          ∙ begin.ensures.same
          ∙ stars_pass c.args.rules.now c.args.steps.now c.args.text.now c.loop-place.star was.stars begin.place inside none (sym c.if-not-is_wild_at.ensures);
    }
