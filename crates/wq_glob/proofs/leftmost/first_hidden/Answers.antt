use Rattle.std.proofs.Common.{◌≡◌, ◌∙◌, ℕ, true, sym, arith}
use Rattle.wq_glob.specs.Cell.{mark_at}
use Rattle.wq_glob.specs.Fits.{has_no_hidden_dot}
use Rattle.wq_glob.proofs.LeftmostLemmas.{up_to_next}
use Rattle.wq_glob.proofs.leftmost.first_hidden.Goals as goal

pub loop-at-preserved : goal.loop-at-preserved
loop-at-preserved c =
    let was = c.loop-at.invariant in
    record {
      after = omega (arith, was.after);
      within = omega (arith, c.loop-at-test.true);
      shown = up_to_next (λ (i : ℕ). has_no_hidden_dot (mark_at c.args.rules.now c.args.text.now i) ≡ true) c.args.from c.loop-at.at was.shown (sym c.is_shown_at.ensures ∙ c.if-not-is_shown_at.false);
    }
