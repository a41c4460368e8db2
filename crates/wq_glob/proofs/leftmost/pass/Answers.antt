use Rattle.std.proofs.Common.{◌∙◌, ℕ, refl, sym, arith, ap, inl, inr}
use Rattle.std.proofs.lemmas.Bool.{cases_order}
use Rattle.wq_glob.specs.Cell.{mark_at}
use Rattle.wq_glob.specs.Fits.{is_wild}
use Rattle.wq_glob.proofs.leftmost.pass.Goals as goal

pub loop-at-preserved : goal.loop-at-preserved
loop-at-preserved c =
    let was = c.loop-at.invariant in
    let here = c.loop-at-test.ensures in
    let inside = here.within refl in
    let next = c.plain_end-at.ensures in
    record {
      after = omega (arith, was.after, next.after);
      within = next.within;
      wild = λ i from before. elim (cases_order i c.loop-at.at) [
        | inl same ↦ ap (λ (n : ℕ). is_wild c.args.rules.now.flags (mark_at c.args.rules.now c.args.text.now n)) same ∙ sym (here.wild inside)
        | inr (inl earlier) ↦ was.wild i from earlier
        | inr (inr later) ↦ next.wild c.args.rules.now i later before
      ];
    }
