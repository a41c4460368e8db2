use Rattle.std.proofs.Common.{◌≡◌, ◌∙◌, true, false, sym, arith}
use Rattle.std.proofs.lemmas.Bool.{eq-eqb, ne_eqb}
use Rattle.wq_base.specs.Byte.{is_slash}
use Rattle.wq_glob.specs.Cell.{mark_at}
use Rattle.wq_glob.specs.Fits.{has_no_hidden_dot}
use Rattle.wq_glob.proofs.LeftmostLemmas.{names_end, names_hidden, names_slash, names_more}
use Rattle.wq_glob.proofs.leftmost.next_name.Goals as goal

pub returns-then-not-is_shown_at-clause-next : goal.returns-then-not-is_shown_at-clause-next
returns-then-not-is_shown_at-clause-next c fit =
    let hidden : has_no_hidden_dot (mark_at c.args.rules.now c.args.text.now c.loop-at.at) ≡ false = sym c.is_shown_at.ensures ∙ c.if-not-is_shown_at.true in
    c.loop-at.invariant.same fit ∙ names_hidden c.args.rules.now c.args.text.now c.loop-at.at c.loop-at-test.true hidden fit

pub returns-then-byte-eq47-clause-next : goal.returns-then-byte-eq47-clause-next
returns-then-byte-eq47-clause-next c fit =
    let shown : has_no_hidden_dot (mark_at c.args.rules.now c.args.text.now c.loop-at.at) ≡ true = sym c.is_shown_at.ensures ∙ c.if-not-is_shown_at.false in
    let slash : is_slash (mark_at c.args.rules.now c.args.text.now c.loop-at.at).byte ≡ true = eq-eqb _ _ c.if-byte-eq47.true in
    c.loop-at.invariant.same fit ∙ names_slash c.args.rules.now c.args.text.now c.loop-at.at c.loop-at-test.true shown slash fit

pub loop-at-preserved : goal.loop-at-preserved
loop-at-preserved c =
    let was = c.loop-at.invariant in
    let shown : has_no_hidden_dot (mark_at c.args.rules.now c.args.text.now c.loop-at.at) ≡ true = sym c.is_shown_at.ensures ∙ c.if-not-is_shown_at.false in
    let slash : is_slash (mark_at c.args.rules.now c.args.text.now c.loop-at.at).byte ≡ false = ne_eqb _ _ c.if-byte-eq47.false in
    record {
      after = omega (arith, was.after);
      within = omega (arith, c.loop-at-test.true);
      same = λ fit. was.same fit ∙ names_more c.args.rules.now c.args.text.now c.loop-at.at c.loop-at-test.true shown slash fit;
    }

pub returns-clause-next : goal.returns-clause-next
returns-clause-next c fit = c.loop-at.invariant.same fit ∙ names_end c.args.rules.now c.args.text.now c.loop-at.at c.loop-at-test.false fit
