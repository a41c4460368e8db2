-- A record whose file exists, and one whose file does not.
use Rattle.std.proofs.Common.{rules, ◌≡◌, ◌∷◌, IsTrue, length, ap, subst, sym, ◌∙◌, arith}
use Rattle.std.specs.List.{list_all}
use Rattle.wq_record.specs.Seen.{is_lawful_row}
use Rattle.wq_view.specs.SeenRows.{seen_rows}
use Rattle.wq_view.proofs.Counted.{lawful_gone, lawful_there, one_gone, one_there}
use Rattle.wq_view.proofs.SeenAgain.{few_seen}
use Rattle.wq_view.proofs.existence.existing_in.Goals as goal

pub overflow_sub-count : goal.overflow_sub-count
overflow_sub-count c =
    let r = c.in-Some.known.now in
    let later = c.in-Some.later.now in
    let is : c.loop-known.more.now ≡ r ∷ later = search rules in
    let gone = sym c.is_there.ensures.exists ∙ c.if-not-is_there.true in
    omega (arith, c.loop-known.invariant.count, ap (λ rs. length (seen_rows rs)) is, ap length is, ap length (one_gone r later gone), few_seen later)

pub loop-known-preserved-then-not-is_there : goal.loop-known-preserved-then-not-is_there
loop-known-preserved-then-not-is_there c =
    let r = c.in-Some.known.now in
    let later = c.in-Some.later.now in
    let is : c.loop-known.more.now ≡ r ∷ later = search rules in
    let gone = sym c.is_there.ensures.exists ∙ c.if-not-is_there.true in
    record {
      count = omega (arith, c.loop-known.invariant.count, ap (λ rs. length (seen_rows rs)) is, ap length is, ap length (one_gone r later gone), few_seen later);
      lawful = λ others. c.loop-known.invariant.lawful (subst (λ rs. IsTrue (list_all is_lawful_row (seen_rows rs))) (sym is) (lawful_gone r later gone others));
    }

pub loop-known-preserved : goal.loop-known-preserved
loop-known-preserved c =
    let r = c.in-Some.known.now in
    let later = c.in-Some.later.now in
    let is : c.loop-known.more.now ≡ r ∷ later = search rules in
    let there = sym c.is_there.ensures.exists ∙ c.if-not-is_there.false in
    record {
      count = omega (arith, c.loop-known.invariant.count, ap (λ rs. length (seen_rows rs)) is, ap length is, ap length (one_there r later there));
      lawful = λ others. c.loop-known.invariant.lawful (subst (λ rs. IsTrue (list_all is_lawful_row (seen_rows rs))) (sym is) (lawful_there r later there c.is_there.ensures.lawful others));
    }
