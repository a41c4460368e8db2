use Rattle.std.proofs.Common.{◌≡◌, arith, [], length, refl, sym, true, append-nil}
use Rattle.std.proofs.lemmas.Bool.{eqb-true, eqb-false}
use Rattle.wq_glob.specs.Atom.{atoms_from}
use Rattle.wq_glob.specs.declared.rules.Rules.{Rules}
use Rattle.wq_glob.proofs.AtomLemmas.{atom_less, atoms_more, atoms_end}
use Rattle.wq_glob.proofs.StepLemmas.{kept_more, kept_one, kept_stands}
use Rattle.wq_glob.proofs.parser.read_steps.Goals as goal

pub loop-rest-smaller : goal.loop-rest-smaller
loop-rest-smaller c =
    let some : length c.loop-rest.rest.now ≡ 0 → ⊥ = eqb-false _ _ (sym c.loop-rest-test.ensures) in
    rw c.first_piece-piece.ensures.rest (atom_less c.args.flags c.loop-rest.at_start c.loop-rest.rest.now (omega arith))

pub loop-rest-preserved : goal.loop-rest-preserved
loop-rest-preserved c =
    let was = c.loop-rest.invariant in
    let some : length c.loop-rest.rest.now ≡ 0 → ⊥ = eqb-false _ _ (sym c.loop-rest-test.ensures) in
    let less = atom_less c.args.flags c.loop-rest.at_start c.loop-rest.rest.now (omega arith) in
    let one = kept_one c.first_piece-piece.result.0 c.loop-rest.sets.items _ _ c.in_ok-step.ensures in
    record {
      few = rw c.first_piece-piece.ensures.rest (omega (arith, was.few, less, one));
      short = was.short;
      stands = λ f more tail is sets left.
          let wider = kept_more c.first_piece-piece.result.0 c.loop-rest.sets.items _ more f.sets.items _ c.in_ok-step.ensures sets in
          rw c.in_ok-push.ensures.items
          (atoms_more f c.args.flags _ c.loop-rest.at_start c.loop-rest.rest.now c.first_piece-piece.result.1.now c.loop-rest.steps.items tail
          c.opens-at_start.result (atoms_from (length c.args.text.now) c.args.flags true c.args.text.now) (omega arith)
          (kept_stands f c.args.flags c.first_piece-piece.result.0 _ c.loop-rest.sets.items _ more _ is sets c.in_ok-step.ensures c.first_piece-piece.ensures.stands)
          c.first_piece-piece.ensures.rest c.opens-at_start.ensures
          (λ t. was.stands f wider.0 t is wider.1) left);
    }

pub returns : goal.returns
returns c =
    let all : Rules = record { flags = c.args.flags; sets = c.loop-rest.sets } in (
      refl,
      atoms_end all c.args.flags c.loop-rest.at_start c.loop-rest.rest.now c.loop-rest.steps.items _ (eqb-true _ _ (sym c.loop-rest-test.ensures))
          (λ tail. c.loop-rest.invariant.stands all [] tail refl (sym (append-nil c.loop-rest.sets.items))),
    )
