use Rattle.std.proofs.Common.{ap, sym, ◌∙◌, true, arith}
use Rattle.wq_glob.specs.ByteSet.{has_byte}
use Rattle.wq_glob.specs.Class.{in_either_case}
use Rattle.wq_glob.specs.declared.byte_set.ByteSet.{ByteSet}
use Rattle.wq_glob.proofs.SetLemmas.{put_more, skip_more, cases_begin, cases_end}
use Rattle.wq_glob.proofs.class.in_both_cases.Goals as goal
use Rattle.wq_glob.proofs.class.in_both_cases.Goals.{then-is_held, else-is_held}

pub loop-n-init : goal.loop-n-init
loop-n-init c items holds b small = cases_begin (has_byte c.args.set.now b) items b (holds b small)

pub loop-n-preserved : goal.loop-n-preserved
loop-n-preserved c items holds b small =
    elim c.if-is_held.branch [
      | then-is_held w ↦
          put_more (has_byte c.args.set.now b) _ _ (in_either_case true items) b c.loop-n.n (c.loop-n.invariant items holds b small)
          (sym (c.is_held.ensures items holds) ∙ w.if-is_held.true)
          (ap (λ (s : ByteSet). has_byte s b) w.held-is ∙ w.insert.ensures b small)
      | else-is_held w ↦
          ap (λ (s : ByteSet). has_byte s b) w.held-is
          ∙ skip_more (has_byte c.args.set.now b) _ (in_either_case true items) b c.loop-n.n (c.loop-n.invariant items holds b small)
          (sym (c.is_held.ensures items holds) ∙ w.if-is_held.false)
    ]

pub returns : goal.returns
returns c items holds b small =
    cases_end (has_byte c.args.set.now b) (has_byte c.loop-n.held b) items b c.loop-n.n (omega arith) (holds b small) (c.loop-n.invariant items holds b small)
