use Rattle.std.proofs.Common.{ap, sym, ◌∙◌, ℕ}
use Rattle.wq_glob.specs.ByteSet.{has_byte}
use Rattle.wq_glob.specs.Class.{in_name}
use Rattle.wq_glob.specs.declared.byte_set.ByteSet.{ByteSet}
use Rattle.wq_glob.proofs.SetLemmas.{put_more, skip_more}
use Rattle.wq_glob.proofs.class.insert_name.Goals as goal
use Rattle.wq_glob.proofs.class.insert_name.Goals.{then-in_name, else-in_name}

pub loop-n-preserved : goal.loop-n-preserved
loop-n-preserved c b small =
    elim c.if-in_name.branch [
      | then-in_name w ↦
          put_more _ _ _ (λ (i : ℕ). in_name c.args.name i) b c.loop-n.n (c.loop-n.invariant b small)
          (sym c.in_name.ensures ∙ w.if-in_name.true)
          (ap (λ (s : ByteSet). has_byte s b) w.set-is ∙ w.insert.ensures b small)
      | else-in_name w ↦
          ap (λ (s : ByteSet). has_byte s b) w.set-is
          ∙ skip_more _ _ (λ (i : ℕ). in_name c.args.name i) b c.loop-n.n (c.loop-n.invariant b small) (sym c.in_name.ensures ∙ w.if-in_name.false)
    ]
