use Rattle.std.proofs.Common.{◌≡◌, ◌≤◌, ◌+◌, List, ◌++◌, length, true}
use Rattle.wq_glob.specs.Atom.{atoms_from}
use Rattle.wq_glob.specs.Step.{AllStand}
use Rattle.wq_glob.specs.declared.byte_set.ByteSet.{ByteSet}
use Rattle.wq_glob.specs.declared.rules.Rules.{Rules}
use Rattle.wq_glob.specs.declared.step.Step.{Step}
use Rattle.wq_glob.proofs.parser.read_steps.Given as goal

abbrev pub invariant-loop-rest : goal.invariant-loop-rest
invariant-loop-rest l = record {
  few : length l.sets.items + length l.rest ≤ length l.fn.text;
  short : length l.fn.text ≤ 255;
  stands : (f : Rules) (more : List ByteSet) (tail : List Step) → f.flags ≡ l.flags → f.sets.items ≡ l.sets.items ++ more
      → AllStand f tail (atoms_from (length l.rest) l.flags l.at_start l.rest)
      → AllStand f (l.steps.items ++ tail) (atoms_from (length l.fn.text) l.flags true l.fn.text);
}

abbrev pub decreases-loop-rest : goal.decreases-loop-rest
decreases-loop-rest l = length l.rest
