use Rattle.std.proofs.Common.{◌≡◌, List, length, true, ap, arith}
use Rattle.wq_glob.specs.declared.step.Step.{Step}
use Rattle.wq_glob.proofs.AtomLemmas.{atoms_few}
use Rattle.wq_glob.proofs.PatternLemmas.{same_length}
use Rattle.wq_glob.proofs.pattern.Pattern.parse.Goals as goal

pub overflow_cast-least : goal.overflow_cast-least
overflow_cast-least c =
    let all = ap (λ (l : List Step). length l) c.as_slice.ensures.value in
    let count = same_length _ _ _ c.in_ok-compiled.ensures.1 in
    let few = atoms_few c.args.flags (length c.args.text.now) true c.args.text.now in
    omega (arith, c.least_of-least.ensures.few, all, count, few, c.if-text-gt-MAX_PATTERN.false)
