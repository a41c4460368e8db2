-- The directory ends before the slash that is one too many.
use Rattle.std.proofs.Common.{◌≡◌, ◌+◌, ◌-◌, ◌≤◌, length, take, count_by, Some, refl, sym, ap, subst, ◌∙◌, arith}
use Rattle.wq_base.specs.Byte.{is_slash}
use Rattle.wq_base.specs.Directory.{rest_below}
use Rattle.wq_base.specs.declared.compare.Case.TheVariants.{Exact}
use Rattle.wq_gen.specs.Depth.{IsDeep}
use Rattle.wq_gen.proofs.Deep.{deep_there}
use Rattle.wq_gen.proofs.depth.deep_directory.Goals as goal

pub returns-in-Some-split_at_checked : goal.returns-in-Some-split_at_checked
returns-in-Some-split_at_checked c =
    let name = c.args.name.now in
    let rest = c.in-Some.rest.now in
    let k = c.in-Some-slash_after.slash in
    let found = c.in-Some-slash_after.ensures in
    let below : rest_below Exact c.args.path.now.path name ≡ Some rest =
    ap (λ p. rest_below Exact p name) (sym c.as_bytes.ensures) ∙ ap (rest_below Exact c.as_bytes.result.now) (sym c.as_bytes-2.ensures.value) ∙ sym c.in-Some.ensures.value in
    let some : 1 ≤ length name - length rest + k = omega (arith, c.if-end-eq0.false) in
    subst (IsDeep c.args.path.now name) (sym c.in-Some-split_at_checked.ensures.front) (deep_there c.args.path.now (count_by is_slash (take k rest)) found.2 name rest k (length name - length rest + k) below found.0 found.1 refl refl some)
