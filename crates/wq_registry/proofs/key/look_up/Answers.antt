use Rattle.std.proofs.Common.{sym}
use Rattle.wq_registry.specs.Kept.{KeepsMeanings, instance_at}
use Rattle.wq_registry.proofs.Keeping.{found, shared, still}
use Rattle.wq_registry.proofs.key.look_up.Goals as goal

pub returns-in_err-program-clause-meanings : goal.returns-in_err-program-clause-meanings
returns-in_err-program-clause-meanings c cache meanings =
    rw c.promote.ensures.entries (still cache c.args.kept.now.entries c.args.key.now meanings)

pub returns-clause-meanings : goal.returns-clause-meanings
returns-clause-meanings c cache meanings =
    rw c.promote.ensures.entries (still cache c.args.kept.now.entries c.args.key.now meanings)

pub returns-clause-found : goal.returns-clause-found
returns-clause-found c cache meanings =
    let key = c.args.key.now in
    let kept : KeepsMeanings cache c.promote.new.self.entries = rw c.promote.ensures.entries (still cache c.args.kept.now.entries key meanings) in
    shared (instance_at cache key.root) key.text.bytes.items c.in_ok-program.program.now c.ok.result c.try_clone.result c.ok.ensures.value c.try_clone.ensures
    (found cache c.promote.new.self.entries key c.in_ok-program.program.now kept (sym c.in_ok-program.ensures))
