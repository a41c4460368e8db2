use Rattle.wq_registry.proofs.Keeping.{put_or_not}
use Rattle.wq_registry.proofs.key.put.Goals as goal

pub returns : goal.returns
returns c cache meanings stands =
    put_or_not cache c.args.kept.now c.args.key c.args.program c.push.new.self c.push.result c.push.ensures.entries c.push.ensures.err meanings stands

pub returns-in_err-pair-in-Ok : goal.returns-in_err-pair-in-Ok
returns-in_err-pair-in-Ok c cache meanings stands =
    put_or_not cache c.args.kept.now c.args.key c.args.program c.push.new.self c.push.result c.push.ensures.entries c.push.ensures.err meanings stands
