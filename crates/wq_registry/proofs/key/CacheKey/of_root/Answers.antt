-- The text of a value that says an expression reads back to it.
use Rattle.serde_json.specs.View.{view}
use Rattle.wq_registry.proofs.ValueDepth.{shallow}
use Rattle.wq_registry.proofs.key.CacheKey.of_root.Goals as goal

pub returns : goal.returns
returns c t reads =
    let d = view c.args.value.now in (
      d,
      c.in_ok-to_string.ensures.reads_back
          (shallow c.values_say_what_they_write.ensures (record { start = c.args.start; pid = c.args.pid; root = c.args.root }) t d reads),
      reads,
    )
