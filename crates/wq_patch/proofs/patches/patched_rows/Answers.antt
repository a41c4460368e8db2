-- the rows of the patches, and those of the records behind them
use Rattle.std.proofs.Common.{◌++◌, ap, sym, ◌∙◌}
use Rattle.wq_view.specs.SeenRows.{seen_rows}
use Rattle.wq_view.specs.Records.{records_left}
use Rattle.wq_patch.specs.PatchMaker.{rows_before}
use Rattle.wq_patch.proofs.Joining.{patched_parts}
use Rattle.wq_patch.proofs.patches.patched_rows.Goals as goal

pub returns : goal.returns
returns c =
    c.in_ok-push_seen.ensures
    ∙ ap (λ rows. rows ++ seen_rows (records_left c.in_ok-rows.left)) c.in_ok-rows.ensures.rows
    ∙ ap (λ rs. rows_before (records_left c.args.records) c.args.patches.items ++ seen_rows rs) c.in_ok-rows.ensures.left
    ∙ sym (patched_parts (records_left c.args.records) c.args.patches.items)
