-- the reader has the view's records, and the tokens so far with those of the rest are the tokens of
-- the files
use Rattle.std.proofs.Common.{◌≡◌, ◌++◌, drop, map}
use Rattle.json.specs.Tree.{json_tokens, items_tokens}
use Rattle.serde_json.specs.Data.{array}
use Rattle.serde_json.specs.View.{items_of}
use Rattle.serde_json.specs.Written.{outline, items_outline}
use Rattle.wq_clock.specs.Instance.{instance_data}
use Rattle.wq_view.specs.Position.{records_at}
use Rattle.wq_reply.specs.Printing.{told}
use Rattle.wq_reply.proofs.printer.print_files.Given as goal

abbrev pub invariant-loop-place : goal.invariant-loop-place
invariant-loop-place l = record {
  reads : l.reader ≡ l.view.records;
  before : l.out.before ≡ l.fn.out.before;
  tokens : l.out.tokens ++ items_tokens (items_outline (items_of (map (told l.form (instance_data l.instance) l.bound) (records_at l.view.records (drop l.place-index l.places)))))
      ≡ l.fn.out.tokens ++ json_tokens (outline (array (items_of (map (told l.form (instance_data l.instance) l.bound) (records_at l.view.records l.places)))));
}
