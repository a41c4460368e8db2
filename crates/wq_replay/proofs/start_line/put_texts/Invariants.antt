-- The tokens so far, and then those of the texts that are left, are the tokens of all texts.
use Rattle.std.proofs.Common.{◌≡◌, ◌++◌, drop, map}
use Rattle.json.specs.Tree.{json_tokens, items_tokens}
use Rattle.serde_json.specs.Data.{string}
use Rattle.serde_json.specs.View.{items_of}
use Rattle.serde_json.specs.Written.{outline, items_outline}
use Rattle.wq_replay.specs.StartLine.{texts_data}
use Rattle.wq_replay.proofs.start_line.put_texts.Given as goal

abbrev pub invariant-loop-text : goal.invariant-loop-text
invariant-loop-text l = record {
  before : l.out.before ≡ l.fn.out.before;
  tokens : l.out.tokens ++ items_tokens (items_outline (items_of (map string (drop l.text-index l.texts))))
      ≡ l.fn.out.tokens ++ json_tokens (outline (texts_data l.texts));
}
