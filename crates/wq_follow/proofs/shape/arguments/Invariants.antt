-- the texts that are read, and the words that are left
use Rattle.std.proofs.Common.{◌≡◌, drop}
use Rattle.serde_json.specs.View.{items_view}
use Rattle.wq_base.proofs.Fault.{before}
use Rattle.wq_follow.specs.Definition.{arguments_in}
use Rattle.wq_follow.proofs.shape.arguments.Given as goal

abbrev pub invariant-loop-word : goal.invariant-loop-word
invariant-loop-word l =
    before l.texts (arguments_in (items_view (drop l.word-index l.words))) ≡ arguments_in (items_view l.words)
