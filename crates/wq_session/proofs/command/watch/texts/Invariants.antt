-- the values so far and those of the roots that are left are those of all roots
use Rattle.std.proofs.Common.{◌≡◌, ◌++◌, drop, map}
use Rattle.serde_json.specs.Data.{string}
use Rattle.serde_json.specs.View.{view as data_of}
use Rattle.wq_session.specs.Watch.{root_texts}
use Rattle.wq_session.proofs.command.watch.texts.Given as goal

abbrev pub invariant-loop-root : goal.invariant-loop-root
invariant-loop-root l =
    map data_of l.values.items ++ map string (root_texts (drop l.root-index l.roots)) ≡ map string (root_texts l.roots)
