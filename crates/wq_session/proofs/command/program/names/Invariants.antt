-- the values so far and those of the names that are left are those of all names
use Rattle.std.proofs.Common.{◌≡◌, ◌++◌, map, string_bytes}
use Rattle.serde_json.specs.Data.{string}
use Rattle.serde_json.specs.View.{view as data_of}
use Rattle.wq_registry.specs.ByName.{names}
use Rattle.wq_session.proofs.command.program.names.Given as goal

abbrev pub invariant-loop-name : goal.invariant-loop-name
invariant-loop-name l =
    map data_of l.values.items ++ map string (map string_bytes l.name-iterator) ≡ map string (names l.shelf.programs)
