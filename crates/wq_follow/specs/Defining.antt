-- The trigger that is made from a definition.
-- From Watchman's documentation of `trigger`.
use Rattle.std.specs.Prelude.{ℕ, List, Option}
use Rattle.wq_clock.specs.declared.bound.Bound.TheVariants.{Fresh}
use Rattle.wq_code.specs.declared.raw.Raw.{Raw}
use Rattle.wq_follow.specs.Batch.{untold}
use Rattle.wq_follow.specs.Definition.{DefinitionData, ShapeData}
use Rattle.wq_follow.specs.Round.{TriggerData}
use Rattle.wq_follow.specs.Start.{OrderData}

-- how a trigger of a root starts its command
abbrev pub order_of : ShapeData → List ℕ → OrderData
order_of shape root = record {
  name = shape.name;
  root = root;
  command = shape.command;
  appends = shape.appends;
  input = shape.input;
  limit = shape.limit;
}

-- the trigger of a definition, for the root with this text. It has the program that its query
-- names, if it names one, and this run of its command
abbrev pub triggered : DefinitionData → List ℕ → Option Raw → Option ℕ → TriggerData
triggered d root program running = record {
  order = order_of d.shape root;
  follower = untold (record { query = d.query; bound = Fresh; program = program });
  object = d.object;
  running = running;
}
