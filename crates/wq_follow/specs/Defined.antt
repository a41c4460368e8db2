-- The outcome of reading the object of a trigger in the code, in which memory may run out. It is
-- this server's own.
use Rattle.std.specs.Prelude.{◌≡◌, Result, Ok, Err}
use Rattle.wq_query.specs.Query.{asked_of}
use Rattle.wq_follow.specs.Definition.{DefinitionData, ShapeData}
use Rattle.wq_follow.specs.Kept.{data_in}
use Rattle.wq_follow.specs.Started.{input_data}
use Rattle.wq_follow.specs.declared.definition.Definition.{Definition}
use Rattle.wq_follow.specs.declared.fault.TriggerFault.{TriggerFault}
use Rattle.wq_follow.specs.declared.fault.TriggerFault.TheVariants.{NoMemory}
use Rattle.wq_follow.specs.declared.shape.Shape.{Shape}

-- the data of a `Shape`
abbrev pub shape_data : Shape → ShapeData
shape_data s = record {
  name = s.name;
  command = s.command;
  appends = s.appends;
  input = input_data s.input;
  limit = s.limit;
}

-- the definition of a trigger
abbrev pub definition_data : Definition → DefinitionData
definition_data d = record {
  shape = shape_data d.shape;
  query = asked_of d.query;
  object = data_in d.object;
}

-- the code read this of a command, or memory ran out
abbrev pub GivesShape : Result Shape TriggerFault → Result ShapeData TriggerFault → Type 0
GivesShape (Ok shape) answer = answer ≡ Ok (shape_data shape)
GivesShape (Err NoMemory) answer = Unit {0}
GivesShape (Err fault) answer = answer ≡ Err fault

-- the same of a definition
abbrev pub GivesDefinition : Result Definition TriggerFault → Result DefinitionData TriggerFault
    → Type 0
GivesDefinition (Ok definition) answer = answer ≡ Ok (definition_data definition)
GivesDefinition (Err NoMemory) answer = Unit {0}
GivesDefinition (Err fault) answer = answer ≡ Err fault
