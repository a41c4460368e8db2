-- The laws that make the text of a trigger's object exact, and let it be read again. No public document defines them.
use Rattle.std.specs.Prelude.{◌≡◌, ◌≤◌, false, Ok}
use Rattle.serde_json.specs.Data.{Data, depth}
use Rattle.serde_json.specs.Read.{max_depth}
use Rattle.serde_json.specs.Written.{has_float}
use Rattle.wq_clock.specs.Instance.{InstanceData}
use Rattle.wq_follow.specs.Definition.{DefinitionData, defines}

-- the object that a definition keeps has no float
abbrev pub DefinitionsHaveNoFloat : Type 0
DefinitionsHaveNoFloat = (instance : InstanceData) (d : Data) (definition : DefinitionData)
    → defines instance d ≡ Ok definition → has_float definition.object ≡ false

-- the object that a definition keeps is no deeper than a text that can be read
abbrev pub DefinitionsAreShallow : Type 0
DefinitionsAreShallow = (instance : InstanceData) (d : Data) (definition : DefinitionData)
    → defines instance d ≡ Ok definition → depth definition.object ≤ max_depth
