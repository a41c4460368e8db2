-- The values of the code for the objects of triggers.
-- It is this server's own.
use Rattle.std.specs.Prelude.{◌≡◌, false, List, map}
use Rattle.serde_json.specs.Data.{Data}
use Rattle.serde_json.specs.View.{items_of, view as data_of}
use Rattle.serde_json.specs.Written.{items_have_float}
use Rattle.serde_json.specs.declared.value.Value.{Value}

-- these values are these objects, and have no float, so that each has one text
pub record AreObjects (objects : List Data) (values : List Value) : Type 0 where
  pub same : map data_of values ≡ objects
  pub plain : items_have_float (items_of (map data_of values)) ≡ false
