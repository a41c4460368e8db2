-- The fields that a query may ask of each file, by their names.
-- From Watchman's documentation of the query key `fields`.
use Rattle.std.specs.Prelude.{ℕ, List, [], ◌∷◌, codes, Option}
use Rattle.wq_base.specs.Table.{named}
use Rattle.wq_query.specs.declared.field.Field.{Field}
use Rattle.wq_query.specs.declared.field.Field.TheVariants.{Name, Exists, New, Size, Kind}
use Rattle.wq_query.specs.declared.field.Field.TheVariants.{Cclock, Oclock, Mtime, MtimeMs}

-- the name of a field
abbrev pub field_name : Field → List ℕ
field_name Name = codes "name"
field_name Exists = codes "exists"
field_name New = codes "new"
field_name Size = codes "size"
field_name Kind = codes "type"
field_name Cclock = codes "cclock"
field_name Oclock = codes "oclock"
field_name Mtime = codes "mtime"
field_name MtimeMs = codes "mtime_ms"

-- all fields
abbrev pub fields : List Field
fields = Name ∷ Exists ∷ New ∷ Size ∷ Kind ∷ Cclock ∷ Oclock ∷ Mtime ∷ MtimeMs ∷ []

-- the field that a text names
unfoldable pub field_named : List ℕ → Option Field
field_named text = named field_name fields text

-- the fields of a query that names none
abbrev pub default_fields : List Field
default_fields = Name ∷ Exists ∷ New ∷ Size ∷ []
