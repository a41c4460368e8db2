-- The reply to a query, as data; its text is the compact text of that data, keys in byte order.
-- From Watchman's documentation of file queries; the texts are those of RFC 8259.
use Rattle.std.specs.Prelude.{List, [], ◌∷◌, map, codes}
use Rattle.serde_json.specs.Data.{Data, boolean, number, string, array, object}
use Rattle.serde_json.specs.Data.{Members, no_members, member, put as with_member}
use Rattle.serde_json.specs.Find.{of_integer}
use Rattle.serde_json.specs.View.{items_of}
use Rattle.wq_base.specs.Version.{version}
use Rattle.wq_clock.specs.Bound.{is_fresh}
use Rattle.wq_clock.specs.Instance.{InstanceData}
use Rattle.wq_clock.specs.ClockText.{clock_text}
use Rattle.wq_clock.specs.declared.bound.Bound.{Bound}
use Rattle.wq_record.specs.Kind.{letter_of}
use Rattle.wq_base.specs.Name.{seconds_of}
use Rattle.wq_record.specs.RecordData.{RecordData}
use Rattle.wq_view.specs.View.{ViewData}
use Rattle.wq_query.specs.declared.field.Field.{Field}
use Rattle.wq_query.specs.declared.field.Field.TheVariants.{Name, Exists, New, Size, Kind}
use Rattle.wq_query.specs.declared.field.Field.TheVariants.{Cclock, Oclock, Mtime, MtimeMs}
use Rattle.wq_query.specs.Field.{field_name}
use Rattle.wq_reply.specs.Plan.{PlanData}
use Rattle.wq_reply.specs.Listing.{is_new, files_of}

-- the data of a field of a file, at an instance
abbrev pub field_data : InstanceData → Bound → RecordData → Field → Data
field_data instance bound r Name = string r.name
field_data instance bound r Exists = boolean r.exists
field_data instance bound r New = boolean (is_new bound r)
field_data instance bound r Size = number (of_integer r.size)
field_data instance bound r Kind = string (letter_of r.kind ∷ [])
field_data instance bound r Cclock = string (clock_text instance r.ctick)
field_data instance bound r Oclock = string (clock_text instance r.otick)
field_data instance bound r Mtime = number (of_integer (seconds_of r.mtime_ms))
field_data instance bound r MtimeMs = number (of_integer r.mtime_ms)

-- members, and those of some fields beside them
abbrev pub members_with : InstanceData → Bound → RecordData → Members → List Field → Members
members_with instance bound r ms [] = ms
members_with instance bound r ms (field ∷ fields) =
    let more = with_member (field_name field) (field_data instance bound r field) ms in
    members_with instance bound r more fields

-- the data that is told of a file: the bare value of one field, or an object of several
abbrev pub file_data : List Field → InstanceData → Bound → RecordData → Data
file_data (field ∷ []) instance bound r = field_data instance bound r field
file_data fields instance bound r = object (members_with instance bound r no_members fields)

-- the data that is told of those of these records that a plan lists
abbrev pub reply_files : PlanData → InstanceData → List RecordData → List Data
reply_files plan instance records =
    map (file_data (plan.query).fields instance plan.bound) (files_of plan records)

-- the reply to a plan, at a view
abbrev pub reply_of : PlanData → InstanceData → ViewData → Data
reply_of plan instance view =
    object (member (codes "clock") (string (clock_text instance view.tick))
    (member (codes "files") (array (items_of (reply_files plan instance view.records)))
    (member (codes "is_fresh_instance") (boolean (is_fresh plan.bound))
    (member (codes "version") (string version) no_members))))
