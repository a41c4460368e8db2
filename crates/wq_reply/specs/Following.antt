-- The answers of a plan that is used again and again. From Watchman's documentation of `subscribe`
-- and of `trigger`.
use Rattle.std.specs.Prelude.{ℕ, true, List, codes, map}
use Rattle.serde_json.specs.Data.{Data, boolean, string, array, object, no_members, member}
use Rattle.serde_json.specs.View.{items_of}
use Rattle.wq_base.specs.Version.{version}
use Rattle.wq_clock.specs.ClockText.{clock_text}
use Rattle.wq_clock.specs.Instance.{InstanceData}
use Rattle.wq_clock.specs.declared.bound.Bound.{Bound}
use Rattle.wq_record.specs.RecordData.{RecordData}
use Rattle.wq_query.specs.declared.field.Field.{Field}
use Rattle.wq_clock.specs.Bound.{is_fresh}
use Rattle.wq_reply.specs.Plan.{PlanData}
use Rattle.wq_reply.specs.Reply.{file_data}

-- a plan with another bound
abbrev pub with_bound : Bound → PlanData → PlanData
with_bound bound plan = record { query = plan.query; bound = bound; program = plan.program }

-- the data that a list tells of some files, from a bound
abbrev pub files_data : List Field → InstanceData → Bound → List RecordData → Data
files_data fields instance bound files =
    array (items_of (map (file_data fields instance bound) files))

-- a list of a subscription: its root and its name, the tick of the view, and its files
abbrev pub list_data : List ℕ → List ℕ → PlanData → InstanceData → ℕ → List RecordData → Data
list_data root name plan instance tick files =
    object (member (codes "clock") (string (clock_text instance tick))
    (member (codes "files") (files_data (plan.query).fields instance plan.bound files)
    (member (codes "is_fresh_instance") (boolean (is_fresh plan.bound))
    (member (codes "root") (string root)
    (member (codes "subscription") (string name)
    (member (codes "unilateral") (boolean true)
    (member (codes "version") (string version) no_members)))))))
