-- The tokens that are printed of a reply's data, which the writer parts by commas and colons. The
-- tokens are those of the kit's crate `json`; their text is compact JSON of RFC 8259.
use Rattle.std.specs.Prelude.{◌≡◌, ◌++◌, List, [], ◌∷◌, OnOk, Result}
use Rattle.std.specs.Ordering.{nat_cmp, match_ordering}
use Rattle.std.specs.Cmp.Lexicographic.{slice_cmp}
use Rattle.json.specs.Token.{Token}
use Rattle.json.specs.Tree.{json_tokens}
use Rattle.json.specs.Written.{Written}
use Rattle.serde_json.specs.Data.{Data, object, Members, no_members, member}
use Rattle.serde_json.specs.Written.{outline}
use Rattle.wq_clock.specs.Instance.{InstanceData}
use Rattle.wq_clock.specs.declared.bound.Bound.{Bound}
use Rattle.wq_record.specs.RecordData.{RecordData}
use Rattle.wq_query.specs.declared.field.Field.{Field}
use Rattle.wq_reply.specs.declared.form.Form.{Form}
use Rattle.wq_reply.specs.declared.form.Form.TheVariants.{Bare, Object}
use Rattle.wq_query.specs.Field.{field_name}
use Rattle.wq_reply.specs.Reply.{field_data, file_data}

-- if the call succeeds, it writes these tokens after those that were written before
abbrev pub Appends : {E : Type 0} → Result (Unit {0}) E → Written → Written → List Token → Type 0
Appends result old new tokens =
    OnOk result ((new.before ≡ old.before) × (new.tokens ≡ old.tokens ++ tokens))

-- if the call succeeds, it writes this data after the tokens that were written before
abbrev pub Prints : {E : Type 0} → Result (Unit {0}) E → Written → Written → Data → Type 0
Prints result old new d = Appends result old new (json_tokens (outline d))

-- a field put among others in the byte order of their names, unless it is among them
abbrev pub with_field : Field → List Field → List Field
with_field f [] = f ∷ []
with_field f (g ∷ gs) =
    match_ordering (slice_cmp nat_cmp (field_name f) (field_name g))
    (f ∷ g ∷ gs) (g ∷ gs) (g ∷ with_field f gs)

-- fields put among others, one after the other
abbrev pub with_fields : List Field → List Field → List Field
with_fields gs [] = gs
with_fields gs (f ∷ fs) = with_fields (with_field f gs) fs

-- members of an object, one for each of these fields
abbrev pub members_of : InstanceData → Bound → RecordData → List Field → Members
members_of instance bound r [] = no_members
members_of instance bound r (f ∷ fs) =
    member (field_name f) (field_data instance bound r f) (members_of instance bound r fs)

-- the data that a form tells of a file
abbrev pub told : Form → InstanceData → Bound → RecordData → Data
told (Bare f) instance bound r = field_data instance bound r f
told (Object fields) instance bound r = object (members_of instance bound r fields.items)

-- the form tells of each file the data of these fields
abbrev pub IsFormOf : List Field → Form → Type 0
IsFormOf fields form = (instance : InstanceData) (bound : Bound) (r : RecordData)
    → told form instance bound r ≡ file_data fields instance bound r
