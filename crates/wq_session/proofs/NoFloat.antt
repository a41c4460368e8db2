-- No reply to a query has a float, so it has one text.
use Rattle.std.proofs.Common.{◌≡◌, ℕ, false, List, [], ◌∷◌, map, ℤ, pos, negsuc, refl}
use Rattle.std.specs.Ordering.{nat_cmp, match_ordering}
use Rattle.std.specs.Cmp.Lexicographic.{slice_cmp}
use Rattle.std.specs.declared.cmp.Ordering.{Ordering}
use Rattle.std.specs.declared.cmp.Ordering.TheVariants.{Less, Equal, Greater}
use Rattle.std.proofs.lemmas.Bool.{or_parts, or_from}
use Rattle.serde_json.specs.Data.{Data, Members, no_members, member, number, put as with_member}
use Rattle.serde_json.specs.Find.{of_integer}
use Rattle.serde_json.specs.View.{items_of}
use Rattle.serde_json.specs.Written.{has_float, items_have_float, members_have_float}
use Rattle.wq_clock.specs.Instance.{InstanceData}
use Rattle.wq_clock.specs.declared.bound.Bound.{Bound}
use Rattle.wq_base.specs.Name.{seconds_of}
use Rattle.wq_record.specs.RecordData.{RecordData}
use Rattle.wq_view.specs.View.{ViewData}
use Rattle.wq_query.specs.declared.field.Field.{Field}
use Rattle.wq_query.specs.declared.field.Field.TheVariants.{Name, Exists, New, Size, Kind, Cclock}
use Rattle.wq_query.specs.declared.field.Field.TheVariants.{Oclock, Mtime, MtimeMs}
use Rattle.wq_query.specs.Field.{field_name}
use Rattle.wq_reply.specs.Plan.{PlanData}
use Rattle.wq_reply.specs.Listing.{files_of}
use Rattle.wq_reply.specs.Reply.{field_data, members_with, file_data, reply_files, reply_of}

integer : (n : ℤ) → has_float (number (of_integer n)) ≡ false
integer (pos n) = refl
integer (negsuc n) = refl

field : (instance : InstanceData) (bound : Bound) (r : RecordData) (f : Field)
    → has_float (field_data instance bound r f) ≡ false
field instance bound r Name = refl
field instance bound r Exists = refl
field instance bound r New = refl
field instance bound r Size = integer r.size
field instance bound r Kind = refl
field instance bound r Cclock = refl
field instance bound r Oclock = refl
field instance bound r Mtime = integer (seconds_of r.mtime_ms)
field instance bound r MtimeMs = integer r.mtime_ms

put : (k : List ℕ) (d : Data) (ms : Members) → has_float d ≡ false → members_have_float ms ≡ false
    → members_have_float (with_member k d ms) ≡ false
put k d no_members h hs = or_from (has_float d) false h refl
put k d (member l e ms) h hs =
    ordered (slice_cmp nat_cmp k l) (or_parts (has_float e) _ hs).0 (put k d ms h (or_parts (has_float e) _ hs).1)
  where
    ordered : (order : Ordering) → has_float e ≡ false
        → members_have_float (with_member k d ms) ≡ false
        → members_have_float (match_ordering order (member k d (member l e ms)) (member l d ms) (member l e (with_member k d ms))) ≡ false
    ordered Less he later = or_from (has_float d) _ h hs
    ordered Equal he later = or_from (has_float d) _ h (or_parts (has_float e) _ hs).1
    ordered Greater he later = or_from (has_float e) _ he later

members : (instance : InstanceData) (bound : Bound) (r : RecordData) (ms : Members) (fields : List Field)
    → members_have_float ms ≡ false
    → members_have_float (members_with instance bound r ms fields) ≡ false
members instance bound r ms [] h = h
members instance bound r ms (f ∷ fields) h =
    members instance bound r (with_member (field_name f) (field_data instance bound r f) ms) fields (put (field_name f) (field_data instance bound r f) ms (field instance bound r f) h)

file : (fields : List Field) (instance : InstanceData) (bound : Bound) (r : RecordData)
    → has_float (file_data fields instance bound r) ≡ false
file [] instance bound r = refl
file (f ∷ []) instance bound r = field instance bound r f
file (f ∷ g ∷ fields) instance bound r = members instance bound r no_members (f ∷ g ∷ fields) refl

files : (fields : List Field) (instance : InstanceData) (bound : Bound) (rs : List RecordData)
    → items_have_float (items_of (map (file_data fields instance bound) rs)) ≡ false
files fields instance bound [] = refl
files fields instance bound (r ∷ rs) =
    or_from (has_float (file_data fields instance bound r)) _ (file fields instance bound r) (files fields instance bound rs)

-- no reply has one
pub no_reply_has_one : (plan : PlanData) (instance : InstanceData) (view : ViewData)
    → has_float (reply_of plan instance view) ≡ false
no_reply_has_one plan instance view =
    or_from (items_have_float (items_of (reply_files plan instance view.records))) false
    (files (plan.query).fields instance plan.bound (files_of plan view.records)) refl
