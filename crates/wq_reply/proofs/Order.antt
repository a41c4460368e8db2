-- The members that are put one after the other are those of the fields in the order of their names.
use Rattle.std.proofs.Common.{◌≡◌, ℕ, ◌+◌, ◌<◌, List, [], ◌∷◌, ◌++◌, length, get_or, take, drop, drop-cons, add-one, append_assoc, refl, sym, ap, ◌∙◌}
use Rattle.std.specs.List.{insert}
use Rattle.std.proofs.Math.Seq.{take-length, drop-length}
use Rattle.std.proofs.lemmas.List.{take-append-drop, take_more}
use Rattle.std.specs.Ordering.{nat_cmp, match_ordering}
use Rattle.std.specs.Cmp.Lexicographic.{slice_cmp}
use Rattle.std.specs.declared.cmp.Ordering.{Ordering}
use Rattle.std.specs.declared.cmp.Ordering.TheVariants.{Less, Equal, Greater}
use Rattle.std.proofs.lemmas.Map.Lookups.{exact_bytes}
use Rattle.std.proofs.lemmas.Option.{same_Some}
use Rattle.serde_json.specs.Data.{object, member, put as with_member}
use Rattle.wq_clock.specs.Instance.{InstanceData}
use Rattle.wq_clock.specs.declared.bound.Bound.{Bound}
use Rattle.wq_record.specs.RecordData.{RecordData}
use Rattle.wq_query.specs.declared.field.Field.{Field}
use Rattle.wq_query.specs.Field.{field_name, field_named}
use Rattle.wq_reply.specs.Reply.{field_data, members_with, file_data}
use Rattle.wq_reply.specs.Printing.{with_field, with_fields, members_of}
use Rattle.wq_query.proofs.Grammar.{field-reads}

-- a name is that of one field
same_field : (f g : Field) → field_name f ≡ field_name g → f ≡ g
unfolding field_named
same_field f g e = same_Some f g (sym (field-reads f) ∙ ap field_named e ∙ field-reads g)

-- a field that is put among others is a member that is put among theirs
put-field : (instance : InstanceData) (bound : Bound) (r : RecordData) (f : Field) (gs : List Field)
    → with_member (field_name f) (field_data instance bound r f) (members_of instance bound r gs)
    ≡ members_of instance bound r (with_field f gs)
put-field instance bound r f [] = refl
put-field instance bound r f (g ∷ gs) =
    at (slice_cmp nat_cmp (field_name f) (field_name g)) refl (put-field instance bound r f gs)
  where
    at : (order : Ordering) → slice_cmp nat_cmp (field_name f) (field_name g) ≡ order
        → with_member (field_name f) (field_data instance bound r f) (members_of instance bound r gs)
        ≡ members_of instance bound r (with_field f gs)
        → match_ordering order (member (field_name f) (field_data instance bound r f) (member (field_name g) (field_data instance bound r g) (members_of instance bound r gs)))
        (member (field_name g) (field_data instance bound r f) (members_of instance bound r gs))
        (member (field_name g) (field_data instance bound r g) (with_member (field_name f) (field_data instance bound r f) (members_of instance bound r gs)))
        ≡ members_of instance bound r (match_ordering order (f ∷ g ∷ gs) (g ∷ gs) (g ∷ with_field f gs))
    at Less is later = refl
    at Equal is later = ap (λ h. member (field_name g) (field_data instance bound r h) (members_of instance bound r gs)) (same_field f g (exact_bytes (field_name f) (field_name g) is))
    at Greater is later = ap (member (field_name g) (field_data instance bound r g)) later

-- the same of fields one after the other
pub put-fields : (instance : InstanceData) (bound : Bound) (r : RecordData) (gs fs : List Field)
    → members_with instance bound r (members_of instance bound r gs) fs
    ≡ members_of instance bound r (with_fields gs fs)
put-fields instance bound r gs [] = refl
put-fields instance bound r gs (f ∷ fs) =
    ap (λ ms. members_with instance bound r ms fs) (put-field instance bound r f gs)
    ∙ put-fields instance bound r (with_field f gs) fs

-- from a place on: its field, and those after it
from : (gs : List Field) (i : ℕ) (g : Field) → i < length gs → g ≡ get_or gs i g
    → drop i gs ≡ g ∷ drop (i + 1) gs
from gs i g h here = cc (drop-cons gs i g h, add-one i)

-- the field comes before that at the place
pub put-less : (gs : List Field) (i : ℕ) (f g : Field) → i < length gs → g ≡ get_or gs i g
    → slice_cmp nat_cmp (field_name f) (field_name g) ≡ Less
    → take i gs ++ with_field f (drop i gs) ≡ insert gs i f
put-less gs i f g h here is = rw (from gs i g h here, is) refl

-- the field is that at the place
pub put-equal : (gs : List Field) (i : ℕ) (f g : Field) → i < length gs → g ≡ get_or gs i g
    → slice_cmp nat_cmp (field_name f) (field_name g) ≡ Equal
    → take i gs ++ with_field f (drop i gs) ≡ gs
put-equal gs i f g h here is =
    let back = ap (λ fs. take i gs ++ fs) (sym (from gs i g h here)) in
    rw (from gs i g h here, is) (back ∙ take-append-drop i gs)

-- the field comes after that at the place
pub put-greater : (gs : List Field) (i : ℕ) (f g : Field) → i < length gs → g ≡ get_or gs i g
    → slice_cmp nat_cmp (field_name f) (field_name g) ≡ Greater
    → take (i + 1) gs ++ with_field f (drop (i + 1) gs) ≡ take i gs ++ with_field f (drop i gs)
put-greater gs i f g h here is =
    let rest = with_field f (drop (i + 1) gs) in
    let more = ap (λ fs. fs ++ rest) (take_more gs i g h) ∙ append_assoc (take i gs) _ rest in
    rw (from gs i g h here, is) (more ∙ ap (λ k. take i gs ++ k ∷ rest) (sym here))

-- the field comes after all of them
pub put-last : (gs : List Field) (i : ℕ) (f : Field) → i ≡ length gs
    → take i gs ++ with_field f (drop i gs) ≡ gs ++ f ∷ []
put-last gs i f h = rw (h, take-length gs, drop-length gs) refl

-- several fields are told as an object of them in order
pub object-form : (fields ordered : List Field) → (length fields ≡ 1 → ⊥)
    → ordered ≡ with_fields [] fields
    → (instance : InstanceData) (bound : Bound) (r : RecordData)
    → object (members_of instance bound r ordered) ≡ file_data fields instance bound r
object-form [] ordered many e instance bound r = ap (λ fs. object (members_of instance bound r fs)) e
object-form (f ∷ []) ordered many e instance bound r = absurd (many refl)
object-form (f ∷ g ∷ fs) ordered many e instance bound r =
    ap (λ hs. object (members_of instance bound r hs)) e
    ∙ ap object (sym (put-fields instance bound r [] (f ∷ g ∷ fs)))
