-- Replies that tell triggers.
use Rattle.std.proofs.Common.{◌≡◌, ◌+◌, ◌||◌, ℕ, zero, suc, Bool, true, false, List, [], ◌∷◌, ◌++◌, map, take, not, is_some, Option, Some, None, Ok, refl, ap, sym, subst, ◌∙◌, arith, slice_get}
use Rattle.std.proofs.lemmas.List.{map-append}
use Rattle.std.specs.declared.alloc.Global.{Global}
use Rattle.std.specs.declared.sync.Arc.{Arc}
use Rattle.serde_json.specs.Data.{Data}
use Rattle.serde_json.specs.View.{items_of, view as data_of}
use Rattle.serde_json.specs.Written.{has_float, items_have_float}
use Rattle.serde_json.specs.declared.value.Value.{Value}
use Rattle.wq_follow.specs.Followed.{trigger_data}
use Rattle.wq_follow.specs.Kept.{data_in}
use Rattle.wq_follow.specs.declared.trigger.Trigger.{Trigger}
use Rattle.wq_registry.specs.ByName.{ByName}
use Rattle.wq_registry.specs.Root.{RootData, numbered, triggers_in}
use Rattle.wq_registry.specs.Shelf.{ShelfData, triggers_of}
use Rattle.wq_session.specs.Objects.{AreObjects}
use Rattle.wq_session.proofs.Shelves.{triggers_now}
use Rattle.wq_session.specs.Shelved.{each, shelf_data}
use Rattle.wq_base.specs.Fault.{unless_fault}
use Rattle.wq_base.proofs.Facts.{take_next}
use Rattle.wq_code.specs.declared.raw.Raw.{Raw}
use Rattle.wq_follow.specs.Definition.{DefinitionData}
use Rattle.wq_follow.specs.Round.{TriggerData}
use Rattle.wq_registry.specs.Shelf.{trigger_added}
use Rattle.wq_session.specs.Out.{replies}
use Rattle.wq_ask.specs.Trigger.{trigger_reply, triggers_reply}
use Rattle.wq_ask.specs.declared.refusal.Refusal.TheVariants.{TooManyTriggers}
use Rattle.wq_session.specs.At.{ShelfNow}
use Rattle.wq_session.specs.Trigger.{defined_name, has_no_trigger_place, objects_of, put_trigger, trigger_called, trigger_in}
use Rattle.wq_session.specs.Work.{WorkData, objects_in, says}

-- the objects of triggers have no float, so neither has the reply that tells them
pub plain_triggers : (d : Data) (objects : List Data) → d ≡ triggers_reply objects → items_have_float (items_of objects) ≡ false → has_float d ≡ false
plain_triggers d objects is plain = ap has_float is ∙ rw plain refl

module _ {A : Type 0} where
  -- none more at the end
  pub take_past : (xs : List A) (k : ℕ) → slice_get xs k ≡ None → take (k + 1) xs ≡ take k xs
  take_past xs k is = subst (λ n. take n xs ≡ take k xs) (one_more k) (by xs k is)
    where
      one_more : (k : ℕ) → suc k ≡ k + 1
      one_more k = omega arith

      by : (xs : List A) (k : ℕ) → slice_get xs k ≡ None → take (suc k) xs ≡ take k xs
      by [] zero is = refl
      by [] (suc k) is = refl
      by (y ∷ xs) zero is = absurd cc
      by (y ∷ xs) (suc k) is = ap (λ ys. y ∷ ys) (by xs k is)

-- the objects of one trigger more
objects_more : (ts : ByName Trigger) (t : List ℕ × Trigger)
    → objects_of (each trigger_data (ts ++ t ∷ [])) ≡ objects_of (each trigger_data ts) ++ (trigger_data t.1).object ∷ []
objects_more [] t = refl
objects_more (x ∷ ts) t = ap (λ ds. (trigger_data x.1).object ∷ ds) (objects_more ts t)

-- the object of one trigger more
pub one_object : (ts : ByName Trigger) (k : ℕ) (t : List ℕ × Trigger) (objects : List (Arc (List ℕ) Global)) (object : Arc (List ℕ) Global)
    → objects_in objects ≡ objects_of (each trigger_data (take k ts)) → slice_get ts k ≡ Some t → data_in object.value ≡ (trigger_data t.1).object
    → objects_in (objects ++ object ∷ []) ≡ objects_of (each trigger_data (take (k + 1) ts))
one_object ts k t objects object so there is =
    map-append (λ object. data_in object.value) objects (object ∷ [])
    ∙ ap (λ ds. ds ++ data_in object.value ∷ []) so
    ∙ ap (λ d. objects_of (each trigger_data (take k ts)) ++ d ∷ []) is
    ∙ sym (objects_more (take k ts) t)
    ∙ ap (λ ts. objects_of (each trigger_data ts)) (sym (take_next ts k t there))

-- no object more
pub no_object : (ts : ByName Trigger) (k : ℕ) (objects : List (Arc (List ℕ) Global)) → objects_in objects ≡ objects_of (each trigger_data (take k ts))
    → slice_get ts k ≡ None → objects_in objects ≡ objects_of (each trigger_data (take (k + 1) ts))
no_object ts k objects so none = so ∙ ap (λ ts. objects_of (each trigger_data ts)) (sym (take_past ts k none))

-- a list to which a value without floats is put
plain_more : (ds : List Data) (d : Data) → items_have_float (items_of ds) ≡ false → has_float d ≡ false
    → items_have_float (items_of (ds ++ d ∷ [])) ≡ false
plain_more [] d plain one = rw one refl
plain_more (x ∷ ds) d plain one = by (has_float x) plain (λ so. plain_more ds d so one)
  where
    by : (b : Bool) → (b || items_have_float (items_of ds)) ≡ false
        → (items_have_float (items_of ds) ≡ false → items_have_float (items_of (ds ++ d ∷ [])) ≡ false)
        → (b || items_have_float (items_of (ds ++ d ∷ []))) ≡ false
    by true plain later = absurd cc
    by false plain later = later plain

-- the value of one object more
pub one_value : (objects : List (Arc (List ℕ) Global)) (k : ℕ) (object : Arc (List ℕ) Global) (values : List Value) (value : Value)
    → AreObjects (objects_in (take k objects)) values → slice_get objects k ≡ Some object → data_of value ≡ data_in object.value
    → has_float (data_of value) ≡ false → AreObjects (objects_in (take (k + 1) objects)) (values ++ value ∷ [])
one_value objects k object values value are there is plain = record {
  same = map-append data_of values (value ∷ [])
      ∙ ap (λ ds. ds ++ data_of value ∷ []) are.same
      ∙ ap (λ d. objects_in (take k objects) ++ d ∷ []) is
      ∙ sym (map-append (λ object. data_in object.value) (take k objects) (object ∷ []))
      ∙ ap objects_in (sym (take_next objects k object there));
  plain = subst (λ ds. items_have_float (items_of ds) ≡ false) (sym (map-append data_of values (value ∷ [])))
      (plain_more (map data_of values) (data_of value) are.plain plain);
}

-- the objects of a root that is there
pub objects_there : (number : ℕ) (s : ShelfData Trigger) (r : RootData Trigger) → numbered number s.roots ≡ Some r
    → objects_of (each trigger_data r.triggers) ≡ objects_of (triggers_of number (shelf_data s))
objects_there number s r there =
    sym (ap objects_of (triggers_now number s ∙ ap (λ (o : Option (RootData Trigger)). each trigger_data (triggers_in o)) there))

-- and of one that is not
pub no_objects : (number : ℕ) (s : ShelfData Trigger) (objects : List (Arc (List ℕ) Global)) → numbered number s.roots ≡ None → objects ≡ []
    → objects_in objects ≡ objects_of (triggers_of number (shelf_data s))
no_objects number s objects none empty =
    ap objects_in empty
    ∙ sym (ap objects_of (triggers_now number s ∙ ap (λ (o : Option (RootData Trigger)). each trigger_data (triggers_in o)) none))

-- a trigger that was put under its name, part by part
pub trigger_put : (root : List ℕ) (number : ℕ) (d : DefinitionData) (program : Option Raw) (shelf : ShelfNow) (name : List ℕ) (work : WorkData)
    (t : TriggerData) (after : ShelfNow) → name ≡ defined_name d → has_no_trigger_place number name shelf ≡ false
    → work ≡ says (replies (trigger_reply name (is_some (trigger_called number name shelf))))
    → t ≡ trigger_in root number d program shelf → after ≡ trigger_added number name t shelf
    → put_trigger root number d program shelf ≡ Ok (record { work = work; shelf = after })
trigger_put root number d program shelf name work t after named place said made added =
    ap (λ b. unless_fault TooManyTriggers (not b) (Ok (record {
      work = says (replies (trigger_reply (defined_name d) (is_some (trigger_called number (defined_name d) shelf))));
      shelf = trigger_added number (defined_name d) (trigger_in root number d program shelf) shelf;
    }))) (ap (λ n. has_no_trigger_place number n shelf) (sym named) ∙ place)
    ∙ ap (λ n. Ok (record {
      work = says (replies (trigger_reply n (is_some (trigger_called number n shelf))));
      shelf = trigger_added number n (trigger_in root number d program shelf) shelf;
    })) (sym named)
    ∙ ap (λ w. Ok (record { work = w; shelf = trigger_added number name (trigger_in root number d program shelf) shelf })) (sym said)
    ∙ ap (λ x. Ok (record { work = work; shelf = trigger_added number name x shelf })) (sym made)
    ∙ ap (λ s. Ok (record { work = work; shelf = s })) (sym added)
