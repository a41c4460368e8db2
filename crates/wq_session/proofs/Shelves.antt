-- The calls of a shelf, with the meaning of its triggers.
use Rattle.std.proofs.Common.{◌≡◌, ℕ, suc, Result, Ok, Err, IfOk, Bool, true, false, not, nat_eq, if◌then◌else◌, List, [], ◌∷◌, ◌++◌, length, map, Option, Some, None, option_map, is_some, refl, sym, ap, ◌∙◌, ◌||◌}
use Rattle.std.specs.List.{list_any}
use Rattle.std.specs.Option.{option_map_or}
use Rattle.std.specs.Str.{bytes_eq}
use Rattle.wq_follow.specs.Followed.{trigger_data}
use Rattle.wq_follow.specs.declared.trigger.Trigger.{Trigger}
use Rattle.wq_registry.specs.ByName.{ByName, has_no_place, put, under, without}
use Rattle.wq_registry.specs.Limit.{max_triggers}
use Rattle.wq_registry.specs.Root.{RootData, called, changed, cursors_in, is_newer, new_root, numbered, triggers_in, with_cursor, with_root, with_trigger, without_cursor, without_number, without_text, without_trigger}
use Rattle.wq_registry.specs.Shelf.{ShelfData, cursor_unset, cursor_used, cursors_of, root_added, root_has_no_place, root_removed, trigger_added, trigger_removed, triggers_of}
use Rattle.wq_crawl.specs.At.{AtData}
use Rattle.wq_session.specs.At.{watched}
use Rattle.wq_session.specs.Shelved.{each, root_with, shelf_data}
use Rattle.wq_session.specs.Trigger.{has_no_trigger_place, trigger_called}
use Rattle.wq_session.specs.Watch.{root_texts}

module _ {A B : Type 0} (f : A → B) where
  called_with : (text : List ℕ) (rs : List (RootData A)) → called text (map (root_with f) rs) ≡ option_map (root_with f) (called text rs)
  called_with text [] = refl
  called_with text (r ∷ rs) = by (bytes_eq text r.text) (called_with text rs)
    where
      by : (b : Bool) → called text (map (root_with f) rs) ≡ option_map (root_with f) (called text rs)
          → (if b then Some (root_with f r) else called text (map (root_with f) rs)) ≡ option_map (root_with f) (if b then Some r else called text rs)
      by true later = refl
      by false later = later

  numbered_with : (number : ℕ) (rs : List (RootData A)) → numbered number (map (root_with f) rs) ≡ option_map (root_with f) (numbered number rs)
  numbered_with number [] = refl
  numbered_with number (r ∷ rs) = by (nat_eq number r.number) (numbered_with number rs)
    where
      by : (b : Bool) → numbered number (map (root_with f) rs) ≡ option_map (root_with f) (numbered number rs)
          → (if b then Some (root_with f r) else numbered number (map (root_with f) rs)) ≡ option_map (root_with f) (if b then Some r else numbered number rs)
      by true later = refl
      by false later = later

  texts_with : (rs : List (RootData A)) → root_texts (map (root_with f) rs) ≡ root_texts rs
  texts_with [] = refl
  texts_with (r ∷ rs) = ap (λ texts. r.text ∷ texts) (texts_with rs)

  length_with : (rs : List (RootData A)) → length (map (root_with f) rs) ≡ length rs
  length_with [] = refl
  length_with (r ∷ rs) = ap suc (length_with rs)

  newer_with : (text : List ℕ) (number : ℕ) (rs : List (RootData A)) → list_any (is_newer text number) (map (root_with f) rs) ≡ list_any (is_newer text number) rs
  newer_with text number [] = refl
  newer_with text number (r ∷ rs) = ap (λ b. is_newer text number r || b) (newer_with text number rs)

  without_number_with : (number : ℕ) (rs : List (RootData A)) → without_number number (map (root_with f) rs) ≡ map (root_with f) (without_number number rs)
  without_number_with number [] = refl
  without_number_with number (r ∷ rs) = by (not (nat_eq number r.number)) (without_number_with number rs)
    where
      by : (b : Bool) → without_number number (map (root_with f) rs) ≡ map (root_with f) (without_number number rs)
          → (if b then root_with f r ∷ without_number number (map (root_with f) rs) else without_number number (map (root_with f) rs))
          ≡ map (root_with f) (if b then r ∷ without_number number rs else without_number number rs)
      by true later = ap (λ xs. root_with f r ∷ xs) later
      by false later = later

  without_text_with : (text : List ℕ) (rs : List (RootData A)) → without_text text (map (root_with f) rs) ≡ map (root_with f) (without_text text rs)
  without_text_with text [] = refl
  without_text_with text (r ∷ rs) = by (not (bytes_eq text r.text)) (without_text_with text rs)
    where
      by : (b : Bool) → without_text text (map (root_with f) rs) ≡ map (root_with f) (without_text text rs)
          → (if b then root_with f r ∷ without_text text (map (root_with f) rs) else without_text text (map (root_with f) rs))
          ≡ map (root_with f) (if b then r ∷ without_text text rs else without_text text rs)
      by true later = ap (λ xs. root_with f r ∷ xs) later
      by false later = later

  last_with : (rs : List (RootData A)) (r : RootData A) → map (root_with f) rs ++ root_with f r ∷ [] ≡ map (root_with f) (rs ++ r ∷ [])
  last_with [] r = refl
  last_with (x ∷ xs) r = ap (λ ys. root_with f x ∷ ys) (last_with xs r)

  added_with : (text : List ℕ) (number : ℕ) (rs : List (RootData A)) → with_root text number (map (root_with f) rs) ≡ map (root_with f) (with_root text number rs)
  added_with text number rs =
      ap (λ b. if b then map (root_with f) rs else without_text text (map (root_with f) rs) ++ new_root text number ∷ []) (newer_with text number rs)
      ∙ by (list_any (is_newer text number) rs)
    where
      by : (b : Bool) → (if b then map (root_with f) rs else without_text text (map (root_with f) rs) ++ new_root text number ∷ [])
          ≡ map (root_with f) (if b then rs else without_text text rs ++ new_root text number ∷ [])
      by true = refl
      by false = ap (λ xs. xs ++ new_root text number ∷ []) (without_text_with text rs) ∙ last_with (without_text text rs) (new_root text number)

  pub changed_with : (number : ℕ) (change : RootData A → RootData A) (other : RootData B → RootData B)
      → ((r : RootData A) → root_with f (change r) ≡ other (root_with f r))
      → (rs : List (RootData A)) → changed number other (map (root_with f) rs) ≡ map (root_with f) (changed number change rs)
  changed_with number change other same [] = refl
  changed_with number change other same (r ∷ rs) = by (nat_eq number r.number) (changed_with number change other same rs)
    where
      by : (b : Bool) → changed number other (map (root_with f) rs) ≡ map (root_with f) (changed number change rs)
          → (if b then other (root_with f r) ∷ map (root_with f) rs else root_with f r ∷ changed number other (map (root_with f) rs))
          ≡ map (root_with f) (if b then change r ∷ rs else r ∷ changed number change rs)
      by true later = ap (λ x. x ∷ map (root_with f) rs) (sym (same r))
      by false later = ap (λ xs. root_with f r ∷ xs) later

  cursors_with : (o : Option (RootData A)) → cursors_in (option_map (root_with f) o) ≡ cursors_in o
  cursors_with None = refl
  cursors_with (Some r) = refl

  triggers_with : (o : Option (RootData A)) → triggers_in (option_map (root_with f) o) ≡ each f (triggers_in o)
  triggers_with None = refl
  triggers_with (Some r) = refl

  put_with : (name : List ℕ) (a : A) (xs : ByName A) → put name (f a) (each f xs) ≡ each f (put name a xs)
  put_with name a [] = refl
  put_with name a (x ∷ xs) = by (bytes_eq name x.0) (put_with name a xs)
    where
      by : (b : Bool) → put name (f a) (each f xs) ≡ each f (put name a xs)
          → (if b then (x.0, f a) ∷ each f xs else (x.0, f x.1) ∷ put name (f a) (each f xs)) ≡ each f (if b then (x.0, a) ∷ xs else x ∷ put name a xs)
      by true later = refl
      by false later = ap (λ ys. (x.0, f x.1) ∷ ys) later

  without_with : (name : List ℕ) (xs : ByName A) → without name (each f xs) ≡ each f (without name xs)
  without_with name [] = refl
  without_with name (x ∷ xs) = by (bytes_eq name x.0) (without_with name xs)
    where
      by : (b : Bool) → without name (each f xs) ≡ each f (without name xs)
          → (if b then each f xs else (x.0, f x.1) ∷ without name (each f xs)) ≡ each f (if b then xs else x ∷ without name xs)
      by true later = refl
      by false later = ap (λ ys. (x.0, f x.1) ∷ ys) later

  under_with : (name : List ℕ) (xs : ByName A) → under name (each f xs) ≡ option_map f (under name xs)
  under_with name [] = refl
  under_with name (x ∷ xs) = by (bytes_eq name x.0) (under_with name xs)
    where
      by : (b : Bool) → under name (each f xs) ≡ option_map f (under name xs)
          → (if b then Some (f x.1) else under name (each f xs)) ≡ option_map f (if b then Some x.1 else under name xs)
      by true later = refl
      by false later = later

  pub each_length : (xs : ByName A) → length (each f xs) ≡ length xs
  each_length [] = refl
  each_length (x ∷ xs) = ap suc (each_length xs)

pub some_same : {A B : Type 0} (f : A → B) (o : Option A) → is_some (option_map f o) ≡ is_some o
some_same f None = refl
some_same f (Some a) = refl

-- the root of a text
pub called_now : (text : List ℕ) (s : ShelfData Trigger) → called text (shelf_data s).roots ≡ option_map (root_with trigger_data) (called text s.roots)
called_now text s = called_with trigger_data text s.roots

-- whether its number is this one
pub number_now : (number : ℕ) (text : List ℕ) (s : ShelfData Trigger)
    → option_map_or (λ r. nat_eq number r.number) (called text (shelf_data s).roots) false ≡ option_map_or (λ r. nat_eq number r.number) (called text s.roots) false
number_now number text s = ap (λ o. option_map_or (λ r. nat_eq number r.number) o false) (called_now text s) ∙ by (called text s.roots)
  where
    by : (o : Option (RootData Trigger)) → option_map_or (λ r. nat_eq number r.number) (option_map (root_with trigger_data) o) false ≡ option_map_or (λ r. nat_eq number r.number) o false
    by None = refl
    by (Some r) = refl

module _ (text : List ℕ) (at : Option AtData) (s : ShelfData Trigger) where
  -- a root of another text is not watched
  pub not_watched : called text s.roots ≡ None → watched text at (shelf_data s) ≡ None
  not_watched none = by at
    where
      by : (at : Option AtData) → watched text at (shelf_data s) ≡ None
      by None = refl
      by (Some at) =
          ap (λ b. if b then Some at else None)
          (number_now (at.instance).root text s ∙ ap (λ o. option_map_or (λ r. nat_eq (at.instance).root r.number) o false) none)

  -- the root of the text has this number
  pub same_number : (a : AtData) (r : RootData Trigger) → at ≡ Some a → called text s.roots ≡ Some r → nat_eq (a.instance).root r.number ≡ true
      → watched text at (shelf_data s) ≡ Some a
  same_number a r is there same =
      ap (λ at. watched text at (shelf_data s)) is
      ∙ ap (λ b. if b then Some a else None)
      (number_now (a.instance).root text s ∙ ap (λ o. option_map_or (λ r. nat_eq (a.instance).root r.number) o false) there ∙ same)

  -- or another
  pub other_number : (a : AtData) (r : RootData Trigger) → at ≡ Some a → called text s.roots ≡ Some r → nat_eq (a.instance).root r.number ≡ false
      → watched text at (shelf_data s) ≡ None
  other_number a r is there other =
      ap (λ at. watched text at (shelf_data s)) is
      ∙ ap (λ b. if b then Some a else None)
      (number_now (a.instance).root text s ∙ ap (λ o. option_map_or (λ r. nat_eq (a.instance).root r.number) o false) there ∙ other)

-- the texts of the roots
pub texts_now : (s : ShelfData Trigger) → root_texts (shelf_data s).roots ≡ root_texts s.roots
texts_now s = texts_with trigger_data s.roots

-- a root has no place
pub no_place_now : (text : List ℕ) (number : ℕ) (s : ShelfData Trigger) → root_has_no_place text number (shelf_data s) ≡ root_has_no_place text number s
no_place_now text number s =
    rw (newer_with trigger_data text number s.roots, called_now text s, some_same (root_with trigger_data) (called text s.roots), length_with trigger_data s.roots) refl

-- a root is added
pub added_now : (text : List ℕ) (number : ℕ) (s : ShelfData Trigger) → root_added text number (shelf_data s) ≡ shelf_data (root_added text number s)
added_now text number s =
    ap (λ roots. record { programs = s.programs; roots = roots; sockname = s.sockname }) (added_with trigger_data text number s.roots)

-- a root is taken out
pub removed_now : (number : ℕ) (s : ShelfData Trigger) → root_removed number (shelf_data s) ≡ shelf_data (root_removed number s)
removed_now number s =
    ap (λ roots. record { programs = s.programs; roots = roots; sockname = s.sockname }) (without_number_with trigger_data number s.roots)

-- the cursors of a root
pub cursors_now : (number : ℕ) (s : ShelfData Trigger) → cursors_of number (shelf_data s) ≡ cursors_of number s
cursors_now number s = ap cursors_in (numbered_with trigger_data number s.roots) ∙ cursors_with trigger_data (numbered number s.roots)

-- a cursor is used
pub used_now : (number : ℕ) (name : List ℕ) (tick : ℕ) (s : ShelfData Trigger) → cursor_used number name tick (shelf_data s) ≡ shelf_data (cursor_used number name tick s)
used_now number name tick s =
    ap (λ roots. record { programs = s.programs; roots = roots; sockname = s.sockname })
    (changed_with trigger_data number (with_cursor name tick) (with_cursor name tick) (λ r. refl) s.roots)

-- a cursor is unset
pub unset_now : (number : ℕ) (name : List ℕ) (s : ShelfData Trigger) → cursor_unset number name (shelf_data s) ≡ shelf_data (cursor_unset number name s)
unset_now number name s =
    ap (λ roots. record { programs = s.programs; roots = roots; sockname = s.sockname })
    (changed_with trigger_data number (without_cursor name) (without_cursor name) (λ r. refl) s.roots)

-- the triggers of a root
pub triggers_now : (number : ℕ) (s : ShelfData Trigger) → triggers_of number (shelf_data s) ≡ each trigger_data (triggers_of number s)
triggers_now number s = ap triggers_in (numbered_with trigger_data number s.roots) ∙ triggers_with trigger_data (numbered number s.roots)

-- how many there are
pub count_now : (number : ℕ) (s : ShelfData Trigger) (o : Option (RootData Trigger)) → numbered number s.roots ≡ o
    → length (triggers_in o) ≡ length (triggers_of number (shelf_data s))
count_now number s o is =
    ap (λ (o : Option (RootData Trigger)). length (triggers_in o)) (sym is) ∙ sym (ap length (triggers_now number s) ∙ each_length trigger_data (triggers_of number s))

-- the trigger of a name
pub trigger_now : (number : ℕ) (name : List ℕ) (s : ShelfData Trigger) → trigger_called number name (shelf_data s) ≡ option_map trigger_data (under name (triggers_of number s))
trigger_now number name s = ap (under name) (triggers_now number s) ∙ under_with trigger_data name (triggers_of number s)

-- a trigger has no place
pub no_trigger_place_now : (number : ℕ) (name : List ℕ) (s : ShelfData Trigger)
    → has_no_trigger_place number name (shelf_data s) ≡ has_no_place max_triggers name (triggers_of number s)
no_trigger_place_now number name s =
    rw (triggers_now number s, under_with trigger_data name (triggers_of number s), some_same trigger_data (under name (triggers_of number s)), each_length trigger_data (triggers_of number s)) refl

-- a trigger is put under a name
pub trigger_added_now : (number : ℕ) (name : List ℕ) (t : Trigger) (s : ShelfData Trigger)
    → trigger_added number name (trigger_data t) (shelf_data s) ≡ shelf_data (trigger_added number name t s)
trigger_added_now number name t s =
    ap (λ roots. record { programs = s.programs; roots = roots; sockname = s.sockname })
    (changed_with trigger_data number (with_trigger name t) (with_trigger name (trigger_data t))
    (λ r. ap (λ ts. record { text = r.text; number = r.number; cursors = r.cursors; triggers = ts }) (sym (put_with trigger_data name t r.triggers))) s.roots)

-- a trigger is taken out
pub trigger_removed_now : (number : ℕ) (name : List ℕ) (s : ShelfData Trigger)
    → trigger_removed number name (shelf_data s) ≡ shelf_data (trigger_removed number name s)
trigger_removed_now number name s =
    ap (λ roots. record { programs = s.programs; roots = roots; sockname = s.sockname })
    (changed_with trigger_data number (without_trigger name) (without_trigger name)
    (λ r. ap (λ ts. record { text = r.text; number = r.number; cursors = r.cursors; triggers = ts }) (sym (without_with trigger_data name r.triggers))) s.roots)

-- the trigger of a name, of a root that is there or not
pub called_now_at : (number : ℕ) (name : List ℕ) (s : ShelfData Trigger) (o : Option (RootData Trigger)) → numbered number s.roots ≡ o
    → trigger_called number name (shelf_data s) ≡ option_map trigger_data (under name (triggers_in o))
called_now_at number name s o is =
    trigger_now number name s ∙ ap (λ (o : Option (RootData Trigger)). option_map trigger_data (under name (triggers_in o))) is

module _ {A E : Type 0} {P Q : A → Type 0} where
  -- of the answer of a call that went well
  pub if_ok_with : (result : Result A E) → ((a : A) → P a → Q a) → IfOk result P → IfOk result Q
  if_ok_with (Ok a) next so = next a so
  if_ok_with (Err e) next so = tt
