-- A map from texts is a list of things under names.
use Rattle.std.proofs.Common.{◌≡◌, ℕ, zero, suc, true, false, cond, not, ◌&&◌, nat_le, List, [], ◌∷◌, map, length, Option, None, Some, is_some, option_map, option_copied, Bor, refl, ap, ◌∙◌, one-add}
use Rattle.std.specs.declared.string.String.{String}
use Rattle.std.specs.declared.sync.Arc.{Arc}
use Rattle.std.specs.String.{string_bytes}
use Rattle.std.specs.Str.{bytes_eq}
use Rattle.std.specs.List.{position_or_len}
use Rattle.std.proofs.Common.{◌+◌, Bool, position, nat_lt, slice_get, sym, true≢false, IfSome, IfNone}
use Rattle.std.proofs.lemmas.List.{length-map}
use Rattle.std.specs.Map.{lookup, remove_entry, values_of, keys_of}
use Rattle.std.specs.Borrow.{GName}
use borrow.Follows.Closed.{read_of}
use mathlib.Core.Option.{Option as Perhaps}
use Rattle.indexmap.specs.IndexMap.{insert_entry, set_value_at}
use Rattle.wq_registry.specs.ByName.{ByName, under, put, put_at, names, values, without, has_no_place}
use Rattle.wq_registry.specs.Entry.{by_bytes, unshared}
use Rattle.wq_registry.proofs.Places.{place_is}

module _ {A Z : Type 0} (name : List ℕ) where
  -- the value that the map has is the one under the name
  pub found : (es : List (String Z × A)) → lookup (λ k. bytes_eq name (string_bytes k)) es ≡ under name (by_bytes es)
  found [] = refl
  found (e ∷ es) = ap (cond (bytes_eq name (string_bytes e.0)) (Some e.1)) (found es)

  -- a name that the map removes goes from the list
  pub removed : (es : List (String Z × A)) → by_bytes (remove_entry (λ k. bytes_eq name (string_bytes k)) es) ≡ without name (by_bytes es)
  removed [] = refl
  removed (e ∷ es) =
      elim (bytes_eq name (string_bytes e.0)) as (λ b. by_bytes (cond b es (e ∷ remove_entry (λ k. bytes_eq name (string_bytes k)) es)) ≡ cond b (by_bytes es) ((string_bytes e.0, e.1) ∷ without name (by_bytes es))) [
        | true ↦ refl
        | false ↦ ap (λ xs. (string_bytes e.0, e.1) ∷ xs) (removed es)
      ]

-- a thing that the map inserts is put into the list
pub inserted : {A Z : Type 0} (k : String Z) (v : A) (es : List (String Z × A)) → by_bytes (insert_entry (λ a b. bytes_eq (string_bytes a) (string_bytes b)) es k v) ≡ put (string_bytes k) v (by_bytes es)
inserted k v [] = refl
inserted k v (e ∷ es) =
    elim (bytes_eq (string_bytes k) (string_bytes e.0)) as (λ b. by_bytes (cond b ((e.0, v) ∷ es) (e ∷ insert_entry (λ a b. bytes_eq (string_bytes a) (string_bytes b)) es k v)) ≡ cond b ((string_bytes e.0, v) ∷ by_bytes es) ((string_bytes e.0, e.1) ∷ put (string_bytes k) v (by_bytes es))) [
      | true ↦ refl
      | false ↦ ap (λ xs. (string_bytes e.0, e.1) ∷ xs) (inserted k v es)
    ]

module _ {A Z : Type 0} where
  -- a value that is written at a place of the map is put there in the list
  pub written : (k : ℕ) (v : A) (es : List (String Z × A)) → by_bytes (set_value_at es k v) ≡ put_at k v (by_bytes es)
  written k v [] = refl
  written zero v (e ∷ es) = refl
  written (suc k) v (e ∷ es) = ap (λ xs. (string_bytes e.0, e.1) ∷ xs) (written k v es)

  -- the values of the map are those of the list
  pub same_values : (es : List (String Z × A)) → values_of es ≡ values (by_bytes es)
  same_values [] = refl
  same_values (e ∷ es) = ap (λ xs. e.1 ∷ xs) (same_values es)

-- two ways to describe the end of a loan are one if they agree at each value and without one
pub same_loan : {D E : Type 0} (name : Perhaps GName) {F G : E → D} {v w : D} → ((x : E) → F x ≡ G x) → v ≡ w → read_of name F v ≡ read_of name G w
same_loan name each none = λ j. read_of name (λ x. each x j) (none j)

module _ {A Z : Type 0} (name : List ℕ) where
  -- the things themselves are under the same names
  pub under-unshared : (xs : ByName (Arc A Z)) → under name (unshared xs) ≡ option_map (λ a. a.value) (under name xs)
  under-unshared [] = refl
  under-unshared (x ∷ xs) =
      elim (bytes_eq name x.0) as (λ b. cond b (Some x.1.value) (under name (unshared xs)) ≡ option_map (λ a. a.value) (cond b (Some x.1) (under name xs))) [
        | true ↦ refl
        | false ↦ under-unshared xs
      ]

  -- and so when one is put
  pub put-unshared : (a : Arc A Z) (xs : ByName (Arc A Z)) → unshared (put name a xs) ≡ put name a.value (unshared xs)
  put-unshared a [] = refl
  put-unshared a (x ∷ xs) =
      elim (bytes_eq name x.0) as (λ b. unshared (cond b ((x.0, a) ∷ xs) (x ∷ put name a xs)) ≡ cond b ((x.0, a.value) ∷ unshared xs) ((x.0, x.1.value) ∷ put name a.value (unshared xs))) [
        | true ↦ refl
        | false ↦ ap (λ ys. (x.0, x.1.value) ∷ ys) (put-unshared a xs)
      ]

  -- and when one is taken out
  pub without-unshared : (xs : ByName (Arc A Z)) → unshared (without name xs) ≡ without name (unshared xs)
  without-unshared [] = refl
  without-unshared (x ∷ xs) =
      elim (bytes_eq name x.0) as (λ b. unshared (cond b xs (x ∷ without name xs)) ≡ cond b (unshared xs) ((x.0, x.1.value) ∷ without name (unshared xs))) [
        | true ↦ refl
        | false ↦ ap (λ ys. (x.0, x.1.value) ∷ ys) (without-unshared xs)
      ]

  -- one is there or not alike
  pub there-unshared : (xs : ByName (Arc A Z)) → is_some (under name (unshared xs)) ≡ is_some (under name xs)
  there-unshared xs = ap is_some (under-unshared xs) ∙ by (under name xs)
    where
      by : (o : Option (Arc A Z)) → is_some (option_map (λ a. a.value) o) ≡ is_some o
      by None = refl
      by (Some a) = refl

  -- and one more has a place or not
  pub no_place-unshared : (limit : ℕ) (xs : ByName (Arc A Z)) → has_no_place limit name (unshared xs) ≡ has_no_place limit name xs
  no_place-unshared limit xs =
      ap (λ b. not b && nat_le limit (length (unshared xs))) (there-unshared xs)
      ∙ ap (λ n. not (is_some (under name xs)) && nat_le limit n) (length-map xs (λ x. (x.0, x.1.value)))

-- the view of a reference is made of its value
pub seen : {X Y : Type 0} (f : X → Y) (r : Option (Bor X)) → option_map (λ b. f b.now) r ≡ option_map f (option_copied r)
seen f None = refl
seen f (Some b) = refl

-- the keys of the map are the names of the list
pub same_names : {A Z : Type 0} (es : List (String Z × A)) → map string_bytes (keys_of es) ≡ names (by_bytes es)
same_names [] = refl
same_names (e ∷ es) = ap (λ xs. string_bytes e.0 ∷ xs) (same_names es)

-- the things themselves have the names
pub names-unshared : {A Z : Type 0} (xs : ByName (Arc A Z)) → names (unshared xs) ≡ names xs
names-unshared [] = refl
names-unshared (x ∷ xs) = ap (λ ys. x.0 ∷ ys) (names-unshared xs)

module _ {A Z : Type 0} (name : List ℕ) where
  -- a thing that is put at the first place with a name is put under it
  put-first : (v : A) (es : List (String Z × A)) → is_some (under name (by_bytes es)) ≡ true → put_at (position_or_len (λ k. bytes_eq name (string_bytes k)) (keys_of es)) v (by_bytes es) ≡ put name v (by_bytes es)
  put-first v [] h = absurd (true≢false (sym h))
  put-first v (e ∷ es) h = by (bytes_eq name (string_bytes e.0)) h (put-first v es)
    where
      by : (b : Bool) → is_some (cond b (Some e.1) (under name (by_bytes es))) ≡ true → (is_some (under name (by_bytes es)) ≡ true → put_at (position_or_len (λ k. bytes_eq name (string_bytes k)) (keys_of es)) v (by_bytes es) ≡ put name v (by_bytes es))
          → put_at (cond (not b) (1 + position_or_len (λ k. bytes_eq name (string_bytes k)) (keys_of es)) 0) v (by_bytes (e ∷ es)) ≡ cond b ((string_bytes e.0, v) ∷ by_bytes es) ((string_bytes e.0, e.1) ∷ put name v (by_bytes es))
      by true h rest = refl
      by false h rest =
          ap (λ k. put_at k v (by_bytes (e ∷ es))) (one-add (position_or_len (λ k. bytes_eq name (string_bytes k)) (keys_of es)))
          ∙ ap (λ xs. (string_bytes e.0, e.1) ∷ xs) (rest h)

  -- a thing that is put at the place of a name is put under the name
  pub at_place : (es : List (String Z × A)) (r : Option ℕ) → r ≡ position (λ k. bytes_eq name (string_bytes k)) (keys_of es) → is_some r ≡ is_some (lookup (λ k. bytes_eq name (string_bytes k)) es) → IfSome r (λ k. (v : A) → put_at k v (by_bytes es) ≡ put name v (by_bytes es))
  at_place es None is there = tt
  at_place es (Some k) is there = λ v.
      ap (λ k. put_at k v (by_bytes es)) (sym (place_is (nat_lt (position_or_len (λ k. bytes_eq name (string_bytes k)) (keys_of es)) (length (keys_of es))) (position_or_len (λ k. bytes_eq name (string_bytes k)) (keys_of es)) k (sym is)))
      ∙ put-first v es (sym (there ∙ ap is_some (found name es)))

  -- and the thing there is under it
  pub value_there : (es : List (String Z × A)) (r : Option ℕ) → IfSome r (λ k. slice_get (values_of es) k ≡ lookup (λ k. bytes_eq name (string_bytes k)) es) → IfSome r (λ k. slice_get (values (by_bytes es)) k ≡ under name (by_bytes es))
  value_there es None h = tt
  value_there es (Some k) h = ap (λ xs. slice_get xs k) (sym (same_values es)) ∙ h ∙ found name es

  -- a name without a place has nothing
  pub nothing_there : (es : List (String Z × A)) (r : Option ℕ) → is_some r ≡ is_some (lookup (λ k. bytes_eq name (string_bytes k)) es) → IfNone r (under name (by_bytes es) ≡ None)
  nothing_there es None there = by (under name (by_bytes es)) (there ∙ ap is_some (found name es))
    where
      by : (o : Option A) → false ≡ is_some o → o ≡ None
      by None h = refl
      by (Some a) h = absurd (true≢false (sym h))
  nothing_there es (Some k) there = tt

-- past the end nothing is put
pub put_past : {A : Type 0} (k : ℕ) (v : A) (xs : ByName A) → slice_get (values xs) k ≡ None → put_at k v xs ≡ xs
put_past k v [] h = refl
put_past zero v (x ∷ xs) h = let no : Some x.1 ≡ None = h in cc
put_past (suc k) v (x ∷ xs) h = ap (λ ys. x ∷ ys) (put_past k v xs h)
