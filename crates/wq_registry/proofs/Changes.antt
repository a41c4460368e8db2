-- The results of lists of changes.
use Rattle.std.proofs.Common.{◌≡◌, ℕ, Bool, true, false, not, ◌||◌, cond, List, [], ◌∷◌, ◌++◌, filter, Option, None, Some, is_some, refl, sym, ap, subst, ◌∙◌, append_assoc, append-nil, true≢false}
use Rattle.std.specs.List.{list_any}
use Rattle.std.specs.Str.{bytes_eq}
use Rattle.std.proofs.Common.{zero, suc, slice_get}
use Rattle.std.proofs.lemmas.Slice.Eq.{bytes_eq-Decides}
use Rattle.std.proofs.lemmas.List.Elements.{filter-append}
use Rattle.wq_registry.specs.ByName.{ByName, names, under, put, put_at, without}
use Rattle.wq_registry.specs.Change.{Change, putting, removing, changed_by, made, says_of, later, last_said, takes_out, brings_in, brought_in, LastChangeCounts, NamesStandInOrder, PlacesAreNames}

-- texts that are compared as equal are one
pub same_text : (a b : List ℕ) → bytes_eq a b ≡ true → a ≡ b
same_text a b h = (bytes_eq-Decides a b).0 h

-- a text is equal to itself
pub is_itself : (a : List ℕ) → bytes_eq a a ≡ true
is_itself a = (bytes_eq-Decides a a).1 refl

-- names that differ, the other way round
turned : (a b : List ℕ) → bytes_eq a b ≡ false → bytes_eq b a ≡ false
turned a b h = by (bytes_eq b a) refl
  where
    by : (c : Bool) → bytes_eq b a ≡ c → c ≡ false
    by true e = absurd (true≢false (sym (is_itself b) ∙ ap (λ m. bytes_eq m b) (same_text b a e) ∙ h))
    by false e = refl

-- each name is there once
abbrev pub Once : {A : Type 0} → ByName A → Type 0
Once [] = Unit {0}
Once (x ∷ xs) = (under x.0 xs ≡ None) × Once xs

module _ {A : Type 0} where
  -- another name keeps its thing
  pub put-other : (name n : List ℕ) (a : A) (xs : ByName A) → bytes_eq name n ≡ false → under name (put n a xs) ≡ under name xs
  put-other name n a [] h = rw h refl
  put-other name n a (x ∷ xs) h = by (bytes_eq n x.0) refl (put-other name n a xs h)
    where
      by : (b : Bool) → bytes_eq n x.0 ≡ b → under name (put n a xs) ≡ under name xs → under name (cond b ((x.0, a) ∷ xs) (x ∷ put n a xs)) ≡ under name (x ∷ xs)
      by true same rest =
          let other : bytes_eq name x.0 ≡ false = subst (λ m. bytes_eq name m ≡ false) (same_text n x.0 same) h in
          rw other refl
      by false differs rest = ap (cond (bytes_eq name x.0) (Some x.1)) rest

  -- the name has the thing that is put
  pub put-same : (n : List ℕ) (a : A) (xs : ByName A) → under n (put n a xs) ≡ Some a
  put-same n a [] = rw (is_itself n) refl
  put-same n a (x ∷ xs) = by (bytes_eq n x.0) refl (put-same n a xs)
    where
      by : (b : Bool) → bytes_eq n x.0 ≡ b → under n (put n a xs) ≡ Some a → under n (cond b ((x.0, a) ∷ xs) (x ∷ put n a xs)) ≡ Some a
      by true same rest = rw same refl
      by false differs rest = rw differs rest

  -- a name that is not taken out keeps its thing
  pub without-other : (name n : List ℕ) (xs : ByName A) → bytes_eq name n ≡ false → under name (without n xs) ≡ under name xs
  without-other name n [] h = refl
  without-other name n (x ∷ xs) h = by (bytes_eq n x.0) refl (without-other name n xs h)
    where
      by : (b : Bool) → bytes_eq n x.0 ≡ b → under name (without n xs) ≡ under name xs → under name (cond b xs (x ∷ without n xs)) ≡ under name (x ∷ xs)
      by true same rest =
          let other : bytes_eq name x.0 ≡ false = subst (λ m. bytes_eq name m ≡ false) (same_text n x.0 same) h in
          rw other refl
      by false differs rest = ap (cond (bytes_eq name x.0) (Some x.1)) rest

  -- a name that is there once and is taken out has nothing
  pub without-same : (n : List ℕ) (xs : ByName A) → Once xs → under n (without n xs) ≡ None
  without-same n [] h = refl
  without-same n (x ∷ xs) h = by (bytes_eq n x.0) refl (without-same n xs h.1)
    where
      by : (b : Bool) → bytes_eq n x.0 ≡ b → under n (without n xs) ≡ None → under n (cond b xs (x ∷ without n xs)) ≡ None
      by true same rest = subst (λ m. under m xs ≡ None) (sym (same_text n x.0 same)) h.0
      by false differs rest = rw differs rest

  -- putting leaves each name once
  pub once-put : (n : List ℕ) (a : A) (xs : ByName A) → Once xs → Once (put n a xs)
  once-put n a [] h = (refl, tt)
  once-put n a (x ∷ xs) h = by (bytes_eq n x.0) refl (once-put n a xs h.1)
    where
      by : (b : Bool) → bytes_eq n x.0 ≡ b → Once (put n a xs) → Once (cond b ((x.0, a) ∷ xs) (x ∷ put n a xs))
      by true same rest = h
      by false differs rest = (put-other x.0 n a xs (turned n x.0 differs) ∙ h.0, rest)

  -- so does taking out
  pub once-without : (n : List ℕ) (xs : ByName A) → Once xs → Once (without n xs)
  once-without n [] h = h
  once-without n (x ∷ xs) h = by (bytes_eq n x.0) refl (once-without n xs h.1)
    where
      by : (b : Bool) → bytes_eq n x.0 ≡ b → Once (without n xs) → Once (cond b xs (x ∷ without n xs))
      by true same rest = h.1
      by false differs rest = (without-other x.0 n xs (turned n x.0 differs) ∙ h.0, rest)

  -- and each change
  once-changed : (c : Change A) (xs : ByName A) → Once xs → Once (changed_by c xs)
  once-changed (putting n a) xs h = once-put n a xs h
  once-changed (removing n) xs h = once-without n xs h

  -- after a change a name has the thing of the change, if that is on the name, and else its old one
  step : (name : List ℕ) (c : Change A) (xs : ByName A) → Once xs → under name (changed_by c xs) ≡ later (says_of name c) (under name xs)
  step name (putting n a) xs h = by (bytes_eq name n) refl
    where
      by : (b : Bool) → bytes_eq name n ≡ b → under name (put n a xs) ≡ later (cond b (Some (Some a)) None) (under name xs)
      by true same = subst (λ m. under m (put n a xs) ≡ Some a) (sym (same_text name n same)) (put-same n a xs)
      by false differs = put-other name n a xs differs
  step name (removing n) xs h = by (bytes_eq name n) refl
    where
      by : (b : Bool) → bytes_eq name n ≡ b → under name (without n xs) ≡ later (cond b (Some None) None) (under name xs)
      by true same = subst (λ m. under m (without n xs) ≡ None) (sym (same_text name n same)) (without-same n xs h)
      by false differs = without-other name n xs differs

  -- after changes a name has the thing of the last one
  pub under-made : (name : List ℕ) (cs : List (Change A)) (xs : ByName A) → Once xs → under name (made cs xs) ≡ last_said name cs (under name xs)
  under-made name [] xs h = refl
  under-made name (c ∷ cs) xs h = under-made name cs (changed_by c xs) (once-changed c xs h) ∙ ap (last_said name cs) (step name c xs h)

-- the law of the last change
pub last_change_counts : {A : Type 0} → LastChangeCounts A
last_change_counts changes name = under-made name changes [] tt

module _ {X : Type 0} where
  -- all pass a test that always holds
  filter-all : (xs : List X) → filter (λ x. true) xs ≡ xs
  filter-all [] = refl
  filter-all (x ∷ xs) = ap (λ ys. x ∷ ys) (filter-all xs)

module _ {A : Type 0} where
  -- one more change decides
  last_said-push : (name : List ℕ) (before : List (Change A)) (c : Change A) (o : Option A) → last_said name (before ++ c ∷ []) o ≡ later (says_of name c) (last_said name before o)
  last_said-push name [] c o = refl
  last_said-push name (b ∷ before) c o = last_said-push name before c (later (says_of name b) o)

  -- putting under a name that is there keeps the names
  names-put-there : (n : List ℕ) (a : A) (xs : ByName A) → is_some (under n xs) ≡ true → names (put n a xs) ≡ names xs
  names-put-there n a [] h = absurd (true≢false (sym h))
  names-put-there n a (x ∷ xs) h = by (bytes_eq n x.0) h (names-put-there n a xs)
    where
      by : (b : Bool) → is_some (cond b (Some x.1) (under n xs)) ≡ true → (is_some (under n xs) ≡ true → names (put n a xs) ≡ names xs) → names (cond b ((x.0, a) ∷ xs) (x ∷ put n a xs)) ≡ x.0 ∷ names xs
      by true h rest = refl
      by false h rest = ap (λ ns. x.0 ∷ ns) (rest h)

  -- a new name comes last
  names-put-new : (n : List ℕ) (a : A) (xs : ByName A) → is_some (under n xs) ≡ false → names (put n a xs) ≡ names xs ++ n ∷ []
  names-put-new n a [] h = refl
  names-put-new n a (x ∷ xs) h = by (bytes_eq n x.0) h (names-put-new n a xs)
    where
      by : (b : Bool) → is_some (cond b (Some x.1) (under n xs)) ≡ false → (is_some (under n xs) ≡ false → names (put n a xs) ≡ names xs ++ n ∷ []) → names (cond b ((x.0, a) ∷ xs) (x ∷ put n a xs)) ≡ x.0 ∷ (names xs ++ n ∷ [])
      by true h rest = absurd (true≢false h)
      by false h rest = ap (λ ns. x.0 ∷ ns) (rest h)

  module _ (n : List ℕ) (goes : List ℕ → Bool) where
    -- a name that is not there is not among the names
    filter-missing : (xs : ByName A) → under n xs ≡ None → filter (λ m. not (bytes_eq m n || goes m)) (names xs) ≡ filter (λ m. not (goes m)) (names xs)
    filter-missing [] h = refl
    filter-missing (x ∷ xs) h = by (bytes_eq n x.0) refl h (filter-missing xs)
      where
        by : (b : Bool) → bytes_eq n x.0 ≡ b → cond b (Some x.1) (under n xs) ≡ None → (under n xs ≡ None → filter (λ m. not (bytes_eq m n || goes m)) (names xs) ≡ filter (λ m. not (goes m)) (names xs)) → filter (λ m. not (bytes_eq m n || goes m)) (x.0 ∷ names xs) ≡ filter (λ m. not (goes m)) (x.0 ∷ names xs)
        by true same h rest = let none : Some x.1 ≡ None = h in cc
        by false differs h rest =
            let other = turned n x.0 differs in
            ap (λ b. cond (not (b || goes x.0)) (x.0 ∷ filter (λ m. not (bytes_eq m n || goes m)) (names xs)) (filter (λ m. not (bytes_eq m n || goes m)) (names xs))) other
            ∙ ap (λ ns. cond (not (goes x.0)) (x.0 ∷ ns) ns) (rest h)

    -- the names without one are those that are not it
    filter-without : (xs : ByName A) → Once xs → filter (λ m. not (goes m)) (names (without n xs)) ≡ filter (λ m. not (bytes_eq m n || goes m)) (names xs)
    filter-without [] h = refl
    filter-without (x ∷ xs) h = by (bytes_eq n x.0) refl (filter-without xs h.1)
      where
        by : (b : Bool) → bytes_eq n x.0 ≡ b → filter (λ m. not (goes m)) (names (without n xs)) ≡ filter (λ m. not (bytes_eq m n || goes m)) (names xs) → filter (λ m. not (goes m)) (names (cond b xs (x ∷ without n xs))) ≡ filter (λ m. not (bytes_eq m n || goes m)) (x.0 ∷ names xs)
        by true same rest =
            let itself : bytes_eq x.0 n ≡ true = subst (λ m. bytes_eq m n ≡ true) (same_text n x.0 same) (is_itself n) in
            let missing : under n xs ≡ None = subst (λ m. under m xs ≡ None) (sym (same_text n x.0 same)) h.0 in
            sym (filter-missing xs missing)
            ∙ sym (ap (λ b. cond (not (b || goes x.0)) (x.0 ∷ filter (λ m. not (bytes_eq m n || goes m)) (names xs)) (filter (λ m. not (bytes_eq m n || goes m)) (names xs))) itself)
        by false differs rest =
            let other = turned n x.0 differs in
            ap (λ ns. cond (not (goes x.0)) (x.0 ∷ ns) ns) rest
            ∙ sym (ap (λ b. cond (not (b || goes x.0)) (x.0 ∷ filter (λ m. not (bytes_eq m n || goes m)) (names xs)) (filter (λ m. not (bytes_eq m n || goes m)) (names xs))) other)

  -- the names that stay after changes
  abbrev stays : List (Change A) → List ℕ → Bool
  stays after n = not (list_any (takes_out n) after)

  -- one change leaves those that stay, and the one that it brings in for good
  names-step : (before : List (Change A)) (c : Change A) (after : List (Change A)) (xs : ByName A) → Once xs → ((n : List ℕ) → last_said n before None ≡ under n xs) → filter (stays after) (names (changed_by c xs)) ≡ filter (stays (c ∷ after)) (names xs) ++ brings_in before c after
  names-step before (putting n a) after xs once is = by (is_some (under n xs)) refl
    where
      last : (b : Bool) → cond (not b) (n ∷ []) [] ≡ cond b [] (n ∷ [])
      last true = refl
      last false = refl

      by : (b : Bool) → is_some (under n xs) ≡ b → filter (stays after) (names (put n a xs)) ≡ filter (stays after) (names xs) ++ cond (is_some (last_said n before None) || list_any (takes_out n) after) [] (n ∷ [])
      by true there =
          ap (filter (stays after)) (names-put-there n a xs there)
          ∙ sym (append-nil (filter (stays after) (names xs)))
          ∙ sym (ap (λ b. filter (stays after) (names xs) ++ cond (b || list_any (takes_out n) after) [] (n ∷ [])) (ap is_some (is n) ∙ there))
      by false there =
          ap (filter (stays after)) (names-put-new n a xs there)
          ∙ filter-append (stays after) (names xs) (n ∷ [])
          ∙ ap (λ ns. filter (stays after) (names xs) ++ ns) (last (list_any (takes_out n) after))
          ∙ sym (ap (λ b. filter (stays after) (names xs) ++ cond (b || list_any (takes_out n) after) [] (n ∷ [])) (ap is_some (is n) ∙ there))
  names-step before (removing n) after xs once is =
      filter-without n (λ m. list_any (takes_out m) after) xs once
      ∙ sym (append-nil (filter (stays (removing n ∷ after)) (names xs)))

  -- changes leave the names that stay, and those that they bring in for good
  names-made : (before after : List (Change A)) (xs : ByName A) → Once xs → ((n : List ℕ) → last_said n before None ≡ under n xs) → names (made after xs) ≡ filter (stays after) (names xs) ++ brought_in before after
  names-made before [] xs once is = sym (filter-all (names xs)) ∙ sym (append-nil (filter (λ n. true) (names xs)))
  names-made before (c ∷ after) xs once is =
      names-made (before ++ c ∷ []) after (changed_by c xs) (once-changed c xs once) (λ n. last_said-push n before c None ∙ ap (later (says_of n c)) (is n) ∙ sym (step n c xs once))
      ∙ ap (λ ns. ns ++ brought_in (before ++ c ∷ []) after) (names-step before c after xs once is)
      ∙ append_assoc (filter (stays (c ∷ after)) (names xs)) (brings_in before c after) (brought_in (before ++ c ∷ []) after)

-- the law of the order of names
pub names_stand_in_order : {A : Type 0} → NamesStandInOrder A
names_stand_in_order changes = names-made [] changes [] tt (λ n. refl)

module _ {A : Type 0} where
  -- a name at a place has something
  named_there : (k : ℕ) (name : List ℕ) (xs : ByName A) → slice_get (names xs) k ≡ Some name → is_some (under name xs) ≡ true
  named_there k name [] h = let no : None ≡ Some name = h in cc
  named_there zero name (x ∷ xs) h =
      let same : x.0 ≡ name = cc in
      ap (λ b. is_some (cond b (Some x.1) (under name xs))) (subst (λ m. bytes_eq name m ≡ true) (sym same) (is_itself name))
  named_there (suc k) name (x ∷ xs) h = by (bytes_eq name x.0) (named_there k name xs h)
    where
      by : (b : Bool) → is_some (under name xs) ≡ true → is_some (cond b (Some x.1) (under name xs)) ≡ true
      by true rest = refl
      by false rest = rest

  -- a thing that is put at the place of a name is put under it
  put_place : (k : ℕ) (name : List ℕ) (a : A) (xs : ByName A) → Once xs → slice_get (names xs) k ≡ Some name → put_at k a xs ≡ put name a xs
  put_place k name a [] once h = let no : None ≡ Some name = h in cc
  put_place zero name a (x ∷ xs) once h =
      let same : x.0 ≡ name = cc in
      sym (ap (λ b. cond b ((x.0, a) ∷ xs) (x ∷ put name a xs)) (subst (λ m. bytes_eq name m ≡ true) (sym same) (is_itself name)))
  put_place (suc k) name a (x ∷ xs) once h = by (bytes_eq name x.0) refl (put_place k name a xs once.1 h)
    where
      by : (b : Bool) → bytes_eq name x.0 ≡ b → put_at k a xs ≡ put name a xs → x ∷ put_at k a xs ≡ cond b ((x.0, a) ∷ xs) (x ∷ put name a xs)
      by true same rest =
          let none : under name xs ≡ None = subst (λ m. under m xs ≡ None) (sym (same_text name x.0 same)) once.0 in
          absurd (true≢false (sym (named_there k name xs h) ∙ ap is_some none))
      by false differs rest = ap (λ ys. x ∷ ys) rest

  -- changes leave each name once
  once-made : (cs : List (Change A)) (xs : ByName A) → Once xs → Once (made cs xs)
  once-made [] xs once = once
  once-made (c ∷ cs) xs once = once-made cs (changed_by c xs) (once-changed c xs once)

-- the law of places
pub places_are_names : {A : Type 0} → PlacesAreNames A
places_are_names changes k name a h = put_place k name a (made changes []) (once-made changes [] tt) h
