-- A root keeps the things that the calls since it was added made.
use Rattle.std.proofs.Common.{◌≡◌, ℕ, Bool, true, false, not, ◌&&◌, ◌||◌, ◌⊎◌, inl, inr, cond, nat_eq, List, [], ◌∷◌, ◌++◌, filter, Option, None, Some, is_some, option_map, refl, sym, ap, subst, ◌∙◌, true≢false}
use Rattle.std.proofs.lemmas.Bool.{and_parts, or_parts, eqb-true, eq-eqb}
use Rattle.std.specs.List.{list_any, flat_map}
use Rattle.std.specs.Str.{bytes_eq}
use Rattle.wq_registry.specs.Change.{Change, putting, removing, made, changed_by}
use Rattle.wq_registry.specs.ByName.{ByName}
use Rattle.wq_registry.specs.Root.{RootData, numbered, changed, is_newer, without_number, without_text, new_root, with_cursor, without_cursor, with_trigger, without_trigger, cursors_in, triggers_in}
use Rattle.wq_registry.specs.Shelf.{ShelfData, blank}
use Rattle.wq_registry.specs.Use.{Use, at_tick, unsetting, used, used_by}
use Rattle.wq_registry.specs.History.{Call, adds_program, removes_program, adds_root, removes_root, uses_cursor, unsets_cursor, adds_trigger, removes_trigger, after, after_all, is_on, stays_on, is_interrupted, since_added, cursor_use, trigger_change, CursorsAreMade, TriggersAreMade}

-- numbers that are compared as equal are one
same_number : (a b : ℕ) → nat_eq a b ≡ true → a ≡ b
same_number a b h = eqb-true a b h

-- numbers that differ, the other way round
turned_number : (a b : ℕ) → nat_eq a b ≡ false → nat_eq b a ≡ false
turned_number a b h = by (nat_eq b a) refl
  where
    by : (c : Bool) → nat_eq b a ≡ c → c ≡ false
    by true e = absurd (true≢false (sym (eq-eqb a b (sym (same_number b a e))) ∙ h))
    by false e = refl

module _ {T : Type 0} where
  -- each number is there once
  abbrev Numbered : List (RootData T) → Type 0
  Numbered [] = Unit {0}
  Numbered (r ∷ rs) = (numbered r.number rs ≡ None) × Numbered rs

  module _ (root : ℕ) where
    -- a change of the root
    changed-same : (f : RootData T → RootData T) → ((r : RootData T) → (f r).number ≡ r.number) → (rs : List (RootData T)) → numbered root (changed root f rs) ≡ option_map f (numbered root rs)
    changed-same f keeps [] = refl
    changed-same f keeps (r ∷ rs) = by (nat_eq root r.number) refl (changed-same f keeps rs)
      where
        by : (b : Bool) → nat_eq root r.number ≡ b → numbered root (changed root f rs) ≡ option_map f (numbered root rs) → numbered root (cond b (f r ∷ rs) (r ∷ changed root f rs)) ≡ option_map f (cond b (Some r) (numbered root rs))
        by true same rest = ap (λ b. cond b (Some (f r)) (numbered root rs)) (ap (nat_eq root) (keeps r) ∙ same)
        by false differs rest = ap (λ b. cond b (Some r) (numbered root (changed root f rs))) differs ∙ rest

    -- a change of another root
    changed-other : (n : ℕ) (f : RootData T → RootData T) → ((r : RootData T) → (f r).number ≡ r.number) → nat_eq root n ≡ false → (rs : List (RootData T)) → numbered root (changed n f rs) ≡ numbered root rs
    changed-other n f keeps other [] = refl
    changed-other n f keeps other (r ∷ rs) = by (nat_eq n r.number) refl (changed-other n f keeps other rs)
      where
        by : (b : Bool) → nat_eq n r.number ≡ b → numbered root (changed n f rs) ≡ numbered root rs → numbered root (cond b (f r ∷ rs) (r ∷ changed n f rs)) ≡ cond (nat_eq root r.number) (Some r) (numbered root rs)
        by true same rest =
            let differs : nat_eq root r.number ≡ false = subst (λ m. nat_eq root m ≡ false) (same_number n r.number same) other in
            ap (λ b. cond b (Some (f r)) (numbered root rs)) (ap (nat_eq root) (keeps r) ∙ differs)
            ∙ sym (ap (λ b. cond b (Some r) (numbered root rs)) differs)
        by false differs rest = ap (cond (nat_eq root r.number) (Some r)) rest

    -- if there is none, leaving some out leaves none
    filter-none : (test : RootData T → Bool) (rs : List (RootData T)) → numbered root rs ≡ None → numbered root (filter test rs) ≡ None
    filter-none test [] h = refl
    filter-none test (r ∷ rs) h = by (nat_eq root r.number) refl h (filter-none test rs)
      where
        keep : (b : Bool) → nat_eq root r.number ≡ false → numbered root (filter test rs) ≡ None → numbered root (cond b (r ∷ filter test rs) (filter test rs)) ≡ None
        keep true differs rest = ap (λ b. cond b (Some r) (numbered root (filter test rs))) differs ∙ rest
        keep false differs rest = rest

        by : (b : Bool) → nat_eq root r.number ≡ b → cond b (Some r) (numbered root rs) ≡ None → (numbered root rs ≡ None → numbered root (filter test rs) ≡ None) → numbered root (filter test (r ∷ rs)) ≡ None
        by true same h rest = let none : Some r ≡ None = h in cc
        by false differs h rest = keep (test r) differs (rest h)

    -- if there is one, leaving some out leaves that one, or none
    filter-some : (test : RootData T → Bool) (rs : List (RootData T)) (x : RootData T) → Numbered rs → numbered root rs ≡ Some x → (numbered root (filter test rs) ≡ Some x) ⊎ (numbered root (filter test rs) ≡ None)
    filter-some test [] x once h = let none : None ≡ Some x = h in cc
    filter-some test (r ∷ rs) x once h = by (nat_eq root r.number) refl h (filter-some test rs x once.1)
      where
        here : (b : Bool) → nat_eq root r.number ≡ true → r ≡ x → (numbered root (cond b (r ∷ filter test rs) (filter test rs)) ≡ Some x) ⊎ (numbered root (cond b (r ∷ filter test rs) (filter test rs)) ≡ None)
        here true same is = inl (ap (λ b. cond b (Some r) (numbered root (filter test rs))) same ∙ ap Some is)
        here false same is = inr (filter-none test rs (subst (λ n. numbered n rs ≡ None) (sym (same_number root r.number same)) once.0))

        there : (b : Bool) → nat_eq root r.number ≡ false → ((numbered root (filter test rs) ≡ Some x) ⊎ (numbered root (filter test rs) ≡ None)) → (numbered root (cond b (r ∷ filter test rs) (filter test rs)) ≡ Some x) ⊎ (numbered root (cond b (r ∷ filter test rs) (filter test rs)) ≡ None)
        there true differs (inl is) = inl (ap (λ b. cond b (Some r) (numbered root (filter test rs))) differs ∙ is)
        there true differs (inr is) = inr (ap (λ b. cond b (Some r) (numbered root (filter test rs))) differs ∙ is)
        there false differs rest = rest

        by : (b : Bool) → nat_eq root r.number ≡ b → cond b (Some r) (numbered root rs) ≡ Some x → (numbered root rs ≡ Some x → (numbered root (filter test rs) ≡ Some x) ⊎ (numbered root (filter test rs) ≡ None)) → (numbered root (filter test (r ∷ rs)) ≡ Some x) ⊎ (numbered root (filter test (r ∷ rs)) ≡ None)
        by true same h rest = let is : r ≡ x = cc in here (test r) same is
        by false differs h rest = there (test r) differs (rest h)

    -- roots that are put after others are found if those have none
    append-some : (rs ys : List (RootData T)) (x : RootData T) → numbered root rs ≡ Some x → numbered root (rs ++ ys) ≡ Some x
    append-some [] ys x h = let none : None ≡ Some x = h in cc
    append-some (r ∷ rs) ys x h = by (nat_eq root r.number) h (append-some rs ys x)
      where
        by : (b : Bool) → cond b (Some r) (numbered root rs) ≡ Some x → (numbered root rs ≡ Some x → numbered root (rs ++ ys) ≡ Some x) → cond b (Some r) (numbered root (rs ++ ys)) ≡ Some x
        by true h rest = h
        by false h rest = rest h

    -- and not before them
    append-none : (rs ys : List (RootData T)) → numbered root rs ≡ None → numbered root (rs ++ ys) ≡ numbered root ys
    append-none [] ys h = refl
    append-none (r ∷ rs) ys h = by (nat_eq root r.number) h (append-none rs ys)
      where
        by : (b : Bool) → cond b (Some r) (numbered root rs) ≡ None → (numbered root rs ≡ None → numbered root (rs ++ ys) ≡ numbered root ys) → cond b (Some r) (numbered root (rs ++ ys)) ≡ numbered root ys
        by true h rest = let none : Some r ≡ None = h in cc
        by false h rest = rest h

    -- a number that no root says is not new is no root's
    not_newer : (text : List ℕ) (rs : List (RootData T)) → list_any (is_newer text root) rs ≡ false → numbered root rs ≡ None
    not_newer text [] h = refl
    not_newer text (r ∷ rs) h =
        let parts = or_parts (is_newer text root r) (list_any (is_newer text root) rs) h in
        let number = (or_parts (nat_eq root r.number) _ parts.0).0 in
        ap (λ b. cond b (Some r) (numbered root rs)) number ∙ not_newer text rs parts.1

    -- a change of any root leaves none if there is none
    changed-none : (n : ℕ) (f : RootData T → RootData T) → ((r : RootData T) → (f r).number ≡ r.number) → (rs : List (RootData T)) → numbered root rs ≡ None → numbered root (changed n f rs) ≡ None
    changed-none n f keeps [] h = refl
    changed-none n f keeps (r ∷ rs) h = by (nat_eq root r.number) refl h (nat_eq n r.number) (changed-none n f keeps rs)
      where
        put : (c : Bool) → nat_eq root r.number ≡ false → numbered root rs ≡ None → numbered root (changed n f rs) ≡ None → numbered root (cond c (f r ∷ rs) (r ∷ changed n f rs)) ≡ None
        put true differs none rest = ap (λ b. cond b (Some (f r)) (numbered root rs)) (ap (nat_eq root) (keeps r) ∙ differs) ∙ none
        put false differs none rest = ap (λ b. cond b (Some r) (numbered root (changed n f rs))) differs ∙ rest

        by : (b : Bool) → nat_eq root r.number ≡ b → cond b (Some r) (numbered root rs) ≡ None → (c : Bool) → (numbered root rs ≡ None → numbered root (changed n f rs) ≡ None) → numbered root (cond c (f r ∷ rs) (r ∷ changed n f rs)) ≡ None
        by true same h c rest = let none : Some r ≡ None = h in cc
        by false differs h c rest = put c differs h (rest h)

    -- the effect of a change on the root, whichever it is of
    on-change : (n : ℕ) (f : RootData T → RootData T) → ((r : RootData T) → (f r).number ≡ r.number) → (rs : List (RootData T)) (x : RootData T) → numbered root rs ≡ Some x → numbered root (changed n f rs) ≡ Some (cond (nat_eq root n) (f x) x)
    on-change n f keeps rs x h = by (nat_eq root n) refl
      where
        by : (b : Bool) → nat_eq root n ≡ b → numbered root (changed n f rs) ≡ Some (cond b (f x) x)
        by true same = subst (λ m. numbered root (changed m f rs) ≡ Some (f x)) (same_number root n same) (changed-same f keeps rs ∙ ap (option_map f) h)
        by false differs = changed-other n f keeps differs rs ∙ h

  -- changes leave each number once
  numbered-changed : (n : ℕ) (f : RootData T → RootData T) → ((r : RootData T) → (f r).number ≡ r.number) → (rs : List (RootData T)) → Numbered rs → Numbered (changed n f rs)
  numbered-changed n f keeps [] once = once
  numbered-changed n f keeps (r ∷ rs) once = by (nat_eq n r.number) (numbered-changed n f keeps rs once.1)
    where
      by : (b : Bool) → Numbered (changed n f rs) → Numbered (cond b (f r ∷ rs) (r ∷ changed n f rs))
      by true rest = (subst (λ m. numbered m rs ≡ None) (sym (keeps r)) once.0, once.1)
      by false rest = (changed-none r.number n f keeps rs once.0, rest)

  -- so does leaving some out
  numbered-filter : (test : RootData T → Bool) (rs : List (RootData T)) → Numbered rs → Numbered (filter test rs)
  numbered-filter test [] once = once
  numbered-filter test (r ∷ rs) once = by (test r) (numbered-filter test rs once.1)
    where
      by : (b : Bool) → Numbered (filter test rs) → Numbered (cond b (r ∷ filter test rs) (filter test rs))
      by true rest = (filter-none r.number test rs once.0, rest)
      by false rest = rest

  -- and adding a root with a new number
  numbered-push : (rs : List (RootData T)) (y : RootData T) → Numbered rs → numbered y.number rs ≡ None → Numbered (rs ++ y ∷ [])
  numbered-push [] y once h = (refl, tt)
  numbered-push (r ∷ rs) y once h = by (nat_eq y.number r.number) refl h (numbered-push rs y once.1)
    where
      by : (b : Bool) → nat_eq y.number r.number ≡ b → cond b (Some r) (numbered y.number rs) ≡ None → (numbered y.number rs ≡ None → Numbered (rs ++ y ∷ [])) → Numbered ((r ∷ rs) ++ y ∷ [])
      by true same h rest = let none : Some r ≡ None = h in cc
      by false differs h rest = (append-none r.number rs (y ∷ []) once.0 ∙ ap (λ b. cond b (Some y) None) (turned_number y.number r.number differs), rest h)

  -- each number is there once after every call
  numbered-after : (c : Call T) (s : ShelfData T) → Numbered s.roots → Numbered (after c s).roots
  numbered-after (adds_program name program) s once = once
  numbered-after (removes_program name) s once = once
  numbered-after (adds_root text number) s once = by (list_any (is_newer text number) s.roots) refl
    where
      by : (b : Bool) → list_any (is_newer text number) s.roots ≡ b → Numbered (cond b s.roots (without_text text s.roots ++ new_root text number ∷ []))
      by true newer = once
      by false none = numbered-push (without_text text s.roots) (new_root text number) (numbered-filter (λ r. not (bytes_eq text r.text)) s.roots once) (filter-none number (λ r. not (bytes_eq text r.text)) s.roots (not_newer number text s.roots none))
  numbered-after (removes_root number) s once = numbered-filter (λ r. not (nat_eq number r.number)) s.roots once
  numbered-after (uses_cursor root name tick) s once = numbered-changed root (with_cursor name tick) (λ r. refl) s.roots once
  numbered-after (unsets_cursor root name) s once = numbered-changed root (without_cursor name) (λ r. refl) s.roots once
  numbered-after (adds_trigger root name trigger) s once = numbered-changed root (with_trigger name trigger) (λ r. refl) s.roots once
  numbered-after (removes_trigger root name) s once = numbered-changed root (without_trigger name) (λ r. refl) s.roots once

  -- the effect of a call on a root that stays
  abbrev effect : ℕ → Call T → RootData T → RootData T
  effect root (uses_cursor r name tick) x = cond (nat_eq root r) (with_cursor name tick x) x
  effect root (unsets_cursor r name) x = cond (nat_eq root r) (without_cursor name x) x
  effect root (adds_trigger r name trigger) x = cond (nat_eq root r) (with_trigger name trigger x) x
  effect root (removes_trigger r name) x = cond (nat_eq root r) (without_trigger name x) x
  effect root (adds_program name program) x = x
  effect root (removes_program name) x = x
  effect root (adds_root text number) x = x
  effect root (removes_root number) x = x

  -- a root that stays on the shelf is the result of the call on it
  stayed : (root : ℕ) (c : Call T) (s : ShelfData T) (x : RootData T) → Numbered s.roots → numbered root s.roots ≡ Some x → is_on root (after c s) ≡ true → numbered root (after c s).roots ≡ Some (effect root c x)
  stayed root (adds_program name program) s x once h on = h
  stayed root (removes_program name) s x once h on = h
  stayed root (adds_root text number) s x once h on = by (list_any (is_newer text number) s.roots) refl on
    where
      last : (b : Bool) → nat_eq root number ≡ b → list_any (is_newer text number) s.roots ≡ false → is_some (cond b (Some (new_root {T = T} text number)) None) ≡ true → cond b (Some (new_root text number)) None ≡ Some x
      last true same none on =
          let missing : numbered root s.roots ≡ None = subst (λ m. numbered m s.roots ≡ None) (sym (same_number root number same)) (not_newer number text s.roots none) in
          let no : None ≡ Some x = sym missing ∙ h in cc
      last false differs none on = absurd (true≢false (sym on))

      new : ((numbered root (without_text text s.roots) ≡ Some x) ⊎ (numbered root (without_text text s.roots) ≡ None)) → list_any (is_newer text number) s.roots ≡ false → is_some (numbered root (without_text text s.roots ++ new_root text number ∷ [])) ≡ true → numbered root (without_text text s.roots ++ new_root text number ∷ []) ≡ Some x
      new (inl is) none on = append-some root (without_text text s.roots) (new_root text number ∷ []) x is
      new (inr is) none on =
          append-none root (without_text text s.roots) (new_root text number ∷ []) is
          ∙ last (nat_eq root number) refl none (sym (ap is_some (append-none root (without_text text s.roots) (new_root text number ∷ []) is)) ∙ on)

      by : (b : Bool) → list_any (is_newer text number) s.roots ≡ b → is_some (numbered root (cond b s.roots (without_text text s.roots ++ new_root text number ∷ []))) ≡ true → numbered root (cond b s.roots (without_text text s.roots ++ new_root text number ∷ [])) ≡ Some x
      by true newer on = h
      by false none on = new (filter-some root (λ r. not (bytes_eq text r.text)) s.roots x once h) none on
  stayed root (removes_root number) s x once h on = by (filter-some root (λ r. not (nat_eq number r.number)) s.roots x once h)
    where
      by : ((numbered root (without_number number s.roots) ≡ Some x) ⊎ (numbered root (without_number number s.roots) ≡ None)) → numbered root (without_number number s.roots) ≡ Some x
      by (inl is) = is
      by (inr is) = absurd (true≢false (sym on ∙ ap is_some is))
  stayed root (uses_cursor r name tick) s x once h on = on-change root r (with_cursor name tick) (λ r. refl) s.roots x h
  stayed root (unsets_cursor r name) s x once h on = on-change root r (without_cursor name) (λ r. refl) s.roots x h
  stayed root (adds_trigger r name trigger) s x once h on = on-change root r (with_trigger name trigger) (λ r. refl) s.roots x h
  stayed root (removes_trigger r name) s x once h on = on-change root r (without_trigger name) (λ r. refl) s.roots x h

  -- a root that is not there is none
  no_root : {A : Type 0} (x : RootData T) (o : Option (RootData T)) → o ≡ None → o ≡ Some x → A
  no_root x o none some = let no : None ≡ Some x = sym none ∙ some in absurd (let none : ⊥ = cc in none)

  -- a root that comes onto the shelf has nothing
  abbrev IsNew : RootData T → Type 0
  IsNew x = (x.cursors ≡ []) × (x.triggers ≡ [])

  -- a root that a call brings onto the shelf is new
  came : (root : ℕ) (c : Call T) (s : ShelfData T) (x : RootData T) → numbered root s.roots ≡ None → numbered root (after c s).roots ≡ Some x → IsNew x
  came root (adds_program name program) s x none some = no_root x _ none some
  came root (removes_program name) s x none some = no_root x _ none some
  came root (adds_root text number) s x none some = by (list_any (is_newer text number) s.roots) some
    where
      last : (b : Bool) → cond b (Some (new_root {T = T} text number)) None ≡ Some x → IsNew x
      last true is = let same : new_root text number ≡ x = cc in subst IsNew same (refl, refl)
      last false is = let no : None ≡ Some x = is in no_root x None refl no

      by : (b : Bool) → numbered root (cond b s.roots (without_text text s.roots ++ new_root text number ∷ [])) ≡ Some x → IsNew x
      by true some = no_root x _ none some
      by false some = last (nat_eq root number) (sym (append-none root (without_text text s.roots) (new_root text number ∷ []) (filter-none root (λ r. not (bytes_eq text r.text)) s.roots none)) ∙ some)
  came root (removes_root number) s x none some = no_root x _ (filter-none root (λ r. not (nat_eq number r.number)) s.roots none) some
  came root (uses_cursor r name tick) s x none some = no_root x _ (changed-none root r (with_cursor name tick) (λ r. refl) s.roots none) some
  came root (unsets_cursor r name) s x none some = no_root x _ (changed-none root r (without_cursor name) (λ r. refl) s.roots none) some
  came root (adds_trigger r name trigger) s x none some = no_root x _ (changed-none root r (with_trigger name trigger) (λ r. refl) s.roots none) some
  came root (removes_trigger r name) s x none some = no_root x _ (changed-none root r (without_trigger name) (λ r. refl) s.roots none) some

  -- of a part of roots that a new one has empty, and that calls change while the root stays
  module _ {B U : Type 0} (part : Option (RootData T) → B) (empty : B) (uses : ℕ → Call T → List U) (run : List U → B → B)
      (run-nil : (b : B) → run [] b ≡ b)
      (run-append : (us vs : List U) (b : B) → run (us ++ vs) b ≡ run vs (run us b))
      (part-none : part None ≡ empty)
      (part-new : (x : RootData T) → IsNew x → part (Some x) ≡ empty)
      (part-effect : (root : ℕ) (c : Call T) (x : RootData T) → part (Some (effect root c x)) ≡ run (uses root c) (part (Some x))) where
    -- the effect of a call on the part of a root that stays
    part-stays : (root : ℕ) (c : Call T) (s : ShelfData T) → Numbered s.roots → stays_on root s c ≡ true → part (numbered root (after c s).roots) ≡ run (uses root c) (part (numbered root s.roots))
    part-stays root c s once h = by (numbered root s.roots) refl
      where
        by : (o : Option (RootData T)) → numbered root s.roots ≡ o → part (numbered root (after c s).roots) ≡ run (uses root c) (part (numbered root s.roots))
        by None is = absurd (true≢false (sym (and_parts _ _ h).0 ∙ ap is_some is))
        by (Some x) is =
            ap part (stayed root c s x once is (and_parts _ _ h).1)
            ∙ part-effect root c x
            ∙ ap (λ o. run (uses root c) (part o)) (sym is)

    -- if the root is not there before or after, the part is empty
    part-off : (root : ℕ) (c : Call T) (s : ShelfData T) → stays_on root s c ≡ false → part (numbered root (after c s).roots) ≡ empty
    part-off root c s h = by (numbered root (after c s).roots) refl
      where
        was : (x : RootData T) (o : Option (RootData T)) → numbered root s.roots ≡ o → numbered root (after c s).roots ≡ Some x → part (Some x) ≡ empty
        was x None none some = part-new x (came root c s x none some)
        was x (Some y) there some = absurd (true≢false (sym (ap (λ b. b && is_on root (after c s)) (ap is_some there) ∙ ap is_some some) ∙ h))

        by : (o : Option (RootData T)) → numbered root (after c s).roots ≡ o → part (numbered root (after c s).roots) ≡ empty
        by None is = ap part is ∙ part-none
        by (Some x) is = ap part is ∙ was x (numbered root s.roots) refl is

    -- the part comes of the calls since the root was added
    kept : (root : ℕ) (cs : List (Call T)) (s : ShelfData T) → Numbered s.roots → part (numbered root (after_all cs s).roots) ≡ run (flat_map (uses root) (since_added root s cs)) (cond (is_interrupted root s cs) empty (part (numbered root s.roots)))
    kept root [] s once = sym (run-nil (part (numbered root s.roots)))
    kept root (c ∷ cs) s once =
        kept root cs (after c s) (numbered-after c s once)
        ∙ by (is_interrupted root (after c s) cs) (stays_on root s c) refl
      where
        by : (i b : Bool) → stays_on root s c ≡ b → run (flat_map (uses root) (since_added root (after c s) cs)) (cond i empty (part (numbered root (after c s).roots))) ≡ run (flat_map (uses root) (cond (not b || i) (since_added root (after c s) cs) (c ∷ since_added root (after c s) cs))) (cond (not b || i) empty (part (numbered root s.roots)))
        by true true h = refl
        by true false h = refl
        by false true h =
            ap (run (flat_map (uses root) (since_added root (after c s) cs))) (part-stays root c s once h)
            ∙ sym (run-append (uses root c) (flat_map (uses root) (since_added root (after c s) cs)) (part (numbered root s.roots)))
        by false false h = ap (run (flat_map (uses root) (since_added root (after c s) cs))) (part-off root c s h)

-- uses, one list after another
used-append : (us vs : List Use) (xs : ByName ℕ) → used (us ++ vs) xs ≡ used vs (used us xs)
used-append [] vs xs = refl
used-append (u ∷ us) vs xs = used-append us vs (used_by u xs)

-- changes, one list after another
made-append : {A : Type 0} (us vs : List (Change A)) (xs : ByName A) → made (us ++ vs) xs ≡ made vs (made us xs)
made-append [] vs xs = refl
made-append (u ∷ us) vs xs = made-append us vs (changed_by u xs)

module _ {T : Type 0} where
  -- the effect of a call on the cursors of a root
  cursors-effect : (root : ℕ) (c : Call T) (x : RootData T) → cursors_in (Some (effect root c x)) ≡ used (cursor_use root c) x.cursors
  cursors-effect root (adds_program name program) x = refl
  cursors-effect root (removes_program name) x = refl
  cursors-effect root (adds_root text number) x = refl
  cursors-effect root (removes_root number) x = refl
  cursors-effect root (uses_cursor r name tick) x = elim (nat_eq root r) as (λ b. cursors_in (Some (cond b (with_cursor name tick x) x)) ≡ used (cond b (at_tick name tick ∷ []) []) x.cursors) [ true ↦ refl | false ↦ refl ]
  cursors-effect root (unsets_cursor r name) x = elim (nat_eq root r) as (λ b. cursors_in (Some (cond b (without_cursor name x) x)) ≡ used (cond b (unsetting name ∷ []) []) x.cursors) [ true ↦ refl | false ↦ refl ]
  cursors-effect root (adds_trigger r name trigger) x = elim (nat_eq root r) as (λ b. cursors_in (Some (cond b (with_trigger name trigger x) x)) ≡ x.cursors) [ true ↦ refl | false ↦ refl ]
  cursors-effect root (removes_trigger r name) x = elim (nat_eq root r) as (λ b. cursors_in (Some (cond b (without_trigger name x) x)) ≡ x.cursors) [ true ↦ refl | false ↦ refl ]

  -- and of its triggers
  triggers-effect : (root : ℕ) (c : Call T) (x : RootData T) → triggers_in (Some (effect root c x)) ≡ made (trigger_change root c) x.triggers
  triggers-effect root (adds_program name program) x = refl
  triggers-effect root (removes_program name) x = refl
  triggers-effect root (adds_root text number) x = refl
  triggers-effect root (removes_root number) x = refl
  triggers-effect root (uses_cursor r name tick) x = elim (nat_eq root r) as (λ b. triggers_in (Some (cond b (with_cursor name tick x) x)) ≡ x.triggers) [ true ↦ refl | false ↦ refl ]
  triggers-effect root (unsets_cursor r name) x = elim (nat_eq root r) as (λ b. triggers_in (Some (cond b (without_cursor name x) x)) ≡ x.triggers) [ true ↦ refl | false ↦ refl ]
  triggers-effect root (adds_trigger r name trigger) x = elim (nat_eq root r) as (λ b. triggers_in (Some (cond b (with_trigger name trigger x) x)) ≡ made (cond b (putting name trigger ∷ []) []) x.triggers) [ true ↦ refl | false ↦ refl ]
  triggers-effect root (removes_trigger r name) x = elim (nat_eq root r) as (λ b. triggers_in (Some (cond b (without_trigger name x) x)) ≡ made (cond b (removing name ∷ []) []) x.triggers) [ true ↦ refl | false ↦ refl ]

-- the law of the cursors of a root
pub cursors_are_made : {T : Type 0} → CursorsAreMade T
cursors_are_made {T} calls sockname root =
    kept (cursors_in {T = T}) [] cursor_use used (λ b. refl) used-append refl (λ x new. new.0) cursors-effect root calls (blank sockname) tt
    ∙ ap (used (flat_map (cursor_use root) (since_added root (blank sockname) calls))) (nothing (is_interrupted root (blank sockname) calls))
  where
    nothing : (b : Bool) → cond {A = ByName ℕ} b [] [] ≡ []
    nothing true = refl
    nothing false = refl

-- the law of its triggers
pub triggers_are_made : {T : Type 0} → TriggersAreMade T
triggers_are_made {T} calls sockname root =
    kept (triggers_in {T = T}) [] trigger_change made (λ b. refl) made-append refl (λ x new. new.1) triggers-effect root calls (blank sockname) tt
    ∙ ap (made (flat_map (trigger_change root) (since_added root (blank sockname) calls))) (nothing (is_interrupted root (blank sockname) calls))
  where
    nothing : (b : Bool) → cond {A = ByName T} b [] [] ≡ []
    nothing true = refl
    nothing false = refl
