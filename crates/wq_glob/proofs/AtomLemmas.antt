-- Atoms take bytes off the text, so its length is enough for their number; and steps complete the atoms that were read.
use Rattle.std.proofs.Common.{◌≡◌, ℕ, zero, suc, ◌+◌, ◌<◌, ◌≤◌, Bool, true, false, ◌&&◌, ◌==◌, nat_le, if◌then◌else◌, List, [], ◌∷◌, ◌++◌, length, drop, Option, Some, None, option_map, refl, sym, ◌∙◌, ap, subst, arith, append_assoc, append-nil, length-drop}
use Rattle.std.specs.List.{prefix_len}
use Rattle.std.specs.Option.{option_and_then}
use Rattle.wq_base.specs.Byte.{is_slash}
use Rattle.wq_glob.specs.Byte.{is_star, is_open, is_close}
use Rattle.wq_glob.specs.Class.{Class}
use Rattle.wq_glob.specs.Reading.{begins, letter, class_at, class_items, first_item, before_items, items_from, is_negation}
use Rattle.wq_glob.specs.Atom.{Atom, One, Star, Dirs, class_of, literal_of, opens, literal_at, one_of_at, stars_at, stars_before, first_atom, atoms_from}
use Rattle.wq_glob.specs.Step.{IsStepOf, AllStand, step_opens}
use Rattle.wq_glob.specs.declared.class.Item.{Item}
use Rattle.wq_glob.specs.declared.flag.Flags.{Flags}
use Rattle.wq_glob.specs.declared.rules.Rules.{Rules}
use Rattle.wq_glob.specs.declared.step.Step.{Step}
use Rattle.wq_glob.proofs.ItemLemmas.{Shorter, NotLonger, letter_shorter, first_shorter}

-- reading a class leaves no longer text
before_not_longer : (text after : List ℕ) (item : Item) (o : Option (List Item × List ℕ)) → length after < length text → NotLonger after o → NotLonger text (before_items item o)
before_not_longer text after item None less h = tt
before_not_longer text after item (Some r) less h = omega arith

more_not_longer : (noescape : Bool) (text : List ℕ) (read : List ℕ → Option (List Item × List ℕ)) → ((t : List ℕ) → NotLonger t (read t)) → (o : Option (Item × List ℕ)) → Shorter text o →
    NotLonger text (option_and_then (λ item. before_items item.0 (read item.1)) o)
more_not_longer noescape text read each None s = tt
more_not_longer noescape text read each (Some r) s = before_not_longer text r.1 r.0 (read r.1) s (each r.1)

ends_or_more : (text : List ℕ) (closed : Bool) (o : Option (List Item × List ℕ)) → NotLonger text o → NotLonger text (if closed then Some ([], drop 1 text) else o)
ends_or_more text true o h = omega (arith, length-drop 1 text)
ends_or_more text false o h = h

items_not_longer : (noescape : Bool) (n : ℕ) (text : List ℕ) → NotLonger text (items_from n noescape text)
unfolding items_from
items_not_longer noescape zero text = tt
items_not_longer noescape (suc n) text =
    ends_or_more text (begins is_close text) _
    (more_not_longer noescape text (items_from n noescape) (items_not_longer noescape n) (first_item noescape text) (first_shorter noescape text))

class_items_not_longer : (noescape : Bool) (text : List ℕ) → NotLonger text (class_items noescape text)
unfolding class_items
class_items_not_longer noescape text =
    more_not_longer noescape text (λ t. items_from (length t) noescape t) (λ t. items_not_longer noescape (length t) t) (first_item noescape text) (first_shorter noescape text)

one_of_not_longer : (noescape : Bool) (text : List ℕ) → length (one_of_at noescape text).1 ≤ length text
unfolding one_of_at class_at
one_of_not_longer noescape text = at (begins is_negation text)
  where
    classed : Bool → Option (List Item × List ℕ) → Option (Class × List ℕ)
    classed n o = option_map (λ (items, after). (record { negated = n; items = items }, after)) o

    atom : (n : Bool) (short : List ℕ) (o : Option (List Item × List ℕ)) → length short ≤ length text → NotLonger short o →
        length (class_of (classed n o)).1 ≤ length text
    atom n short None less h = omega arith
    atom n short (Some r) less h = omega arith

    at : (n : Bool) → length (class_of (classed n (class_items noescape (if n then drop 1 text else text)))).1 ≤ length text
    at true = atom true (drop 1 text) (class_items noescape (drop 1 text)) (omega (arith, length-drop 1 text)) (class_items_not_longer noescape (drop 1 text))
    at false = atom false text (class_items noescape text) (omega arith) (class_items_not_longer noescape text)

literal_shorter : (noescape : Bool) (text : List ℕ) → 0 < length text → length (literal_at noescape text).1 < length text
unfolding literal_at
literal_shorter noescape text some = at (letter noescape text) (letter_shorter noescape text)
  where
    at : (o : Option (ℕ × List ℕ)) → Shorter text o → length (literal_of o).1 < length text
    at None s = some
    at (Some r) s = s

-- how many bytes follow an atom
abbrev left : Atom × List ℕ → ℕ
left r = length r.1

before_not : (text : List ℕ) → length (stars_before text).1 ≤ length text
before_not [] = omega arith
before_not (b ∷ bs) = at (is_slash b)
  where
    at : (s : Bool) → left (if s then (Dirs, bs) else (Star, b ∷ bs)) ≤ length (b ∷ bs)
    at true = omega arith
    at false = omega arith

stars_shorter : (wholename start : Bool) (b : ℕ) (bs : List ℕ) → is_star b ≡ true → length (stars_at wholename start (b ∷ bs)).1 < length (b ∷ bs)
unfolding stars_at
stars_shorter wholename start b bs star =
    let run : ℕ = prefix_len is_star (b ∷ bs) in
    at (wholename && start && nat_le 2 run) (drop run (b ∷ bs)) (let e : length (drop run (b ∷ bs)) < length (b ∷ bs) = rw star (omega (arith, length-drop (1 + prefix_len is_star bs) (b ∷ bs))) in e)
  where
    at : (double : Bool) (after : List ℕ) → length after < length (b ∷ bs) → left (if double then stars_before after else (Star, after)) < length (b ∷ bs)
    at true after less = omega (arith, before_not after)
    at false after less = less

-- an atom takes at least one byte
atom_shorter : (f : Flags) (start : Bool) (b : ℕ) (bs : List ℕ) → length (first_atom f start (b ∷ bs)).1 ≤ length bs
unfolding first_atom
atom_shorter f start b bs = at (is_star b) (b == 63) (is_open b) refl
  where
    at : (s q c : Bool) → is_star b ≡ s →
        left (if s then stars_at f.wholename start (b ∷ bs) else if q then (One, bs) else if c then one_of_at f.noescape bs else literal_at f.noescape (b ∷ bs)) ≤ length bs
    at true q c is = let h = stars_shorter f.wholename start b bs is in omega arith
    at false true c is = omega arith
    at false false true is = one_of_not_longer f.noescape bs
    at false false false is = let h = literal_shorter f.noescape (b ∷ bs) (omega arith) in omega arith

-- so a text's length is enough for its atoms
atoms_enough : (f : Flags) (n m : ℕ) (start : Bool) (text : List ℕ) → length text ≤ n → length text ≤ m → atoms_from n f start text ≡ atoms_from m f start text
unfolding atoms_from
atoms_enough f zero zero start text a b = refl
atoms_enough f zero (suc m) start [] a b = refl
atoms_enough f zero (suc m) start (x ∷ xs) a b = absurd (omega arith)
atoms_enough f (suc n) zero start [] a b = refl
atoms_enough f (suc n) zero start (x ∷ xs) a b = absurd (omega arith)
atoms_enough f (suc n) (suc m) start [] a b = refl
atoms_enough f (suc n) (suc m) start (x ∷ xs) a b =
    let r : Atom × List ℕ = first_atom f start (x ∷ xs) in
    let less = atom_shorter f start x xs in
    ap (λ (l : List Atom). r.0 ∷ l) (atoms_enough f n m (opens r.0) r.1 (omega arith) (omega arith))

-- the atoms of a text that is not empty: the first, and those of the rest
pub atoms_step : (f : Flags) (start : Bool) (text : List ℕ) → 0 < length text →
    atoms_from (length text) f start text ≡ (first_atom f start text).0 ∷ atoms_from (length (first_atom f start text).1) f (opens (first_atom f start text).0) (first_atom f start text).1
unfolding atoms_from
atoms_step f start [] some = absurd (omega arith)
atoms_step f start (x ∷ xs) some =
    let r : Atom × List ℕ = first_atom f start (x ∷ xs) in
    ap (λ (l : List Atom). r.0 ∷ l) (atoms_enough f (length xs) (length r.1) (opens r.0) r.1 (atom_shorter f start x xs) (omega arith))

-- the first atom takes at least one byte off the text
pub atom_less : (f : Flags) (start : Bool) (text : List ℕ) → 0 < length text → length (first_atom f start text).1 < length text
atom_less f start [] some = absurd (omega arith)
atom_less f start (x ∷ xs) some = let h = atom_shorter f start x xs in omega arith

-- a text has at most as many atoms as bytes
pub atoms_few : (f : Flags) (n : ℕ) (start : Bool) (text : List ℕ) → length (atoms_from n f start text) ≤ n
unfolding atoms_from
atoms_few f zero start text = omega arith
atoms_few f (suc n) start [] = omega arith
atoms_few f (suc n) start (x ∷ xs) =
    let r : Atom × List ℕ = first_atom f start (x ∷ xs) in
    let h = atoms_few f n (opens r.0) r.1 in omega arith

-- steps for the atoms that are left complete those that were read
pub atoms_more : (f : Rules) (flags : Flags) (step : Step) (start : Bool) (text after : List ℕ) (steps tail : List Step) (opening : Bool) (all : List Atom) → 0 < length text →
    IsStepOf f step (first_atom flags start text).0 → after ≡ (first_atom flags start text).1 → opening ≡ step_opens step →
    ((tail : List Step) → AllStand f tail (atoms_from (length text) flags start text) → AllStand f (steps ++ tail) all) →
    AllStand f tail (atoms_from (length after) flags opening after) → AllStand f ((steps ++ step ∷ []) ++ tail) all
atoms_more f flags step start text after steps tail opening all some stands after_is opening_is was left =
    let r : Atom × List ℕ = first_atom flags start text in
    let opens_is : opening ≡ opens r.0 = opening_is ∙ stands.same_opening in
    let later : AllStand f tail (atoms_from (length r.1) flags (opens r.0) r.1) =
    subst (λ (o : Bool). AllStand f tail (atoms_from (length r.1) flags o r.1)) opens_is
    (subst (λ (t : List ℕ). AllStand f tail (atoms_from (length t) flags opening t)) after_is left) in
    let here : AllStand f (step ∷ tail) (atoms_from (length text) flags start text) =
    subst (AllStand f (step ∷ tail)) (sym (atoms_step flags start text some)) (stands, later) in
    subst (λ (l : List Step). AllStand f l all) (sym (append_assoc steps (step ∷ []) tail)) (was (step ∷ tail) here)

-- if nothing is left, all was read
pub atoms_end : (f : Rules) (flags : Flags) (start : Bool) (text : List ℕ) (steps : List Step) (all : List Atom) → length text ≡ 0 →
    ((tail : List Step) → AllStand f tail (atoms_from (length text) flags start text) → AllStand f (steps ++ tail) all) → AllStand f steps all
unfolding atoms_from
atoms_end f flags start [] steps all none was = subst (λ (l : List Step). AllStand f l all) (append-nil steps) (was [] tt)
atoms_end f flags start (x ∷ xs) steps all none was = absurd (omega arith)
