-- The directories that are too deep for a path: no file below them is under the path.
use Rattle.std.proofs.Common.{◌≡◌, ℕ, ℤ, pos, suc, ◌+◌, ◌-◌, ◌<◌, ◌≤◌, Bool, true, false, cond, ◌&&◌, ◌==◌, if◌then◌else◌, is_some, List, [], ◌∷◌, ◌++◌, length, take, drop, get_or, count_by, bytes_eq, nat_le, Option, Some, None, refl, sym, ap, subst, ◌∙◌, arith, length-append, length-take}
use mathlib.Core.Bool.{false≢true}
use Rattle.std.specs.Option.{option_map_or}
use Rattle.std.specs.Str.{byte}
use Rattle.std.proofs.lemmas.Bool.{eq-eqb, eqb-true, lt-leb, ne_eqb}
use Rattle.std.proofs.lemmas.List.{take-append-drop, drop_more, append_assoc}
use Rattle.std.proofs.lemmas.Option.{same_Some}
use Rattle.std.proofs.lemmas.List.Sums.{sum_by-append, sum_by-cons}
use Rattle.wq_base.specs.Byte.{is_slash}
use Rattle.wq_base.specs.Directory.{after_slash, rest_below}
use Rattle.wq_base.specs.declared.compare.Case.TheVariants.{Exact}
use Rattle.wq_record.specs.RecordData.{RecordData}
use Rattle.wq_term.specs.declared.generators.PathGen.{PathGen}
use Rattle.wq_gen.specs.Candidate.{is_under, is_within}
use Rattle.wq_gen.specs.Depth.{IsDeep}

abbrev pub slash : ℕ
slash = byte "/"

-- what follows a directory and a slash, byte by byte
abbrev pub after : List ℕ → List ℕ → Option (List ℕ)
after [] name = after_slash name
after (d ∷ dir) [] = None
after (d ∷ dir) (b ∷ name) = if b == d then after dir name else None

after_is : (dir name : List ℕ) → (if bytes_eq (take (length dir) name) dir then after_slash (drop (length dir) name) else None) ≡ after dir name
after_is [] name = refl
after_is (d ∷ dir) [] = refl
after_is (d ∷ dir) (b ∷ name) = at (b == d) (after_is dir name)
  where
    at : (e : Bool) → (if bytes_eq (take (length dir) name) dir then after_slash (drop (length dir) name) else None) ≡ after dir name → (if (e && bytes_eq (take (length dir) name) dir) then after_slash (drop (length dir) name) else None) ≡ (if e then after dir name else None)
    at true rest = rest
    at false rest = refl

pub below_is : (d : ℕ) (dir name : List ℕ) → rest_below Exact (d ∷ dir) name ≡ after (d ∷ dir) name
below_is d dir name =
    let some : (length (d ∷ dir) == 0) ≡ false = ne_eqb (length (d ∷ dir)) 0 (λ e. omega (arith, e)) in
    ap (λ b. if b then Some name else (if bytes_eq (take (length (d ∷ dir)) name) (d ∷ dir) then after_slash (drop (length (d ∷ dir)) name) else None)) some ∙ after_is (d ∷ dir) name

none_some : (y : List ℕ) → None ≡ Some y → ⊥
none_some y e = false≢true (ap is_some e)

slash_form : (q y : List ℕ) → after_slash q ≡ Some y → q ≡ slash ∷ y
slash_form [] y e = absurd (none_some y e)
slash_form (b ∷ q) y e = at (is_slash b) refl e
  where
    at : (t : Bool) → is_slash b ≡ t → (if t then Some q else None) ≡ Some y → b ∷ q ≡ slash ∷ y
    at true is e = ap (λ x. x ∷ q) (eqb-true b slash is) ∙ ap (λ l. slash ∷ l) (same_Some q y e)
    at false is e = absurd (none_some y e)

-- a name is its directory, a slash and the rest
pub after_form : (f q y : List ℕ) → after f q ≡ Some y → q ≡ f ++ (slash ∷ y)
after_form [] q y e = slash_form q y e
after_form (d ∷ f) [] y e = absurd (none_some y e)
after_form (d ∷ f) (b ∷ q) y e = at (b == d) refl e (after_form f q y)
  where
    at : (t : Bool) → (b == d) ≡ t → (if t then after f q else None) ≡ Some y → (after f q ≡ Some y → q ≡ f ++ (slash ∷ y)) → b ∷ q ≡ d ∷ (f ++ (slash ∷ y))
    at true is e rest = ap (λ x. x ∷ q) (eqb-true b d is) ∙ ap (λ l. d ∷ l) (rest e)
    at false is e rest = absurd (none_some y e)

after_intro : (f y : List ℕ) → after f (f ++ (slash ∷ y)) ≡ Some y
after_intro [] y = refl
after_intro (d ∷ f) y = rw (eq-eqb d d refl) (after_intro f y)

-- what follows a directory, of a name below a directory in it
pub through : (p f q y : List ℕ) → after (p ++ (slash ∷ f)) q ≡ Some y → after p q ≡ Some (f ++ (slash ∷ y))
through p f q y e =
    ap (after p) (after_form (p ++ (slash ∷ f)) q y e ∙ append_assoc p (slash ∷ f) (slash ∷ y)) ∙ after_intro p (f ++ (slash ∷ y))

take_front : (p f l : List ℕ) → take (length p + 1 + length f) (p ++ (slash ∷ (f ++ l))) ≡ p ++ (slash ∷ f)
take_front [] f l =
    let count : 0 + 1 + length f ≡ suc (length f) = omega arith in
    ap (λ n. take n (slash ∷ (f ++ l))) count ∙ ap (λ rest. slash ∷ rest) (whole f l)
  where
    whole : (f l : List ℕ) → take (length f) (f ++ l) ≡ f
    whole [] l = refl
    whole (x ∷ f) l = ap (λ rest. x ∷ rest) (whole f l)
take_front (x ∷ p) f l =
    let count : suc (length p) + 1 + length f ≡ suc (length p + 1 + length f) = omega arith in
    ap (λ n. take n (x ∷ (p ++ (slash ∷ (f ++ l))))) count ∙ ap (λ rest. x ∷ rest) (take_front p f l)

-- a rest with one slash more than the depth is too deep
not_within : (d : ℕ) (depth : ℤ) (front y : List ℕ) → depth ≡ pos d → count_by is_slash front ≡ d → is_within depth (front ++ (slash ∷ y)) ≡ false
not_within d depth front y e count =
    let more : count_by is_slash (front ++ (slash ∷ y)) ≡ d + (1 + count_by is_slash y) =
    sum_by-append (λ b. cond (is_slash b) 1 0) front (slash ∷ y) ∙ ap (λ n. n + count_by is_slash (slash ∷ y)) count ∙ ap (λ n. d + n) (sum_by-cons (λ b. cond (is_slash b) 1 0) slash y) in
    ap (λ z. is_within z (front ++ (slash ∷ y))) e ∙ ap (λ n. nat_le n d) more ∙ lt-leb (d + (1 + count_by is_slash y)) d (omega arith)

-- the two sides of a slash
cut : (rest : List ℕ) (k : ℕ) → k < length rest → is_slash (get_or rest k 0) ≡ true → rest ≡ take k rest ++ (slash ∷ drop (k + 1) rest)
cut rest k h is =
    sym (take-append-drop k rest)
    ∙ ap (λ l. take k rest ++ l) (drop_more rest k 0 h ∙ ap (λ b. b ∷ drop (k + 1) rest) (eqb-true (get_or rest k 0) slash is))

pub from_some : (o : Option (List ℕ)) (goal : Type 0) → is_some o ≡ true → ((y : List ℕ) → o ≡ Some y → goal) → goal
from_some None goal e by = absurd (false≢true e)
from_some (Some y) goal e by = by y refl

length_taken : (k : ℕ) (l : List ℕ) → k ≤ length l → length (take k l) ≡ k
length_taken k l h = omega (arith, length-take k l, h)

-- a directory and what is below it
module _ (path : PathGen) (depth : ℕ) (is_depth : path.depth ≡ pos depth) where
  -- if what is below a directory has this rest, it is not under the path
  not_under : (r : RecordData) (rest : List ℕ) → rest_below Exact path.path r.name ≡ Some rest → is_within path.depth rest ≡ false → is_under path r ≡ false
  not_under r rest below deep = ap (λ o. option_map_or (is_within path.depth) o false) below ∙ deep

  whole_path : path.path ≡ [] → (name : List ℕ) (k : ℕ) → 1 ≤ k → k < length name → is_slash (get_or name k 0) ≡ true → count_by is_slash (take k name) ≡ depth → IsDeep path name (take k name)
  whole_path empty name k some h is count = at (take k name) refl
    where
      at : (dir : List ℕ) → take k name ≡ dir → IsDeep path name dir
      at [] e = absurd (omega (arith, ap length e, length-take k name, some, h))
      at (x ∷ f) e =
          let form : name ≡ (x ∷ f) ++ (slash ∷ drop (k + 1) name) = cut name k h is ∙ ap (λ l. l ++ (slash ∷ drop (k + 1) name)) e in (
            ap is_some (below_is x f name ∙ ap (after (x ∷ f)) form ∙ after_intro (x ∷ f) (drop (k + 1) name)),
            λ r below. from_some (after (x ∷ f) r.name) (is_under path r ≡ false) (sym (ap is_some (below_is x f r.name)) ∙ below) (λ y found.
                let here : rest_below Exact path.path r.name ≡ Some ((x ∷ f) ++ (slash ∷ y)) = ap (λ p. rest_below Exact p r.name) empty ∙ ap Some (after_form (x ∷ f) r.name y found) in
                not_under r ((x ∷ f) ++ (slash ∷ y)) here (not_within depth path.depth (x ∷ f) y is_depth (sym (ap (count_by is_slash) e) ∙ count))),
          )

  inner_path : (x : ℕ) (p name rest : List ℕ) (k n : ℕ) → path.path ≡ x ∷ p → rest_below Exact (x ∷ p) name ≡ Some rest → k < length rest → is_slash (get_or rest k 0) ≡ true → count_by is_slash (take k rest) ≡ depth → n ≡ length name - length rest + k → IsDeep path name (take n name)
  inner_path x p name rest k n is_path below h is count n_is =
      let front = take k rest in
      let later = drop (k + 1) rest in
      let found : after (x ∷ p) name ≡ Some rest = sym (below_is x p name) ∙ below in
      let form : name ≡ (x ∷ p) ++ (slash ∷ (front ++ (slash ∷ later))) = after_form (x ∷ p) name rest found ∙ ap (λ l. (x ∷ p) ++ (slash ∷ l)) (cut rest k h is) in
      let long : length front ≡ k = length_taken k rest (omega (arith, h)) in
      let count_name : length name ≡ length (x ∷ p) + suc (length rest) = ap length (after_form (x ∷ p) name rest found) ∙ length-append (x ∷ p) (slash ∷ rest) in
      let place : n ≡ length (x ∷ p) + 1 + length front = omega (arith, n_is, count_name, long) in
      let dir_is : take n name ≡ (x ∷ p) ++ (slash ∷ front) = ap (λ m. take m name) place ∙ ap (take (length (x ∷ p) + 1 + length front)) form ∙ take_front (x ∷ p) front (slash ∷ later) in
      subst (IsDeep path name) (sym dir_is) (
        ap is_some (below_is x (p ++ (slash ∷ front)) name ∙ ap (after ((x ∷ p) ++ (slash ∷ front))) (form ∙ sym (append_assoc (x ∷ p) (slash ∷ front) (slash ∷ later))) ∙ after_intro ((x ∷ p) ++ (slash ∷ front)) later),
        λ r under. from_some (after ((x ∷ p) ++ (slash ∷ front)) r.name) (is_under path r ≡ false) (sym (ap is_some (below_is x (p ++ (slash ∷ front)) r.name)) ∙ under) (λ y there.
            let here : rest_below Exact path.path r.name ≡ Some (front ++ (slash ∷ y)) = ap (λ q. rest_below Exact q r.name) is_path ∙ below_is x p r.name ∙ through (x ∷ p) front r.name y there in
            not_under r (front ++ (slash ∷ y)) here (not_within depth path.depth front y is_depth count)),
      )

  -- the directory of a name in which the depth is exceeded
  pub deep_there : (name rest : List ℕ) (k n : ℕ) → rest_below Exact path.path name ≡ Some rest → k < length rest → is_slash (get_or rest k 0) ≡ true → count_by is_slash (take k rest) ≡ depth → n ≡ length name - length rest + k → 1 ≤ n → IsDeep path name (take n name)
  deep_there name rest k n below h is count n_is some = at path.path refl
    where
      at : (p : List ℕ) → path.path ≡ p → IsDeep path name (take n name)
      at [] empty =
          let same : name ≡ rest = same_Some name rest (ap (λ p. rest_below Exact p name) (sym empty) ∙ below) in
          let place : n ≡ k = omega (arith, n_is, ap length same) in
          subst (λ m. IsDeep path name (take m name)) (sym place) (whole_path empty name k (omega (arith, some, place)) (omega (arith, h, ap length same)) (ap (λ l. is_slash (get_or l k 0)) same ∙ is) (ap (λ l. count_by is_slash (take k l)) same ∙ count))
      at (x ∷ p) is_path = inner_path x p name rest k n is_path (ap (λ q. rest_below Exact q name) (sym is_path) ∙ below) h is count n_is
