-- Paths that hold other paths.
use Rattle.std.proofs.Common.{◌≡◌, ◌⊎◌, inl, inr, ℕ, ℤ, pos, negsuc, Bool, true, false, not, ◌&&◌, ◌||◌, ◌==◌, count_by, is_some, bytes_eq, List, [], ◌∷◌, ◌++◌, Option, Some, None, refl, sym, ap, subst, ◌∙◌, arith}
use mathlib.Core.Bool.{false≢true}
use Rattle.std.specs.Prelude.{int_le}
use Rattle.std.specs.Option.{option_map_or}
use Rattle.std.specs.Str.{byte}
use Rattle.std.proofs.lemmas.Bool.{and_from, and_parts, le-leb, leb-true, or_left, or_right}
use Rattle.std.proofs.lemmas.Bool.Decides.{Decides-int_eq}
use Rattle.std.proofs.lemmas.Slice.Eq.{bytes_eq-Decides}
use Rattle.wq_base.specs.Byte.{is_slash}
use Rattle.wq_base.specs.Directory.{rest_below}
use Rattle.wq_base.specs.declared.compare.Case.TheVariants.{Exact}
use Rattle.wq_record.specs.Kind.{letter_of}
use Rattle.wq_record.specs.RecordData.{RecordData}
use Rattle.wq_term.specs.declared.generators.PathGen.{PathGen}
use Rattle.wq_gen.specs.Candidate.{is_itself, is_under, is_within}
use Rattle.wq_gen.specs.Outer.{holds, is_unlimited, reaches}
use Rattle.wq_gen.proofs.Deep.{after, after_form, below_is, from_some, slash, through}

pub either : {G : Type 0} (a b : Bool) → (a || b) ≡ true → (a ≡ true → G) → (b ≡ true → G) → G
either true b e f g = f refl
either false b e f g = g e

-- an order of whole numbers
pub int_le_chain : (x y z : ℤ) → int_le x y ≡ true → int_le y z ≡ true → int_le x z ≡ true
int_le_chain (pos a) (pos b) (pos c) e f = le-leb a c (omega (arith, leb-true a b e, leb-true b c f))
int_le_chain (pos a) (pos b) (negsuc c) e f = absurd (false≢true f)
int_le_chain (pos a) (negsuc b) z e f = absurd (false≢true e)
int_le_chain (negsuc a) (pos b) (pos c) e f = refl
int_le_chain (negsuc a) (pos b) (negsuc c) e f = absurd (false≢true f)
int_le_chain (negsuc a) (negsuc b) (pos c) e f = refl
int_le_chain (negsuc a) (negsuc b) (negsuc c) e f = le-leb c a (omega (arith, leb-true b a e, leb-true c b f))

int_le_itself : (x : ℤ) → int_le x x ≡ true
int_le_itself (pos a) = le-leb a a (omega arith)
int_le_itself (negsuc a) = le-leb a a (omega arith)

pub unlimited_is : (d : ℤ) → is_unlimited d ≡ true → d ≡ negsuc 0
unlimited_is d e = (Decides-int_eq d (negsuc 0)).0 e

-- a depth reaches as far as itself, and as far as one that another one reaches
reaches_itself : (d : ℤ) → reaches d d ≡ true
reaches_itself d = at (is_unlimited d)
  where
    at : (b : Bool) → (b || (not b && int_le d d)) ≡ true
    at true = refl
    at false = int_le_itself d

pub reaches_on : (d e f : ℤ) → reaches d e ≡ true → reaches e f ≡ true → reaches d f ≡ true
reaches_on d e f = at (is_unlimited d) (is_unlimited e) (is_unlimited f)
  where
    at : (a b c : Bool) → (a || (not b && int_le e d)) ≡ true → (b || (not c && int_le f e)) ≡ true → (a || (not c && int_le f d)) ≡ true
    at true b c h k = refl
    at false true c h k = absurd (false≢true h)
    at false false true h k = absurd (false≢true k)
    at false false false h k = int_le_chain f e d k h

-- what reaches as far as no limit has none
reaches_unlimited : (d e : ℤ) → reaches d e ≡ true → is_unlimited e ≡ true → is_unlimited d ≡ true
reaches_unlimited d e = at (is_unlimited d) (is_unlimited e)
  where
    at : (a b : Bool) → (a || (not b && int_le e d)) ≡ true → b ≡ true → a ≡ true
    at true b h k = refl
    at false true h k = h
    at false false h k = absurd (false≢true k)

pub unlimited_reaches : (d e : ℤ) → is_unlimited d ≡ true → reaches d e ≡ true
unlimited_reaches d e h = or_left (is_unlimited d) (not (is_unlimited e) && int_le e d) h

-- the two ways in which a path holds another one
abbrev pub Held : PathGen → PathGen → Type 0
Held p q =
    ((p.path ≡ q.path) × (reaches p.depth q.depth ≡ true))
    ⊎ ((is_unlimited p.depth ≡ true) × (is_some (rest_below Exact p.path q.path) ≡ true))

pub held_from : (p q : PathGen) → holds p q ≡ true → Held p q
held_from p q h = either (bytes_eq p.path q.path && reaches p.depth q.depth) (is_unlimited p.depth && is_some (rest_below Exact p.path q.path)) h
    (λ same. let parts = and_parts (bytes_eq p.path q.path) (reaches p.depth q.depth) same in inl ((bytes_eq-Decides p.path q.path).0 parts.0, parts.1))
    (λ below. inr (and_parts (is_unlimited p.depth) (is_some (rest_below Exact p.path q.path)) below))

pub held_is : (p q : PathGen) → Held p q → holds p q ≡ true
held_is p q (inl (same, reach)) = or_left (bytes_eq p.path q.path && reaches p.depth q.depth) (is_unlimited p.depth && is_some (rest_below Exact p.path q.path)) (and_from (bytes_eq p.path q.path) (reaches p.depth q.depth) ((bytes_eq-Decides p.path q.path).1 same) reach)
held_is p q (inr (wide, below)) = or_right (bytes_eq p.path q.path && reaches p.depth q.depth) (is_unlimited p.depth && is_some (rest_below Exact p.path q.path)) (and_from (is_unlimited p.depth) (is_some (rest_below Exact p.path q.path)) wide below)

-- what is below what is below a path is below it
below_both : (p q name : List ℕ) → is_some (rest_below Exact p q) ≡ true → is_some (rest_below Exact q name) ≡ true → is_some (rest_below Exact p name) ≡ true
below_both [] q name e f = refl
below_both (x ∷ p) q name e f =
    from_some (rest_below Exact (x ∷ p) q) (is_some (rest_below Exact (x ∷ p) name) ≡ true) e (λ rest is.
    from_some (rest_below Exact q name) (is_some (rest_below Exact (x ∷ p) name) ≡ true) f (λ y there.
    let form : q ≡ x ∷ (p ++ (slash ∷ rest)) = after_form (x ∷ p) q rest (sym (below_is x p q) ∙ is) in
    let below : after (x ∷ (p ++ (slash ∷ rest))) name ≡ Some y = sym (below_is x (p ++ (slash ∷ rest)) name) ∙ subst (λ d. rest_below Exact d name ≡ Some y) form there in
    ap is_some (below_is x p name ∙ through (x ∷ p) rest name y below)))

-- a path holds itself, and what is held by one that it holds
pub holds_itself : (p : PathGen) → holds p p ≡ true
holds_itself p = held_is p p (inl (refl, reaches_itself p.depth))

held_on : (p q r : PathGen) → Held p q → Held q r → Held p r
held_on p q r (inl (same, reach)) (inl (same', reach')) = inl (same ∙ same', reaches_on p.depth q.depth r.depth reach reach')
held_on p q r (inl (same, reach)) (inr (wide, below)) = inr (reaches_unlimited p.depth q.depth reach wide, subst (λ x. is_some (rest_below Exact x r.path) ≡ true) (sym same) below)
held_on p q r (inr (wide, below)) (inl (same, reach)) = inr (wide, subst (λ x. is_some (rest_below Exact p.path x) ≡ true) same below)
held_on p q r (inr (wide, below)) (inr (wide', below')) = inr (wide, below_both p.path q.path r.path below below')

pub holds_on : (p q r : PathGen) → holds p q ≡ true → holds q r ≡ true → holds p r ≡ true
holds_on p q r h k = held_is p r (held_on p q r (held_from p q h) (held_from q r k))

module _ (r : RecordData) where
  abbrev itself : List ℕ → Bool
  itself path = bytes_eq r.name path && not (letter_of r.kind == byte "d")

  abbrev under : List ℕ → ℤ → Bool
  under path depth = option_map_or (is_within depth) (rest_below Exact path r.name) false

  abbrev given : List ℕ → ℤ → Bool
  given path depth = itself path || under path depth

  -- what a depth lets in, one that reaches as far does
  farther : (path : List ℕ) (d e : ℤ) → reaches d e ≡ true → under path e ≡ true → under path d ≡ true
  farther path d e h = at (rest_below Exact path r.name)
    where
      at : (o : Option (List ℕ)) → option_map_or (is_within e) o false ≡ true → option_map_or (is_within d) o false ≡ true
      at None k = k
      at (Some rest) k = reaches_on d e (pos (count_by is_slash rest)) h k

  some_under : (path : List ℕ) (d : ℤ) → under path d ≡ true → is_some (rest_below Exact path r.name) ≡ true
  some_under path d = at (rest_below Exact path r.name)
    where
      at : (o : Option (List ℕ)) → option_map_or (is_within d) o false ≡ true → is_some o ≡ true
      at None k = k
      at (Some rest) k = refl

  -- without limit all that is below a path is given
  wide_given : (path : List ℕ) (d : ℤ) → is_unlimited d ≡ true → is_some (rest_below Exact path r.name) ≡ true → given path d ≡ true
  wide_given path d wide e = or_right (itself path) (under path d) (at (rest_below Exact path r.name) e)
    where
      at : (o : Option (List ℕ)) → is_some o ≡ true → option_map_or (is_within d) o false ≡ true
      at None e = e
      at (Some rest) e = unlimited_reaches d (pos (count_by is_slash rest)) wide

  gives : (p q : PathGen) → Held p q → given q.path q.depth ≡ true → given p.path p.depth ≡ true
  gives p q (inl (same, reach)) h =
      subst (λ x. given x p.depth ≡ true) (sym same) (either (itself q.path) (under q.path q.depth) h
      (λ k. or_left (itself q.path) (under q.path p.depth) k)
      (λ k. or_right (itself q.path) (under q.path p.depth) (farther q.path p.depth q.depth reach k)))
  gives p q (inr (wide, below)) h =
      wide_given p.path p.depth wide (either (itself q.path) (under q.path q.depth) h
      (λ k. subst (λ name. is_some (rest_below Exact p.path name) ≡ true) (sym ((bytes_eq-Decides r.name q.path).0 (and_parts (bytes_eq r.name q.path) (not (letter_of r.kind == byte "d")) k).0)) below)
      (λ k. below_both p.path q.path r.name below (some_under q.path q.depth k)))

  -- a path gives what a path gives that it holds
  pub holds_gives : (p q : PathGen) → holds p q ≡ true → (is_itself q r || is_under q r) ≡ true → (is_itself p r || is_under p r) ≡ true
  holds_gives p q h = gives p q (held_from p q h)
